-- Networks that differ in one device alone.
use Rattle.std.specs.Prelude.{ℕ, ◌≡◌, List}
use Rattle.std.specs.List.{AllZip}
use Rattle.net_types.specs.declared.network.NetDevice.{NetDevice}
use Rattle.net_types.specs.declared.network.Place.{Place}
use Rattle.net_types.specs.World.{World, seat_at, seat_passes, has_live, has_silent}

-- the segments are the same, every other device has the same interfaces at the same places, and the device itself still shows
-- its neighbours the same: the same places answer for each address, and the same places have it without being IP-enabled.
-- Its lists, its translations and its routes may differ. Law: a header that doesn't visit it walks alike in both
-- (`unvisited_walks_stay`)
pub record DiffersOnlyAt (old new : World) (device : ℕ) : Type 0 where
  pub segments : old.links.segments ≡ new.links.segments
  pub others : (p : Place) → (p.device ≡ device → ⊥) → seat_at old p ≡ seat_at new p
  pub live : (a : ℕ) (p : Place) → seat_passes (has_live a) (seat_at old p) ≡ seat_passes (has_live a) (seat_at new p)
  pub silent : (a : ℕ) (p : Place) → seat_passes (has_silent a) (seat_at old p) ≡ seat_passes (has_silent a) (seat_at new p)

-- y may stand in the place of x: it has its name and its interfaces, and where the name is another one it is the same device
pub record IsEdited (device : ℕ) (x y : NetDevice) : Type 0 where
  pub name : x.name ≡ y.name
  pub other : (x.name ≡ device → ⊥) → x ≡ y
  pub numbers : x.numbers ≡ y.numbers
  pub interfaces : x.config.interfaces ≡ y.config.interfaces

-- so it is with all devices, one for one
abbrev pub AreEdited : ℕ → List NetDevice → List NetDevice → Type 0
AreEdited device xs ys = AllZip (IsEdited device) xs ys
