-- The headers whose moves an edit may change.
use Rattle.std.specs.Prelude.{ℕ, ◌≡◌, ◌↔◌, List, Option, Some, None, Contains, slice_get, take}
use Rattle.indexmap.specs.IndexMap.{get}
use Rattle.hdr_bits.specs.declared.header.Header.{Header}
use Rattle.hdr_bits.specs.HeaderBits.{IsHeader}
use Rattle.cube_diagram.specs.Functions.{Functions}
use Rattle.net_types.specs.declared.network.Move.{Move}
use Rattle.net_types.specs.declared.network.Move.TheVariants.{Drop}
use Rattle.net_types.specs.declared.network.Place.{Place}
use Rattle.net_types.specs.World.{same_place}
use Rattle.place_ways.specs.Devices.{place_of}
use Rattle.set_walk.specs.declared.net.PlaceWays.{PlaceWays}
use Rattle.set_walk.specs.declared.step.Way.{Way}
use Rattle.set_walk.specs.Sets.{InSet}
use Rattle.set_walk.specs.Ways.{HasMove}
use Rattle.incr_review.specs.declared.changed.WaysChange.{WaysChange}
use Rattle.incr_review.specs.Live.{ways_in}

-- the header makes the move at a place with these ways; where there are none, it is dropped
abbrev pub HasMoveIn : Functions → Option PlaceWays → Header → Move → Type 0
HasMoveIn fs None h m = Drop ≡ m
HasMoveIn fs (Some v) h m = HasMove fs v.ways.items h m

-- a header that isn't in the set makes the same moves by both
abbrev pub AgreeOutside : Functions → Functions → ℕ → Option PlaceWays → Option PlaceWays → Type 0
AgreeOutside f g set x y = (h : Header) → IsHeader h → (InSet g set h → ⊥) → (m : Move) → HasMoveIn f x h m ↔ HasMoveIn f y h m

-- the set has grown
abbrev pub IsWider : Functions → ℕ → Functions → ℕ → Type 0
IsWider f old g new = (h : Header) → IsHeader h → InSet f old h → InSet g new h

-- a header outside the set that is in the set of one of the ways is in that of one of the others with the same step
pub record HasOther (fs : Functions) (others : List Way) (h : Header) (x : Way) : Type 0 where
  pub way : Way
  pub among : Contains others way
  pub inside : InSet fs way.headers h
  pub step : way.step ≡ x.step

abbrev pub HaveOthers : Functions → Functions → ℕ → List Way → List Way → Type 0
HaveOthers f g set ways others = (h : Header) → IsHeader h → (InSet g set h → ⊥) → (x : Way) → Contains ways x → InSet f x.headers h → HasOther f others h x

abbrev pub before_at : WaysChange → Place → Option PlaceWays
before_at c p = ways_in c.lists.now (get same_place c.before.now) p

abbrev pub after_at : WaysChange → Place → Option PlaceWays
after_at c p = ways_in c.lists.now (get same_place c.after.now) p

-- so a header outside the set does at the places of the device that have these numbers
abbrev pub AgreeAtNumbers : Functions → Functions → ℕ → WaysChange → (ℕ → Type 0) → Type 0
AgreeAtNumbers f g set c P = (n : ℕ) → P n → AgreeOutside f g set (before_at c (place_of c.device.now n)) (after_at c (place_of c.device.now n))

-- a number before this index stands for a place that has the same positions
pub record IsKnownNumber (c : WaysChange) (numbers : List ℕ) (i : ℕ) : Type 0 where
  pub number : ℕ
  pub earlier : Contains (take i numbers) number
  pub before : (n : ℕ) → slice_get numbers i ≡ Some n → get same_place c.before.now (place_of c.device.now number) ≡ get same_place c.before.now (place_of c.device.now n)
  pub after : (n : ℕ) → slice_get numbers i ≡ Some n → get same_place c.after.now (place_of c.device.now number) ≡ get same_place c.after.now (place_of c.device.now n)
