-- A device that comes in the place of the one of its name.
use Rattle.std.proofs.Common.{ℕ, ◌≡◌, ◌==◌, inl, inr, cond, Bool, true, false, List, [], ◌∷◌, Some, None, find, position, map, slice_get, refl, ap, sym, ◌∙◌}
use Rattle.std.proofs.lemmas.Bool.Decides.{eqb_tells}
use Rattle.hdr_bits.specs.declared.header.Header.{Header}
use Rattle.cube_diagram.specs.Functions.{Functions}
use Rattle.live_network.specs.Replaced.{IsReplaced}
use Rattle.live_network.proofs.NetworkLemmas.{found_before}
use Rattle.live_network.proofs.ReplaceLemmas.{found_in, itself, same_name}
use Rattle.net_forms.proofs.FindLemmas.{not_found}
use Rattle.net_types.specs.declared.network.NetDevice.{NetDevice}
use Rattle.net_types.specs.declared.network.Network.{Network}
use Rattle.net_types.specs.World.{World}
use Rattle.set_walk.specs.Scopes.{AreAlikeBeyond}
use Rattle.set_walk.specs.Sets.{InSet}
use Rattle.rollout.specs.Steps.{device_after, network_after}

not_named : (n m : ℕ) → (n ≡ m → ⊥) → (n == m) ≡ false
not_named n m o = elim (eqb_tells n m) [ inl p ↦ absurd (o p.1) | inr p ↦ p.0 ]

-- ---- the devices after a change
module _ (y : NetDevice) where
  after_at : (d : NetDevice) (b : Bool) → (d.name == y.name) ≡ b → device_after y d ≡ cond b y d
  after_at d b e = ap (λ c. cond c y d) e

  found_after : (ds : List NetDevice) (x : NetDevice) → find (λ d. d.name == y.name) ds ≡ Some x → find (λ d. d.name == y.name) (map (device_after y) ds) ≡ Some y
  found_after [] x e = absurd cc
  found_after (d ∷ ds) x e = by (found_after ds x) (d.name == y.name) refl e
    where
      rest : List NetDevice
      rest = map (device_after y) ds

      by : (find (λ z. z.name == y.name) ds ≡ Some x → find (λ z. z.name == y.name) rest ≡ Some y) → (b : Bool) → (d.name == y.name) ≡ b → cond b (Some d) (find (λ z. z.name == y.name) ds) ≡ Some x → find (λ z. z.name == y.name) (map (device_after y) (d ∷ ds)) ≡ Some y
      by more true t q =
          ap (λ (z : NetDevice). cond (z.name == y.name) (Some z) (find (λ u. u.name == y.name) rest)) (after_at d true t)
          ∙ ap (λ c. cond c (Some y) (find (λ u. u.name == y.name) rest)) (itself y.name)
      by more false t q =
          ap (λ (z : NetDevice). cond (z.name == y.name) (Some z) (find (λ u. u.name == y.name) rest)) (after_at d false t)
          ∙ (ap (λ c. cond c (Some d) (find (λ u. u.name == y.name) rest)) t ∙ more q)

  others_after : (n : ℕ) → (n ≡ y.name → ⊥) → (ds : List NetDevice) → find (λ d. d.name == n) ds ≡ find (λ d. d.name == n) (map (device_after y) ds)
  others_after n o [] = refl
  others_after n o (d ∷ ds) = by (others_after n o ds) (d.name == y.name) refl
    where
      rest : List NetDevice
      rest = map (device_after y) ds

      by : find (λ z. z.name == n) ds ≡ find (λ z. z.name == n) rest → (b : Bool) → (d.name == y.name) ≡ b → find (λ z. z.name == n) (d ∷ ds) ≡ find (λ z. z.name == n) (map (device_after y) (d ∷ ds))
      by more true t =
          let named : d.name ≡ y.name = same_name d.name y.name t in
          let one : (d.name == n) ≡ false = not_named d.name n (λ e. o (sym e ∙ named)) in
          let other : (y.name == n) ≡ false = not_named y.name n (λ e. o (sym e)) in
          ap (λ c. cond c (Some d) (find (λ z. z.name == n) ds)) one
          ∙ (more
          ∙ (sym (ap (λ c. cond c (Some y) (find (λ z. z.name == n) rest)) other)
          ∙ sym (ap (λ (z : NetDevice). cond (z.name == n) (Some z) (find (λ u. u.name == n) rest)) (after_at d true t))))
      by more false t =
          ap (λ r. cond (d.name == n) (Some d) r) more
          ∙ sym (ap (λ (z : NetDevice). cond (z.name == n) (Some z) (find (λ u. u.name == n) rest)) (after_at d false t))

  same_after : (ds : List NetDevice) → find (λ d. d.name == y.name) ds ≡ None → map (device_after y) ds ≡ ds
  same_after [] e = refl
  same_after (d ∷ ds) e = by (same_after ds) (d.name == y.name) refl e
    where
      by : (find (λ z. z.name == y.name) ds ≡ None → map (device_after y) ds ≡ ds) → (b : Bool) → (d.name == y.name) ≡ b → cond b (Some d) (find (λ z. z.name == y.name) ds) ≡ None → map (device_after y) (d ∷ ds) ≡ d ∷ ds
      by more true t q = absurd cc
      by more false t q = let rest = more q in λ i. after_at d false t i ∷ rest i

-- ---- the network after it
pub step_replaced : (v w : World) (x y : NetDevice) (i : ℕ) → w.network ≡ network_after y v.network → v.links ≡ w.links → position (λ (d : NetDevice). d.name == y.name) v.network.devices ≡ Some i → slice_get v.network.devices i ≡ Some x → IsReplaced v w x y
step_replaced v w x y i is links first there =
    let before = found_before v.network.devices v.links i x y first there in
    let named : x.name ≡ y.name = same_name x.name y.name (found_in (λ (d : NetDevice). d.name == y.name) v.network.devices x before).1 in
    record {
      links = links;
      name = named;
      before = ap (λ n. find (λ (d : NetDevice). d.name == n) v.network.devices) named ∙ before;
      after = ap (λ (n : Network). find (λ (d : NetDevice). d.name == y.name) n.devices) is ∙ found_after y v.network.devices x before;
      others = λ n o. others_after y n o v.network.devices ∙ sym (ap (λ (m : Network). find (λ (d : NetDevice). d.name == n) m.devices) is);
    }

pub step_same : (v w : World) (y : NetDevice) → w.network ≡ network_after y v.network → v.links ≡ w.links → None ≡ position (λ (d : NetDevice). d.name == y.name) v.network.devices → v ≡ w
step_same v w y is links none =
    let same : w.network ≡ v.network = is ∙ ap (λ ds. record { devices = ds }) (same_after y v.network.devices (not_found (λ (d : NetDevice). d.name == y.name) v.network.devices none)) in
    λ i. record { network = sym same i; links = links i }

-- ---- no header is beyond the set of all
pub none_beyond : (old new : World) (fs : Functions) (scope : ℕ) → ((h : Header) → InSet fs scope h) → AreAlikeBeyond old new fs scope
none_beyond old new fs scope all = record { agree = λ p h v out. absurd (out (all h)); stays = λ p q h g v out. absurd (out (all h)) }
