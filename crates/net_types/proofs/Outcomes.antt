-- The order of outcomes is that of the derived comparison, a total order.
use Rattle.std.proofs.Common.{◌≡◌, refl, sym, ap, subst, Some, None, nat_cmp}
use Rattle.std.specs.Cmp.{IsTotalOrder}
use Rattle.std.specs.FinSet.{IsAntisymmetric, nat_cmp-IsAntisymmetric}
use Rattle.std.specs.Ordering.{ordering_then}
use Rattle.std.specs.declared.cmp.Ordering.{Ordering}
use Rattle.net_types.specs.declared.label.Outcome.{Outcome}
use Rattle.net_types.specs.declared.label.Outcome.TheVariants.{Dropped, Expired, Local, Exit}
use Rattle.net_types.specs.contracts.label.OutcomeOrd.TheImpl.{cmp-value}
use Rattle.net_types.specs.contracts.label.OutcomeOrd.TheImpl.Laws.{total-law}
use Rattle.std.specs.declared.cmp.Ordering.TheVariants.{Less, Equal, Greater}
use Rattle.net_types.specs.Order.{outcome_cmp, place_cmp, field_cmp}

pub same_order : (x y : Outcome) → outcome_cmp x y ≡ cmp-value.it x y
same_order Dropped Dropped = refl
same_order Dropped Expired = refl
same_order Dropped (Local q) = refl
same_order Dropped (Exit q a b c d) = refl
same_order Expired Dropped = refl
same_order Expired Expired = refl
same_order Expired (Local q) = refl
same_order Expired (Exit q a b c d) = refl
same_order (Local p) Dropped = refl
same_order (Local p) Expired = refl
same_order (Local p) (Local q) = refl
same_order (Local p) (Exit q a b c d) = refl
same_order (Exit p e f g h) Dropped = refl
same_order (Exit p e f g h) Expired = refl
same_order (Exit p e f g h) (Local q) = refl
same_order (Exit p e f g h) (Exit q a b c d) = refl

pub total : IsTotalOrder outcome_cmp
total = subst IsTotalOrder (λ i x y. sym (same_order x y) i) total-law

-- only equal outcomes tie
pub then_equal : (a b : Ordering) → ordering_then a b ≡ Equal → (a ≡ Equal) × (b ≡ Equal)
then_equal Less b e = cc
then_equal Equal b e = (refl, e)
then_equal Greater b e = cc

place_exact : IsAntisymmetric place_cmp
place_exact p q e =
    let h = then_equal (nat_cmp p.device q.device) (nat_cmp p.interface q.interface) e in
    λ i. record { device = nat_cmp-IsAntisymmetric p.device q.device h.0 i; interface = nat_cmp-IsAntisymmetric p.interface q.interface h.1 i }

field_exact : IsAntisymmetric field_cmp
field_exact None None e = refl
field_exact None (Some y) e = cc
field_exact (Some x) None e = cc
field_exact (Some x) (Some y) e = ap Some (nat_cmp-IsAntisymmetric x y e)

pub exact : IsAntisymmetric outcome_cmp
exact Dropped Dropped e = refl
exact Dropped Expired e = cc
exact Dropped (Local q) e = cc
exact Dropped (Exit q a b c d) e = cc
exact Expired Dropped e = cc
exact Expired Expired e = refl
exact Expired (Local q) e = cc
exact Expired (Exit q a b c d) e = cc
exact (Local p) Dropped e = cc
exact (Local p) Expired e = cc
exact (Local p) (Local q) e = ap Local (place_exact p q e)
exact (Local p) (Exit q a b c d) e = cc
exact (Exit p e f g h) Dropped t = cc
exact (Exit p e f g h) Expired t = cc
exact (Exit p e f g h) (Local q) t = cc
exact (Exit p e f g h) (Exit q a b c d) t =
    let t1 = then_equal (place_cmp p q) _ t in
    let t2 = then_equal (field_cmp e a) _ t1.1 in
    let t3 = then_equal (field_cmp f b) _ t2.1 in
    let t4 = then_equal (field_cmp g c) (field_cmp h d) t3.1 in
    λ i. Exit (place_exact p q t1.0 i) (field_exact e a t2.0 i) (field_exact f b t3.0 i) (field_exact g c t4.0 i) (field_exact h d t4.1 i)
