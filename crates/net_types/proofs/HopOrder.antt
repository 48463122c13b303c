-- The order of forwarding choices is total, and only equal ones tie.
use Rattle.std.proofs.Common.{◌≡◌, ℕ, List, refl, ap, nat_cmp}
use Rattle.std.specs.Cmp.{IsTotalOrder}
use Rattle.std.specs.FinSet.{IsAntisymmetric, nat_cmp-IsAntisymmetric}
use Rattle.std.specs.Ordering.{ordering_reverse, then_cmp, on}
use Rattle.std.specs.declared.cmp.Ordering.TheVariants.{Less, Equal}
use Rattle.std.proofs.lemmas.Cmp.{nat_list_cmp_total, nat_cmp_total, then_total, on_total}
use Rattle.net_types.specs.declared.network.Hop.{Hop}
use Rattle.net_types.specs.declared.network.Hop.TheVariants.{Discard, Out}
use Rattle.net_types.specs.Order.{hop_cmp, text_cmp}
use Rattle.net_types.proofs.Outcomes.{then_equal}
use Rattle.net_types.proofs.LabelLaws.{lists_exact}

pub hop_exact : IsAntisymmetric hop_cmp
hop_exact Discard Discard e = refl
hop_exact Discard (Out n a) e = cc
hop_exact (Out n a) Discard e = cc
hop_exact (Out n a) (Out m b) e =
    let t = then_equal (text_cmp n m) (nat_cmp a b) e in
    let names = lists_exact nat_cmp nat_cmp-IsAntisymmetric n m t.0 in
    let nexts = nat_cmp-IsAntisymmetric a b t.1 in
    λ i. Out (names i) (nexts i)

pairs_total : IsTotalOrder (then_cmp (on (λ (p : List ℕ × ℕ). p.0) text_cmp) (on (λ (p : List ℕ × ℕ). p.1) nat_cmp))
pairs_total = then_total (on_total (λ (p : List ℕ × ℕ). p.0) nat_list_cmp_total) (on_total (λ (p : List ℕ × ℕ). p.1) nat_cmp_total)

hop_antisymm : (x y : Hop) → hop_cmp x y ≡ ordering_reverse (hop_cmp y x)
hop_antisymm Discard Discard = refl
hop_antisymm Discard (Out m b) = refl
hop_antisymm (Out n a) Discard = refl
hop_antisymm (Out n a) (Out m b) = pairs_total.antisymm (n, a) (m, b)

hop_trans : (x y z : Hop) → hop_cmp x y ≡ Less → hop_cmp y z ≡ Less → hop_cmp x z ≡ Less
hop_trans Discard Discard z e f = cc
hop_trans Discard (Out m b) Discard e f = cc
hop_trans Discard (Out m b) (Out k c) e f = refl
hop_trans (Out n a) Discard z e f = cc
hop_trans (Out n a) (Out m b) Discard e f = cc
hop_trans (Out n a) (Out m b) (Out k c) e f = pairs_total.trans (n, a) (m, b) (k, c) e f

hop_congr : (x y z : Hop) → hop_cmp x y ≡ Equal → hop_cmp x z ≡ hop_cmp y z
hop_congr x y z e = ap (λ (h : Hop). hop_cmp h z) (hop_exact x y e)

pub hop_total : IsTotalOrder hop_cmp
hop_total = record { antisymm = hop_antisymm; trans = hop_trans; congr = hop_congr }
