-- The order of moves is total, and only equal moves tie.
use Rattle.std.proofs.Common.{ℕ, zero, suc, ◌≡◌, Option, Some, None, refl, ap, sym, ◌∙◌, nat_cmp}
use Rattle.std.specs.Cmp.{IsTotalOrder}
use Rattle.std.specs.FinSet.{IsAntisymmetric, nat_cmp-IsAntisymmetric}
use Rattle.std.specs.Option.{option_cmp}
use Rattle.std.specs.Ordering.{ordering_reverse, on}
use Rattle.std.specs.declared.cmp.Ordering.{Ordering}
use Rattle.std.specs.declared.cmp.Ordering.TheVariants.{Less, Equal}
use Rattle.std.proofs.lemmas.Cmp.{nat_cmp_total, then_total, on_total}
use Rattle.hdr_bits.specs.declared.header.Header.{Header}
use Rattle.net_types.specs.declared.network.Move.{Move}
use Rattle.net_types.specs.declared.network.Move.TheVariants.{Drop, Local, Lost, Exit, Go}
use Rattle.net_types.specs.declared.network.Place.{Place}
use Rattle.net_types.specs.Order.{place_cmp}
use Rattle.net_types.proofs.Outcomes.{then_equal}
use Rattle.device_transfers.specs.MoveOrder.{kind, place_of, header_in, header_cmp, move_cmp}

-- ---- an order where nothing comes first
module _ {K : Type 0} (R : K → K → Ordering) where
  option_exact : IsAntisymmetric R → IsAntisymmetric (option_cmp R)
  option_exact exact None None e = refl
  option_exact exact None (Some y) e = cc
  option_exact exact (Some x) None e = cc
  option_exact exact (Some x) (Some y) e = ap Some (exact x y e)

  option_antisymm : IsTotalOrder R → (x y : Option K) → option_cmp R x y ≡ ordering_reverse (option_cmp R y x)
  option_antisymm o None None = refl
  option_antisymm o None (Some y) = refl
  option_antisymm o (Some x) None = refl
  option_antisymm o (Some x) (Some y) = o.antisymm x y

  option_trans : IsTotalOrder R → (x y z : Option K) → option_cmp R x y ≡ Less → option_cmp R y z ≡ Less → option_cmp R x z ≡ Less
  option_trans o None None z e f = cc
  option_trans o None (Some y) None e f = cc
  option_trans o None (Some y) (Some z) e f = refl
  option_trans o (Some x) None z e f = cc
  option_trans o (Some x) (Some y) None e f = cc
  option_trans o (Some x) (Some y) (Some z) e f = o.trans x y z e f

  option_congr : IsTotalOrder R → (x y z : Option K) → option_cmp R x y ≡ Equal → option_cmp R x z ≡ option_cmp R y z
  option_congr o None None z e = refl
  option_congr o None (Some y) z e = cc
  option_congr o (Some x) None z e = cc
  option_congr o (Some x) (Some y) None e = refl
  option_congr o (Some x) (Some y) (Some z) e = o.congr x y z e

  option_total : IsTotalOrder R → IsTotalOrder (option_cmp R)
  option_total o = record { antisymm = option_antisymm o; trans = option_trans o; congr = option_congr o }

-- ---- places and headers
place_exact : IsAntisymmetric place_cmp
place_exact p q e =
    let t = then_equal (nat_cmp p.device q.device) (nat_cmp p.interface q.interface) e in
    λ i. record { device = nat_cmp-IsAntisymmetric p.device q.device t.0 i; interface = nat_cmp-IsAntisymmetric p.interface q.interface t.1 i }

place_total : IsTotalOrder place_cmp
place_total = then_total (on_total (λ (p : Place). p.device) nat_cmp_total) (on_total (λ (p : Place). p.interface) nat_cmp_total)

header_exact : IsAntisymmetric header_cmp
header_exact g h e =
    let t1 = then_equal (nat_cmp g.dst h.dst) _ e in
    let t2 = then_equal (nat_cmp g.src h.src) _ t1.1 in
    let t3 = then_equal (nat_cmp g.proto h.proto) _ t2.1 in
    let t4 = then_equal (nat_cmp g.dport h.dport) _ t3.1 in
    let t5 = then_equal (nat_cmp g.sport h.sport) (nat_cmp g.flags h.flags) t4.1 in
    λ i. record {
      dst = nat_cmp-IsAntisymmetric g.dst h.dst t1.0 i;
      src = nat_cmp-IsAntisymmetric g.src h.src t2.0 i;
      proto = nat_cmp-IsAntisymmetric g.proto h.proto t3.0 i;
      dport = nat_cmp-IsAntisymmetric g.dport h.dport t4.0 i;
      sport = nat_cmp-IsAntisymmetric g.sport h.sport t5.0 i;
      flags = nat_cmp-IsAntisymmetric g.flags h.flags t5.1 i;
    }

field_total : (f : Header → ℕ) → IsTotalOrder (on f nat_cmp)
field_total f = on_total f nat_cmp_total

header_total : IsTotalOrder header_cmp
header_total =
    then_total (field_total (λ h. h.dst)) (then_total (field_total (λ h. h.src)) (then_total (field_total (λ h. h.proto)) (then_total (field_total (λ h. h.dport)) (then_total (field_total (λ h. h.sport)) (field_total (λ h. h.flags))))))

-- ---- moves
pub move_total : IsTotalOrder move_cmp
move_total =
    then_total (on_total kind nat_cmp_total) (then_total (on_total place_of (option_total place_cmp place_total)) (on_total header_in (option_total header_cmp header_total)))

-- a move is told by its kind, its place and its header
made : ℕ → Option Place → Option Header → Move
made zero p h = Drop
made (suc zero) None h = Drop
made (suc zero) (Some p) h = Local p
made (suc (suc zero)) p h = Lost
made (suc (suc (suc n))) None h = Drop
made (suc (suc (suc n))) (Some p) None = Drop
made (suc (suc (suc zero))) (Some p) (Some h) = Exit p h
made (suc (suc (suc (suc n)))) (Some p) (Some h) = Go p h

made_again : (m : Move) → made (kind m) (place_of m) (header_in m) ≡ m
unfolding made
made_again Drop = refl
made_again (Local p) = refl
made_again Lost = refl
made_again (Exit p h) = refl
made_again (Go p h) = refl

pub move_exact : IsAntisymmetric move_cmp
move_exact a b e =
    let t = then_equal (nat_cmp (kind a) (kind b)) _ e in
    let u = then_equal (option_cmp place_cmp (place_of a) (place_of b)) (option_cmp header_cmp (header_in a) (header_in b)) t.1 in
    let kinds = nat_cmp-IsAntisymmetric (kind a) (kind b) t.0 in
    let places = option_exact place_cmp place_exact (place_of a) (place_of b) u.0 in
    let headers = option_exact header_cmp header_exact (header_in a) (header_in b) u.1 in
    sym (made_again a) ∙ ((λ i. made (kinds i) (places i) (headers i)) ∙ made_again b)
