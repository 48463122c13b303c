-- Leaving: the stages as ways.
use Rattle.std.proofs.Common.{ℕ, ◌≡◌, ◌<◌, ◌⊎◌, ◌↔◌, inl, inr, Bool, true, false, if◌then◌else◌, List, Option, Some, None, ap}
use Rattle.hdr_bits.specs.declared.header.Header.{Header}
use Rattle.hdr_bits.specs.HeaderBits.{number}
use Rattle.acl_match.specs.Lists.{number_of}
use Rattle.cube_alg.specs.declared.stamp.Stamp.{Stamp}
use Rattle.cube_alg.specs.Stamps.{applied}
use Rattle.cube_diagram.specs.Functions.{Functions, Keeps, count_of, value_at}
use Rattle.net_forms.specs.Forms.{IsList}
use Rattle.net_types.specs.declared.config.AccessList.{AccessList}
use Rattle.net_types.specs.declared.network.Move.{Move}
use Rattle.net_types.specs.declared.network.Move.TheVariants as move
use Rattle.net_types.specs.AccessLists.{passes, verdict}
use Rattle.net_types.specs.Moves.{leave, leave_if_any}
use Rattle.net_types.specs.World.{World, Seat}
use Rattle.set_walk.specs.declared.step.Way.{Way}
use Rattle.set_walk.specs.Sets.{InSet, IsSetOf}
use Rattle.set_walk.specs.Ways.{IsStamp}
use Rattle.set_walk.proofs.StampLemmas.{applied_fits}
use Rattle.place_ways.specs.Adding.{AddsWays, AreGiven, Makes}
use Rattle.place_ways.proofs.SetLemmas.{kept_set, keeps_then}
use Rattle.place_ways.proofs.AddLemmas.{adds_then, adds_same, adds_from, told_same}

-- ---- a choice by a list
no_pass : (x : Option ℕ) → x ≡ Some 0 → x ≡ Some 1 → ⊥
no_pass x e f = cc

pub split_choice : (A P L : Type 0) (v : Option ℕ) (b : Bool) (F : Bool → Type 0) → v ≡ Some (number_of b) → P ↔ (A × (v ≡ Some 1)) → L ↔ (A × (P → ⊥)) → ((L × F false) ⊎ (P × F true)) ↔ (A × F b)
split_choice A P L v true F e p l = (
  λ x. elim x [
    | inl y ↦ let q = l.0 y.0 in absurd (q.1 (p.1 (q.0, e)))
    | inr y ↦ ((p.0 y.0).0, y.1)
  ],
  λ x. inr (p.1 (x.0, e), x.1),
)
split_choice A P L v false F e p l = (
  λ x. elim x [
    | inl y ↦ ((l.0 y.0).0, y.1)
    | inr y ↦ absurd (no_pass v e (p.0 y.0).1)
  ],
  λ x. inl (l.1 (x.0, λ q. no_pass v e (p.0 q).1), x.1),
)

-- headers that the output list passes, and the others
pub passed_lost : (d0 d1 d2 d3 d4 : Functions) (list : Option AccessList) (function given passed lost : ℕ) (s : Stamp) (sends : Header → Move) (w0 w1 w2 : List Way) → IsStamp s → IsList d0 list function → given < count_of d0 → passed < count_of d1 → AreGiven d0 w0 → Keeps d0 d1 → Keeps d1 d2 → Keeps d2 d3 → IsSetOf d1 passed (λ h. InSet d0 given h × (value_at d0 function (number (applied s h)) ≡ Some 1)) → IsSetOf d2 lost (λ h. InSet d1 given h × (InSet d1 passed h → ⊥)) → AddsWays d2 d3 (Makes d2 lost (λ h. move.Lost)) w0 w1 → AddsWays d3 d4 (Makes d3 passed sends) w1 w2 → AddsWays d0 d4 (Makes d0 given (λ h. if passes (verdict list (applied s h)) then sends h else move.Lost)) w0 w2
passed_lost d0 d1 d2 d3 d4 list function given passed lost s sends w0 w1 w2 fits x lg lp b k0 k1 k2 p l a c =
    adds_same d0 d4 _ _ w0 w2 (λ h v m.
    let y = applied s h in
    let gs = kept_set d0 d1 given h k0 lg in
    let ps = kept_set d1 d3 passed h (keeps_then d1 d2 d3 k1 k2) lp in
    let ls : InSet d2 lost h ↔ (InSet d0 given h × (InSet d1 passed h → ⊥)) = (λ i. (gs.0 ((l h v).0 i).0, ((l h v).0 i).1), λ i. (l h v).1 (gs.1 i.0, i.1)) in
    let z = split_choice (InSet d0 given h) (InSet d1 passed h) (InSet d2 lost h) (value_at d0 function (number y)) (passes (verdict list y)) (λ t. (if t then sends h else move.Lost) ≡ m) (x.exact y (applied_fits s h fits v)) (p h v) ls in (
      λ u. z.0 (elim u [ inl i ↦ inl i | inr i ↦ inr (ps.0 i.0, i.1) ]),
      λ u. elim (z.1 u) [ inl i ↦ inl i | inr i ↦ inr (ps.1 i.0, i.1) ],
    )) (adds_from d0 d2 d4 _ w0 w2 (keeps_then d0 d1 d2 k0 k1) b (adds_then d2 d3 d4 _ _ w0 w1 w2 a c))

-- ---- an interface by its name
pub named_none : (w : World) (seat : Seat) (f k : Functions) (set : ℕ) (next : Header → ℕ) (o : Option Seat) (a b : List Way) → None ≡ o → AddsWays f k (Makes f set (λ h. move.Lost)) a b → AddsWays f k (Makes f set (λ h. leave_if_any w seat h (next h) o)) a b
named_none w seat f k set next o a b e p = told_same f k set (λ h. move.Lost) (λ h. leave_if_any w seat h (next h) o) a b (λ h v i. ap (leave_if_any w seat h (next h)) e) p

pub named_some : (w : World) (seat out : Seat) (f k : Functions) (set : ℕ) (next : Header → ℕ) (o : Option Seat) (a b : List Way) → Some out ≡ o → AddsWays f k (Makes f set (λ h. leave w seat h (next h) out)) a b → AddsWays f k (Makes f set (λ h. leave_if_any w seat h (next h) o)) a b
named_some w seat out f k set next o a b e p = told_same f k set (λ h. leave w seat h (next h) out) (λ h. leave_if_any w seat h (next h) o) a b (λ h v i. ap (leave_if_any w seat h (next h)) e) p
