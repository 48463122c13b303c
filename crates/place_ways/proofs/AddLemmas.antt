-- Ways that are added.
use Rattle.std.proofs.Common.{ℕ, ◌≡◌, ◌<◌, ◌+◌, ◌⊎◌, ◌↔◌, inl, inr, List, [], ◌∷◌, ◌++◌, Some, slice_get, slice_set, take, length, get_or, sym, ◌∙◌, subst}
use Rattle.std.specs.Prelude.{Contains}
use Rattle.std.proofs.lemmas.List.Elements.{Contains-append_cases}
use Rattle.net_types.proofs.Members.{here, in_one, in_none}
use Rattle.hdr_bits.specs.declared.header.Header.{Header}
use Rattle.hdr_bits.specs.HeaderBits.{IsHeader}
use Rattle.cube_diagram.specs.Functions.{Functions, Keeps, count_of}
use Rattle.net_types.specs.declared.network.Move.{Move}
use Rattle.set_walk.specs.declared.step.Step.{Step}
use Rattle.set_walk.specs.declared.step.Way.{Way}
use Rattle.set_walk.specs.Sets.{InSet, IsSetOf}
use Rattle.set_walk.specs.Ways.{move_of, OfStamp, IsStamp, HasMove, IsGiven}
use Rattle.set_walk.proofs.ToldLemmas.{in_get, in_set, kept_move, move_more, move_none, move_set}
use Rattle.set_walk.proofs.ToldLemmas as told
use Rattle.place_ways.specs.Adding.{AddsWays, AreGiven, ByOne, HasMoves, Makes, MakesAny}
use Rattle.place_ways.proofs.SetLemmas.{keeps_same, kept_set}
use Rattle.place_ways.proofs.AddedLemmas.{added_from, added_none, added_same, added_then, both_ways}
use Rattle.place_ways.proofs.AmongLemmas.{one_none, one_taken}

-- ---- the table grows
pub given_kept : (f g : Functions) (ways : List Way) → Keeps f g → AreGiven f ways → AreGiven g ways
given_kept f g ways k t x c = told.given_kept f g x k (t x c)

given_below : (f : Functions) (ways : List Way) → AreGiven f ways → (x : Way) → Contains ways x → x.headers < count_of f
given_below f ways t x c = (t x c).below

pub given_move : (f g : Functions) (ways : List Way) (h : Header) (m : Move) → Keeps f g → AreGiven f ways → HasMove g ways h m ↔ HasMove f ways h m
given_move f g ways h m k t = kept_move f g ways h m k (given_below f ways t)

pub moves_kept : (f g : Functions) (scope : ℕ) (moves : Header → List Move) (base : List Way) → Keeps f g → scope < count_of f → AreGiven f base → HasMoves moves f scope base → HasMoves moves g scope base
moves_kept f g scope moves base k l b p h v i m =
    let e = given_move f g base h m k b in both_ways (p h v ((kept_set f g scope h k l).0 i) m) (e.1, e.0)

pub none_given : (f : Functions) → AreGiven f []
none_given f w c = absurd (in_none w c)

-- ---- one way more
pub pushed : (f : Functions) (ways : List Way) (step : Step) (set : ℕ) → set < count_of f → OfStamp IsStamp step → AreGiven f ways → AddsWays f f (Makes f set (λ h. move_of h step)) ways (ways ++ record { step = step; headers = set } ∷ [])
pushed f ways step set l fits t =
    let w : Way = record { step = step; headers = set } in
    let mine : IsGiven f w = record { below = l; fits = fits } in
    record {
      given = λ x c. elim (Contains-append_cases ways (w ∷ []) x c) [
        | inl d ↦ t x d
        | inr d ↦ subst (IsGiven f) (in_one w x d) mine
      ];
      exact = λ h v m. move_more f ways w h m;
    }

-- no header does this, so no way is needed
pub nothing_added : (f g : Functions) (P : Header → Move → Type 0) (ways : List Way) → Keeps f g → AreGiven f ways → ((h : Header) → IsHeader h → (m : Move) → P h m → ⊥) → AddsWays f g P ways ways
nothing_added f g P ways k b n = record { given = given_kept f g ways k b; exact = λ h v m. added_none (given_move f g ways h m k b) (n h v m) }

-- headers are added to those of one of the ways
pub joined : (f g : Functions) (ways : List Way) (i old more all : ℕ) (step : Step) → Keeps f g → slice_get ways i ≡ Some (record { step = step; headers = old }) → all < count_of g → IsSetOf g all (λ h. InSet f old h ⊎ InSet f more h) → OfStamp IsStamp step → AreGiven f ways → AddsWays f g (Makes f more (λ h. move_of h step)) ways (slice_set ways i (record { step = step; headers = all }))
joined f g ways i old more all step k e l s fits t =
    let x : Way = record { step = step; headers = old } in
    let y : Way = record { step = step; headers = all } in
    let mine : IsGiven g y = record { below = l; fits = fits } in
    let lo = (t x (in_get ways i x e)).below in
    record {
      given = λ z c. elim (in_set ways i y z c) [
        | inl d ↦ given_kept f g ways k t z d
        | inr d ↦ subst (IsGiven g) d mine
      ];
      exact = λ h v m.
          let ko = kept_set f g old h k lo in
          let r = move_set g ways i x y (Makes f more (λ q. move_of q step) h m) h m e (
            λ a. elim ((s h v).0 a.0) [ inl b ↦ inl (ko.1 b, a.1) | inr b ↦ inr (b, a.1) ],
            λ a. elim a [ inl b ↦ ((s h v).1 (inl (ko.0 b.0)), b.1) | inr b ↦ ((s h v).1 (inr b.0), b.1) ],
          ) in
          added_from r (given_move f g ways h m k t);
    }

-- ---- parts one behind the other
pub adds_then : (f g k : Functions) (P Q : Header → Move → Type 0) (a b c : List Way) → AddsWays f g P a b → AddsWays g k Q b c → AddsWays f k (λ h m. P h m ⊎ Q h m) a c
adds_then f g k P Q a b c p q = record { given = q.given; exact = λ h v m. added_then (p.exact h v m) (q.exact h v m) }

pub adds_same : (f g : Functions) (P Q : Header → Move → Type 0) (a b : List Way) → ((h : Header) → IsHeader h → (m : Move) → P h m ↔ Q h m) → AddsWays f g P a b → AddsWays f g Q a b
adds_same f g P Q a b e p = record { given = p.given; exact = λ h v m. added_same (p.exact h v m) (e h v m) }

-- what was there before is told by the older table
pub adds_from : (f g k : Functions) (P : Header → Move → Type 0) (a b : List Way) → Keeps f g → AreGiven f a → AddsWays g k P a b → AddsWays f k P a b
adds_from f g k P a b e l p = record { given = p.given; exact = λ h v m. added_from (p.exact h v m) (given_move f g a h m e l) }

-- ---- what is made by one of a list, item by item
module _ {A : Type 0} (does : A → Header → Move → Type 0) where
  pub none_does : (f : Functions) (ways : List Way) → AreGiven f ways → AddsWays f f (λ h m. ByOne (λ x. does x h m) []) ways ways
  none_does f ways b = nothing_added f f _ ways (keeps_same f) b (λ h v m x. one_none (λ y. does y h m) x)

  pub one_does : (f g k : Functions) (R : Header → Move → Type 0) (xs : List A) (i : ℕ) (one : A) (a b c : List Way) → i < length xs → one ≡ get_or xs i one → ((h : Header) → IsHeader h → (m : Move) → R h m ↔ does one h m) → AddsWays f g (λ h m. ByOne (λ x. does x h m) (take i xs)) a b → AddsWays g k R b c → AddsWays f k (λ h m. ByOne (λ x. does x h m) (take (i + 1) xs)) a c
  one_does f g k R xs i one a b c l e r p q =
      adds_same f k _ _ a c (λ h v m.
      let t = one_taken (λ x. does x h m) xs i one l e in
      let s = r h v m in (
        λ x. t.1 (elim x [ inl y ↦ inl y | inr y ↦ inr (s.0 y) ]),
        λ x. elim (t.0 x) [ inl y ↦ inl y | inr y ↦ inr (s.1 y) ],
      )) (adds_then f g k _ _ a b c p q)

-- ---- the same moves, told otherwise
pub told_same : (f g : Functions) (set : ℕ) (x y : Header → Move) (a b : List Way) → ((h : Header) → IsHeader h → InSet f set h → x h ≡ y h) → AddsWays f g (Makes f set x) a b → AddsWays f g (Makes f set y) a b
told_same f g set x y a b e p =
    adds_same f g _ _ a b (λ h v m. (λ q. (q.0, sym (e h v q.0) ∙ q.1), λ q. (q.0, e h v q.0 ∙ q.1))) p

pub told_list : (f g : Functions) (set : ℕ) (x : Header → Move) (ys : Header → List Move) (a b : List Way) → ((h : Header) → IsHeader h → InSet f set h → ys h ≡ x h ∷ []) → AddsWays f g (Makes f set x) a b → AddsWays f g (MakesAny f set ys) a b
told_list f g set x ys a b e p =
    adds_same f g _ _ a b (λ h v m. (
      λ q. (q.0, subst (λ l. Contains l m) (sym (e h v q.0)) (subst (λ z. Contains (x h ∷ []) z) q.1 (here (x h) []))),
      λ q. (q.0, in_one (x h) m (subst (λ l. Contains l m) (e h v q.0) q.1)),
    )) p

pub told_any : (f g : Functions) (set : ℕ) (xs ys : Header → List Move) (a b : List Way) → ((h : Header) → IsHeader h → InSet f set h → (m : Move) → Contains (xs h) m ↔ Contains (ys h) m) → AddsWays f g (MakesAny f set xs) a b → AddsWays f g (MakesAny f set ys) a b
told_any f g set xs ys a b e p =
    adds_same f g _ _ a b (λ h v m. (λ q. (q.0, (e h v q.0 m).0 q.1), λ q. (q.0, (e h v q.0 m).1 q.1))) p

-- all headers of the scope, from no ways
pub all_added : (f g : Functions) (scope : ℕ) (moves : Header → List Move) (ways : List Way) → Keeps f g → scope < count_of f → AddsWays f g (MakesAny f scope moves) [] ways → HasMoves moves g scope ways
all_added f g scope moves ways k l p h v i m = (
  λ c. (p.exact h v m).1 (inr ((kept_set f g scope h k l).0 i, c)),
  λ x. elim ((p.exact h v m).0 x) [ inl y ↦ absurd (move_none f h m y) | inr y ↦ y.1 ],
)
