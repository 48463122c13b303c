-- Names that are collected, segment by segment and end by end.
use Rattle.std.proofs.Common.{ℕ, ◌≡◌, ◌<◌, ◌+◌, ◌++◌, inl, inr, List, [], ◌∷◌, take, length, get_or, refl, ap, sym, ◌∙◌, subst}
use Rattle.std.specs.Prelude.{Contains}
use Rattle.std.proofs.lemmas.List.{take_more}
use Rattle.std.proofs.lemmas.List.Elements.{Contains-push_cases}
use Rattle.net_types.specs.declared.network.NetDevice.{NetDevice}
use Rattle.net_types.specs.declared.network.Place.{Place}
use Rattle.net_types.specs.declared.network.Segment.{Segment}
use Rattle.net_types.proofs.Members.{in_none}
use Rattle.live_network.specs.Touched.{AreNamed, AreTouched, HasAll, IsNamedIn}

-- what the first items of a list are like, and one more
pub one_more : {A : Type 0} (P Q : A → Type 0) (xs : List A) (i : ℕ) (x : A) → i < length xs → x ≡ get_or xs i x → ((z : A) → Contains (take i xs) z → P z) → ((z : A) → P z → Q z) → Q x → (z : A) → Contains (take (i + 1) xs) z → Q z
one_more P Q xs i x l e before keeps one z c =
    let taken : take (i + 1) xs ≡ take i xs ++ x ∷ [] = take_more xs i x l ∙ ap (λ y. take i xs ++ y ∷ []) (sym e) in
    elim (Contains-push_cases (take i xs) x z (subst (λ ys. Contains ys z) taken c)) [
      | inl m ↦ keeps z (before z m)
      | inr m ↦ subst Q m one
    ]

pub has_itself : (xs : List ℕ) → HasAll xs xs
has_itself xs n c = c

pub has_then : (a b c : List ℕ) → HasAll a b → HasAll b c → HasAll a c
has_then a b c x y n m = y n (x n m)

-- ---- the ends of a segment
pub named_none : (names : List ℕ) → AreNamed [] names
named_none names p c = absurd (in_none p c)

pub named_more : (ends : List Place) (i : ℕ) (p : Place) (names more : List ℕ) → i < length ends → p ≡ get_or ends i p → HasAll names more → Contains more p.device → AreNamed (take i ends) names → AreNamed (take (i + 1) ends) more
named_more ends i p names more l e keeps one before = one_more (λ (q : Place). Contains names q.device) (λ (q : Place). Contains more q.device) ends i p l e before (λ q. keeps q.device) one

-- ---- segments
named_in_kept : (x y : NetDevice) (names more : List ℕ) → HasAll names more → (s : Segment) → IsNamedIn x y names s → IsNamedIn x y more s
named_in_kept x y names more keeps s a t = elim (a t) [ inl m ↦ inl m | inr m ↦ inr (λ p c. keeps p.device (m p c)) ]

pub touched_none : (x y : NetDevice) (names : List ℕ) → AreTouched x y [] names
touched_none x y names s c = absurd (in_none s c)

pub touched_more : (x y : NetDevice) (segments : List Segment) (i : ℕ) (s : Segment) (names more : List ℕ) → i < length segments → s ≡ get_or segments i s → HasAll names more → IsNamedIn x y more s → AreTouched x y (take i segments) names → AreTouched x y (take (i + 1) segments) more
touched_more x y segments i s names more l e keeps one before = one_more (IsNamedIn x y names) (IsNamedIn x y more) segments i s l e before (named_in_kept x y names more keeps) one
