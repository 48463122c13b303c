-- From numbers of pairs of labels to rows.
use Rattle.std.proofs.Common.{◌≡◌, ℕ, zero, suc, List, [], ◌∷◌, ◌++◌, Option, Some, None, IsSome, slice_get, length, inl, inr, ◌⊎◌, true≢false, refl, sym, ap, subst, ◌∙◌}
use Rattle.std.specs.Prelude.{slice_index_or}
use Rattle.hdr_bits.specs.Lists.{Extends}
use Rattle.cube_diagram.specs.declared.paired.ValuePair.{ValuePair}
use Rattle.cube_diagram.specs.Images.{retold}
use Rattle.cube_diagram.specs.Paired.{IsPairAt}
use Rattle.net_types.specs.declared.label.Outcome.{Outcome}
use Rattle.pair_rows.specs.Pairs.{IsNumberOf}
use Rattle.net_compare.specs.Rows.{IsToldAt, AreTold}

abbrev Pairs : Type 0
Pairs = List (List Outcome × List Outcome)

-- ---- longer lists
get_before : {A : Type 0} (xs ys : List A) (i : ℕ) (x : A) → slice_get xs i ≡ Some x → slice_get (xs ++ ys) i ≡ Some x
get_before [] ys i x e = absurd cc
get_before (y ∷ xs) ys zero x e = e
get_before (y ∷ xs) ys (suc i) x e = get_before xs ys i x e

some_value : {A : Type 0} (o : Option A) → IsSome o → (x : A) × (o ≡ Some x)
some_value None s = absurd (true≢false (sym s))
some_value (Some x) s = (x, refl)

-- a number keeps its pair in a longer list
still_number : (old new : Pairs) → Extends old new → (o : Option ℕ) (q : Option (List Outcome × List Outcome)) → IsNumberOf old o q → IsNumberOf new o q
still_number old new g None q n = n
still_number old new g (Some v) q n =
    let s = some_value q n.1 in
    let at : slice_get old v ≡ Some s.0 = sym n.0 ∙ s.1 in
    (s.1 ∙ sym (rw g.added (get_before old g.more v s.0 at)), n.1)

last_or_before : {A : Type 0} (xs : List A) (x y : A) (n : ℕ) → slice_get (xs ++ x ∷ []) n ≡ Some y → (slice_get xs n ≡ Some y) ⊎ ((n ≡ length xs) × (x ≡ y))
last_or_before [] x y zero e = inr (refl, cc)
last_or_before [] x y (suc n) e = absurd cc
last_or_before (z ∷ xs) x y zero e = inl e
last_or_before (z ∷ xs) x y (suc n) e = elim (last_or_before xs x y n e) [ inl q ↦ inl q | inr q ↦ inr (ap suc q.0, q.1) ]

-- ---- what is told of two numbers is told of each header that has them
told_there : (told : List (Option ℕ)) (n : ℕ) (o : Option ℕ) → slice_get told n ≡ Some o → slice_index_or told n None ≡ o
told_there [] n o e = absurd cc
told_there (t ∷ told) zero o e = cc
told_there (t ∷ told) (suc n) o e = told_there told n o e

-- the number of the pair that two numbers are given, where no number is given none
pub number_of_pair : (given : ValuePair → Option (List Outcome × List Outcome)) (pairs : Pairs) (numbers : List ValuePair) (told : List (Option ℕ)) (x y both : Option ℕ) → ((z : Option ℕ) → given (record { first = None; second = z }) ≡ None) → AreTold given pairs numbers told → IsPairAt numbers x y both → IsNumberOf pairs (retold told both) (given (record { first = x; second = y }))
number_of_pair given pairs numbers told x y None none t p = ap (λ (o : Option ℕ). given (record { first = o; second = y })) p.0 ∙ none y
number_of_pair given pairs numbers told x y (Some n) none t p =
    let at = t n (record { first = x; second = y }) p.0 in
    subst (λ o. IsNumberOf pairs o (given (record { first = x; second = y }))) (sym (told_there told n at.number at.there)) at.is

-- ---- one more
pushed_at : {A : Type 0} (xs : List A) (x : A) → slice_get (xs ++ x ∷ []) (length xs) ≡ Some x
pushed_at [] x = refl
pushed_at (y ∷ xs) x = pushed_at xs x

told_before : (pairs : Pairs) (given : Option (List Outcome × List Outcome)) (told more : List (Option ℕ)) (n : ℕ) → IsToldAt pairs given told n → IsToldAt pairs given (told ++ more) n
told_before pairs given told more n t = record { number = t.number; there = get_before told more n t.number t.there; is = t.is }

pub told_more : (given : ValuePair → Option (List Outcome × List Outcome)) (old new : Pairs) (numbers : List ValuePair) (two : ValuePair) (told : List (Option ℕ)) (o : Option ℕ) → Extends old new → length told ≡ length numbers → AreTold given old numbers told → IsNumberOf new o (given two) → AreTold given new (numbers ++ two ∷ []) (told ++ o ∷ [])
told_more given old new numbers two told o g l t is n x e =
    elim (last_or_before numbers two x n e) [
      | inl q ↦ let at = t n x q in told_before new (given x) told (o ∷ []) n (record { number = at.number; there = at.there; is = still_number old new g at.number (given x) at.is })
      | inr q ↦ record { number = o; there = (rw (q.0 ∙ sym l) (pushed_at told o)); is = subst (λ y. IsNumberOf new o (given y)) q.1 is }
    ]

pub longer : {A B : Type 0} (xs : List A) (x : A) (ys : List B) (y : B) → length ys ≡ length xs → length (ys ++ y ∷ []) ≡ length (xs ++ x ∷ [])
longer [] x [] y e = refl
longer [] x (b ∷ ys) y e = absurd cc
longer (a ∷ xs) x [] y e = absurd cc
longer (a ∷ xs) x (b ∷ ys) y e = ap suc (longer xs x ys y cc)
