-- The first item that passes a test, by its position.
use Rattle.std.proofs.Common.{ℕ, zero, suc, ◌≡◌, ◌+◌, ◌<◌, ◌≤◌, inl, inr, Bool, true, false, not, cond, if◌then◌else◌, List, [], ◌∷◌, ◌++◌, length, slice_get, get_or, set, Some, None, Result, Ok, Err, refl, ap, sym, ◌∙◌, arith, position, nat_lt}
use Rattle.std.specs.Prelude.{insert, remove}
use Rattle.std.specs.List.{position_or_len}
use Rattle.std.proofs.lemmas.Bool.{cases_Bool}
use Rattle.std.proofs.lemmas.Bool.Decides.{nat_tests}
use Rattle.net_types.specs.declared.config.Entry.{Entry}
use Rattle.incr_review.specs.declared.edits.EditFail.{EditFail}
use Rattle.incr_review.specs.declared.edits.EditFail.TheVariants as fail
use Rattle.incr_review.specs.declared.edits.EditKind.{EditKind}
use Rattle.incr_review.specs.Edited.{map_ok, IsFailOf, change_first, drop_first, with_entry}

pub map_twice : {X Y Z : Type 0} (f : X → Y) (g : Y → Z) (r : Result X EditKind) → map_ok g (map_ok f r) ≡ map_ok (λ x. g (f x)) r
map_twice f g (Ok x) = refl
map_twice f g (Err k) = refl

-- what is refused stays refused
pub fail_map : {X Y : Type 0} (f : X → Y) (r : Result X EditKind) (s : Result Y EditKind) → s ≡ map_ok f r → (e : EditFail) → IsFailOf r e → IsFailOf s e
fail_map f r s q fail.NoMemory h = refl
fail_map f r s q (fail.Refused k) h = q ∙ ap (map_ok f) h

pub at_index : {X : Type 0} (xs : List X) (i : ℕ) (x : X) → i < length xs → x ≡ get_or xs i x → slice_get xs i ≡ Some x
at_index [] i x l e = absurd (omega (arith, l))
at_index (z ∷ zs) zero x l e = ap Some (sym e)
at_index (z ∷ zs) (suc j) x l e = at_index zs j x (omega (arith, l)) e

module _ {X : Type 0} (test : X → Bool) where
  pub at_position : (xs : List X) (i : ℕ) → Some i ≡ position test xs → i ≡ position_or_len test xs
  at_position xs i e =
      elim (cases_Bool (nat_lt (position_or_len test xs) (length xs))) [
        | inl t ↦ (let s : Some i ≡ Some (position_or_len test xs) = e ∙ ap (λ b. cond b (Some (position_or_len test xs)) None) t in cc)
        | inr f ↦ (let s : Some i ≡ None = e ∙ ap (λ b. cond b (Some (position_or_len test xs)) None) f in absurd cc)
      ]

  pub within : (xs : List X) (i : ℕ) → Some i ≡ position test xs → i < length xs
  within xs i e =
      elim (cases_Bool (nat_lt (position_or_len test xs) (length xs))) [
        | inl t ↦ (let s : Some i ≡ Some (position_or_len test xs) = e ∙ ap (λ b. cond b (Some (position_or_len test xs)) None) t in let q : i ≡ position_or_len test xs = cc in grind (arith, nat_tests, t, q))
        | inr f ↦ (let s : Some i ≡ None = e ∙ ap (λ b. cond b (Some (position_or_len test xs)) None) f in absurd cc)
      ]

  pub no_position : (xs : List X) → None ≡ position test xs → length xs ≤ position_or_len test xs
  no_position xs e =
      elim (cases_Bool (nat_lt (position_or_len test xs) (length xs))) [
        | inl t ↦ (let s : None ≡ Some (position_or_len test xs) = e ∙ ap (λ b. cond b (Some (position_or_len test xs)) None) t in absurd cc)
        | inr f ↦ grind (arith, nat_tests, f)
      ]

  -- ---- changed

  change_here : (missing : EditKind) (change : X → Result X EditKind) (xs : List X) (i : ℕ) (x : X) → i ≡ position_or_len test xs → slice_get xs i ≡ Some x → change_first test missing change xs ≡ map_ok (λ y. set xs i y) (change x)
  change_here missing change [] i x e s = absurd cc
  change_here missing change (z ∷ zs) zero x e s = by (test z) e
    where
      by : (b : Bool) → zero ≡ cond (not b) (1 + position_or_len test zs) 0 → (if b then map_ok (λ y. y ∷ zs) (change z) else map_ok (λ ys. z ∷ ys) (change_first test missing change zs)) ≡ map_ok (λ y. y ∷ zs) (change x)
      by true n = let same : Some z ≡ Some x = s in let q : z ≡ x = cc in ap (λ w. map_ok (λ y. y ∷ zs) (change w)) q
      by false n = absurd (omega (arith, n))
  change_here missing change (z ∷ zs) (suc j) x e s = by (λ m. change_here missing change zs j x m s) (test z) e
    where
      by : (j ≡ position_or_len test zs → change_first test missing change zs ≡ map_ok (λ y. set zs j y) (change x)) → (b : Bool) → suc j ≡ cond (not b) (1 + position_or_len test zs) 0 → (if b then map_ok (λ y. y ∷ zs) (change z) else map_ok (λ ys. z ∷ ys) (change_first test missing change zs)) ≡ map_ok (λ y. z ∷ set zs j y) (change x)
      by rest true n = absurd (omega (arith, n))
      by rest false n = ap (map_ok (λ ys. z ∷ ys)) (rest (omega (arith, n))) ∙ map_twice (λ y. set zs j y) (λ ys. z ∷ ys) (change x)

  change_none : (missing : EditKind) (change : X → Result X EditKind) (xs : List X) → length xs ≤ position_or_len test xs → change_first test missing change xs ≡ Err missing
  change_none missing change [] l = refl
  change_none missing change (z ∷ zs) l = by (change_none missing change zs) (test z) l
    where
      by : (length zs ≤ position_or_len test zs → change_first test missing change zs ≡ Err missing) → (b : Bool) → length (z ∷ zs) ≤ cond (not b) (1 + position_or_len test zs) 0 → (if b then map_ok (λ y. y ∷ zs) (change z) else map_ok (λ ys. z ∷ ys) (change_first test missing change zs)) ≡ Err missing
      by rest true n = absurd (omega (arith, n))
      by rest false n = ap (map_ok (λ ys. z ∷ ys)) (rest (omega (arith, n)))

  pub changed : (missing : EditKind) (change : X → Result X EditKind) (xs : List X) (i : ℕ) (x : X) → Some i ≡ position test xs → slice_get xs i ≡ Some x → change_first test missing change xs ≡ map_ok (λ y. set xs i y) (change x)
  changed missing change xs i x e s = change_here missing change xs i x (at_position xs i e) s

  pub unchanged : (missing : EditKind) (change : X → Result X EditKind) (xs : List X) → None ≡ position test xs → change_first test missing change xs ≡ Err missing
  unchanged missing change xs e = change_none missing change xs (no_position xs e)

  -- ---- dropped

  drop_here : (missing : EditKind) (xs : List X) (i : ℕ) → i ≡ position_or_len test xs → i < length xs → drop_first test missing xs ≡ Ok (remove xs i)
  drop_here missing [] i e l = absurd (omega (arith, l))
  drop_here missing (z ∷ zs) zero e l = by (test z) e
    where
      by : (b : Bool) → zero ≡ cond (not b) (1 + position_or_len test zs) 0 → (if b then Ok zs else map_ok (λ ys. z ∷ ys) (drop_first test missing zs)) ≡ Ok zs
      by true n = refl
      by false n = absurd (omega (arith, n))
  drop_here missing (z ∷ zs) (suc j) e l = by (λ m. drop_here missing zs j m (omega (arith, l))) (test z) e
    where
      by : (j ≡ position_or_len test zs → drop_first test missing zs ≡ Ok (remove zs j)) → (b : Bool) → suc j ≡ cond (not b) (1 + position_or_len test zs) 0 → (if b then Ok zs else map_ok (λ ys. z ∷ ys) (drop_first test missing zs)) ≡ Ok (z ∷ remove zs j)
      by rest true n = absurd (omega (arith, n))
      by rest false n = ap (map_ok (λ ys. z ∷ ys)) (rest (omega (arith, n)))

  drop_none : (missing : EditKind) (xs : List X) → length xs ≤ position_or_len test xs → drop_first test missing xs ≡ Err missing
  drop_none missing [] l = refl
  drop_none missing (z ∷ zs) l = by (drop_none missing zs) (test z) l
    where
      by : (length zs ≤ position_or_len test zs → drop_first test missing zs ≡ Err missing) → (b : Bool) → length (z ∷ zs) ≤ cond (not b) (1 + position_or_len test zs) 0 → (if b then Ok zs else map_ok (λ ys. z ∷ ys) (drop_first test missing zs)) ≡ Err missing
      by rest true n = absurd (omega (arith, n))
      by rest false n = ap (map_ok (λ ys. z ∷ ys)) (rest (omega (arith, n)))

  pub dropped : (missing : EditKind) (xs : List X) (i : ℕ) → Some i ≡ position test xs → drop_first test missing xs ≡ Ok (remove xs i)
  dropped missing xs i e = drop_here missing xs i (at_position xs i e) (within xs i e)

  pub undropped : (missing : EditKind) (xs : List X) → None ≡ position test xs → drop_first test missing xs ≡ Err missing
  undropped missing xs e = drop_none missing xs (no_position xs e)

-- ---- entries in their place

put_here : (e : Entry) (xs : List Entry) (i : ℕ) → i ≡ position_or_len (λ x. nat_lt e.sequence x.sequence) xs → i < length xs → with_entry e xs ≡ insert xs i e
put_here e [] i n l = absurd (omega (arith, l))
put_here e (z ∷ zs) zero n l = by (nat_lt e.sequence z.sequence) n
  where
    by : (b : Bool) → zero ≡ cond (not b) (1 + position_or_len (λ x. nat_lt e.sequence x.sequence) zs) 0 → (if b then e ∷ z ∷ zs else z ∷ with_entry e zs) ≡ e ∷ z ∷ zs
    by true m = refl
    by false m = absurd (omega (arith, m))
put_here e (z ∷ zs) (suc j) n l = by (λ m. put_here e zs j m (omega (arith, l))) (nat_lt e.sequence z.sequence) n
  where
    by : (j ≡ position_or_len (λ x. nat_lt e.sequence x.sequence) zs → with_entry e zs ≡ insert zs j e) → (b : Bool) → suc j ≡ cond (not b) (1 + position_or_len (λ x. nat_lt e.sequence x.sequence) zs) 0 → (if b then e ∷ z ∷ zs else z ∷ with_entry e zs) ≡ z ∷ insert zs j e
    by rest true m = absurd (omega (arith, m))
    by rest false m = ap (λ ys. z ∷ ys) (rest (omega (arith, m)))

put_last : (e : Entry) (xs : List Entry) → length xs ≤ position_or_len (λ x. nat_lt e.sequence x.sequence) xs → with_entry e xs ≡ xs ++ e ∷ []
put_last e [] l = refl
put_last e (z ∷ zs) l = by (put_last e zs) (nat_lt e.sequence z.sequence) l
  where
    by : (length zs ≤ position_or_len (λ x. nat_lt e.sequence x.sequence) zs → with_entry e zs ≡ zs ++ e ∷ []) → (b : Bool) → length (z ∷ zs) ≤ cond (not b) (1 + position_or_len (λ x. nat_lt e.sequence x.sequence) zs) 0 → (if b then e ∷ z ∷ zs else z ∷ with_entry e zs) ≡ z ∷ (zs ++ e ∷ [])
    by rest true m = absurd (omega (arith, m))
    by rest false m = ap (λ ys. z ∷ ys) (rest (omega (arith, m)))

pub put_before : (e : Entry) (xs : List Entry) (i : ℕ) → Some i ≡ position (λ x. nat_lt e.sequence x.sequence) xs → with_entry e xs ≡ insert xs i e
put_before e xs i n = put_here e xs i (at_position (λ x. nat_lt e.sequence x.sequence) xs i n) (within (λ x. nat_lt e.sequence x.sequence) xs i n)

pub put_behind : (e : Entry) (xs : List Entry) → None ≡ position (λ x. nat_lt e.sequence x.sequence) xs → with_entry e xs ≡ xs ++ e ∷ []
put_behind e xs n = put_last e xs (no_position (λ x. nat_lt e.sequence x.sequence) xs n)
