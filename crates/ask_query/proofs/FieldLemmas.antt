-- What is read of a field's text is what is printed so.
use Rattle.std.proofs.Common.{◌≡◌, ℕ, zero, suc, ◌+◌, ◌^◌, ◌<◌, ◌≤◌, ◌⊎◌, inl, inr, Bool, true, false, cond, List, [], ◌∷◌, ◌++◌, map, refl, sym, ap, subst, ◌∙◌, arith}
use Rattle.std.specs.Prelude.{Option, Some, None, ◌==◌, bit_and, find, nat_lt, IfSome}
use Rattle.std.specs.List.{flat_map, range_with_len}
use Rattle.std.specs.Str.{bytes_eq}
use Rattle.std.proofs.lemmas.Bool.{eq-eqb, eqb-true, ltb-true, ltb-false}
use Rattle.std.proofs.lemmas.Nat.{and_le_r}
use Rattle.std.proofs.lemmas.Slice.Eq.{bytes_eq-Decides}
use Rattle.report_text.specs.FieldText.{IsField, field_text, width_of}
use Rattle.report_text.proofs.FieldLaws.{both}
use Rattle.ask_query.specs.declared.fields.Field.{Field}
use Rattle.ask_query.specs.declared.fields.Field.TheVariants as field
use Rattle.ask_query.specs.Refusals.{Word}
use Rattle.ask_query.specs.Fields.{field_of, is_printed, pairs_below, place_of}

-- ---- what is found in a list
abbrev Among : {A : Type 0} → A → List A → Type 0
Among x [] = ⊥
Among x (y ∷ ys) = (x ≡ y) ⊎ Among x ys

module _ {A : Type 0} (p : A → Bool) where
  passes : (xs : List A) (x : A) → find p xs ≡ Some x → (p x ≡ true) × Among x xs
  passes [] x e = absurd cc
  passes (y ∷ ys) x e = go (p y) refl (passes ys x) e
    where
      go : (b : Bool) → p y ≡ b → (find p ys ≡ Some x → (p x ≡ true) × Among x ys) → cond b (Some y) (find p ys) ≡ Some x → (p x ≡ true) × Among x (y ∷ ys)
      go true h later g = let s : y ≡ x = cc in (ap p (sym s) ∙ h, inl (sym s))
      go false h later g = let r = later g in (r.0, inr r.1)

  not_missed : (xs : List A) (x : A) → Among x xs → p x ≡ true → find p xs ≡ None → ⊥
  not_missed [] x m h e = m
  not_missed (y ∷ ys) x m h e = go (p y) refl (λ g. not_missed ys x g h) m e
    where
      go : (b : Bool) → p y ≡ b → (Among x ys → find p ys ≡ None → ⊥) → Among x (y ∷ ys) → cond b (Some y) (find p ys) ≡ None → ⊥
      go true g later m e = absurd cc
      go false g later (inl s) e = let other : p y ≡ true = ap p (sym s) ∙ h in absurd cc
      go false g later (inr m) e = later m e

module _ {A : Type 0} where
  among_first : (xs ys : List A) (x : A) → Among x xs → Among x (xs ++ ys)
  among_first [] ys x m = absurd m
  among_first (y ∷ xs) ys x (inl e) = inl e
  among_first (y ∷ xs) ys x (inr m) = inr (among_first xs ys x m)

  among_second : (xs ys : List A) (x : A) → Among x ys → Among x (xs ++ ys)
  among_second [] ys x m = m
  among_second (y ∷ xs) ys x m = inr (among_second xs ys x m)

  among_either : (xs ys : List A) (x : A) → Among x (xs ++ ys) → Among x xs ⊎ Among x ys
  among_either [] ys x m = inr m
  among_either (y ∷ xs) ys x (inl e) = inl (inl e)
  among_either (y ∷ xs) ys x (inr m) = elim (among_either xs ys x m) [ inl h ↦ inl (inr h) | inr h ↦ inr h ]

-- ---- pairs of numbers
at_or_above : (low a : ℕ) → low ≤ a → (a ≡ low) ⊎ (low + 1 ≤ a)
at_or_above low a l = go (nat_lt low a) refl
  where
    go : (b : Bool) → nat_lt low a ≡ b → (a ≡ low) ⊎ (low + 1 ≤ a)
    go true h = inr (omega (arith, ltb-true low a h))
    go false h = inl (omega (arith, ltb-false low a h))

in_range : (low n a : ℕ) → low ≤ a → a < low + n → Among a (range_with_len low n)
in_range low zero a l h = absurd (omega arith)
in_range low (suc n) a l h = elim (at_or_above low a l) [ inl e ↦ inl e | inr g ↦ inr (in_range (low + 1) n a g (omega arith)) ]

abbrev row : ℕ → List ℕ → List (ℕ × ℕ)
row a bs = map (λ b. (a, b)) bs

in_row : (a b : ℕ) (bs : List ℕ) → Among b bs → Among (a, b) (row a bs)
in_row a b [] m = m
in_row a b (c ∷ bs) (inl e) = inl (ap (λ n. (a, n)) e)
in_row a b (c ∷ bs) (inr m) = inr (in_row a b bs m)

first_in_row : (a : ℕ) (bs : List ℕ) (y : ℕ × ℕ) → Among y (row a bs) → y.0 ≡ a
first_in_row a [] y m = absurd m
first_in_row a (b ∷ bs) y (inl e) = ap (λ p. p.0) e
first_in_row a (b ∷ bs) y (inr m) = first_in_row a bs y m

abbrev rows : List ℕ → ℕ → ℕ → List (ℕ × ℕ)
rows bs low n = flat_map (λ a. row a bs) (range_with_len low n)

in_rows : (bs : List ℕ) (low n a b : ℕ) → low ≤ a → a < low + n → Among b bs → Among (a, b) (rows bs low n)
in_rows bs low zero a b l h m = absurd (omega arith)
in_rows bs low (suc n) a b l h m = elim (at_or_above low a l) [
  | inl e ↦ among_first (row low bs) (rows bs (low + 1) n) (a, b) (subst (λ c. Among (a, b) (row c bs)) e (in_row a b bs m))
  | inr g ↦ among_second (row low bs) (rows bs (low + 1) n) (a, b) (in_rows bs (low + 1) n a b g (omega arith) m)
]

first_in_rows : (bs : List ℕ) (low n : ℕ) (y : ℕ × ℕ) → Among y (rows bs low n) → y.0 < low + n
first_in_rows bs low zero y m = absurd m
first_in_rows bs low (suc n) y m = elim (among_either (row low bs) (rows bs (low + 1) n) y m) [
  | inl h ↦ omega (arith, first_in_row low bs y h)
  | inr h ↦ omega (arith, first_in_rows bs (low + 1) n y h)
]

-- ---- fields
known : (x : Field) → place_of x < 6
known field.Dst = omega arith
known field.Src = omega arith
known field.Proto = omega arith
known field.Dport = omega arith
known field.Sport = omega arith
known field.Flags = omega arith

module _ (x : Field) (w : Word) where
  abbrev IsPrinted : ℕ × ℕ → Type 0
  IsPrinted f = IsField (place_of x) f.0 f.1 × (field_text (place_of x) f.0 f.1 ≡ w)

  abbrev bound : ℕ
  bound = 2 ^ width_of (place_of x)

  -- a field that was found
  printed : (f : ℕ × ℕ) → find (is_printed x w) (pairs_below bound) ≡ Some f → IsPrinted f
  printed f e =
      let g = passes (is_printed x w) (pairs_below bound) f e in
      let t = both (bit_and f.1 f.0 == f.1) (bytes_eq (field_text (place_of x) f.0 f.1) w) g.0 in (
        record { known = known x; below = omega (arith, first_in_rows (range_with_len 0 bound) 0 bound f g.1); digits = eqb-true (bit_and f.1 f.0) f.1 t.0 },
        (bytes_eq-Decides (field_text (place_of x) f.0 f.1) w).0 t.1,
      )

  -- what is printed so is found
  not_none : (f : ℕ × ℕ) → IsPrinted f → find (is_printed x w) (pairs_below bound) ≡ None → ⊥
  not_none f h e =
      let l = and_le_r f.1 f.0 in
      let there = in_rows (range_with_len 0 bound) 0 bound f.0 f.1 (omega arith) (omega (arith, h.0.below)) (in_range 0 bound f.1 (omega arith) (omega (arith, l, h.0.digits, h.0.below))) in
      let test : is_printed x w f ≡ true = rw (eq-eqb (bit_and f.1 f.0) f.1 h.0.digits, (bytes_eq-Decides (field_text (place_of x) f.0 f.1) w).1 h.1) refl in
      not_missed (is_printed x w) (pairs_below bound) f there test e

  field_read : (read : Option (ℕ × ℕ)) → IfSome read IsPrinted → ((fixed bits : ℕ) → IsField (place_of x) fixed bits → field_text (place_of x) fixed bits ≡ w → read ≡ Some (fixed, bits)) → read ≡ field_of x w
  unfolding field_of
  field_read read is all = go (find (is_printed x w) (pairs_below bound)) refl
    where
      none : (o : Option (ℕ × ℕ)) → IfSome o IsPrinted → find (is_printed x w) (pairs_below bound) ≡ None → o ≡ None
      none None h e = refl
      none (Some f) h e = absurd (not_none f h e)

      go : (o : Option (ℕ × ℕ)) → find (is_printed x w) (pairs_below bound) ≡ o → read ≡ o
      go None e = none read is e
      go (Some f) e = let g = printed f e in all f.0 f.1 g.0 g.1

-- what was read of the field at this place
module _ (x : Field) (k : ℕ) (at : k ≡ place_of x) (w : Word) (read : Option (ℕ × ℕ)) (is : IfSome read (λ f. IsField k f.0 f.1 × (field_text k f.0 f.1 ≡ w))) where
  pub is_field : IfSome read (λ f. IsField (place_of x) f.0 f.1)
  is_field = go read (subst (λ p. IfSome read (λ f. IsField p f.0 f.1 × (field_text p f.0 f.1 ≡ w))) at is)
    where
      go : (o : Option (ℕ × ℕ)) → IfSome o (IsPrinted x w) → IfSome o (λ f. IsField (place_of x) f.0 f.1)
      go None h = tt
      go (Some f) h = h.0

  pub is_field_of : ((fixed bits : ℕ) → IsField k fixed bits → field_text k fixed bits ≡ w → read ≡ Some (fixed, bits)) → read ≡ field_of x w
  is_field_of all =
      let Is : ℕ → Type 0 = λ p. IfSome read (λ f. IsField p f.0 f.1 × (field_text p f.0 f.1 ≡ w)) in
      let All : ℕ → Type 0 = λ p. (fixed bits : ℕ) → IsField p fixed bits → field_text p fixed bits ≡ w → read ≡ Some (fixed, bits) in
      field_read x w read (subst Is at is) (subst All at all)
