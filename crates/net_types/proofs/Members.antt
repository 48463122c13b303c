-- What is in a list made of other lists.
use Rattle.std.proofs.Common.{◌≡◌, ◌⊎◌, inl, inr, zero, suc, Bool, true, false, cond, List, [], ◌∷◌, Option, Some, None, map, refl, sym, ap, subst, ◌∙◌, arith}
use Rattle.std.specs.Prelude.{filter, filter_map, flat_map, Contains}
use Rattle.std.specs.List.{cons_option, list_any}
use Rattle.std.proofs.lemmas.List.Elements.{Contains-append_cases, Contains-append_left, Contains-append_right}

module _ {A : Type 0} where
  pub here : (x : A) (xs : List A) → Contains (x ∷ xs) x
  here x xs = (zero, omega arith, refl)

  pub there : (x z : A) (xs : List A) → Contains xs z → Contains (x ∷ xs) z
  there x z xs h = (suc h.0, omega (arith, h.1), h.2)

  pub in_cons : (x z : A) (xs : List A) → Contains (x ∷ xs) z → (x ≡ z) ⊎ Contains xs z
  in_cons x z xs (zero, l, e) = inl e
  in_cons x z xs (suc k, l, e) = inr (k, omega (arith, l), e)

  pub in_none : (z : A) → Contains [] z → ⊥
  in_none z h = omega (arith, h.1)

  pub in_one : (x z : A) → Contains (x ∷ []) z → x ≡ z
  in_one x z h = elim (in_cons x z [] h) [ inl e ↦ e | inr c ↦ absurd (in_none z c) ]

  -- what a filter keeps is in the list and passes the test
  pub in_filter : (p : A → Bool) (xs : List A) (z : A) → Contains (filter p xs) z → Contains xs z × (p z ≡ true)
  in_filter p [] z h = absurd (in_none z h)
  in_filter p (x ∷ xs) z h =
      (elim (p x) as (λ b. p x ≡ b → Contains (cond b (x ∷ filter p xs) (filter p xs)) z → Contains (x ∷ xs) z × (p z ≡ true)) [
        | true ↦ λ e g. elim (in_cons x z (filter p xs) g) [
          | inl c ↦ (subst (Contains (x ∷ xs)) c (here x xs), ap p (sym c) ∙ e)
          | inr c ↦ let i = in_filter p xs z c in (there x z xs i.0, i.1)
        ]
        | false ↦ λ e g. let i = in_filter p xs z g in (there x z xs i.0, i.1)
      ]) refl h

  pub to_filter : (p : A → Bool) (xs : List A) (z : A) → Contains xs z → p z ≡ true → Contains (filter p xs) z
  to_filter p [] z h t = absurd (in_none z h)
  to_filter p (x ∷ xs) z h t =
      (elim (p x) as (λ b. p x ≡ b → Contains (cond b (x ∷ filter p xs) (filter p xs)) z) [
        | true ↦ λ e. elim (in_cons x z xs h) [
          | inl c ↦ subst (Contains (x ∷ filter p xs)) c (here x (filter p xs))
          | inr c ↦ there x z (filter p xs) (to_filter p xs z c t)
        ]
        | false ↦ λ e. elim (in_cons x z xs h) [
          | inl c ↦ let both : false ≡ true = sym e ∙ ap p c ∙ t in cc
          | inr c ↦ to_filter p xs z c t
        ]
      ]) refl

  -- a test passes at some item
  pub from_any : (p : A → Bool) (xs : List A) → list_any p xs ≡ true → (x : A) × Contains xs x × (p x ≡ true)
  from_any p [] h = absurd (let both : false ≡ true = h in cc)
  from_any p (x ∷ xs) h =
      (elim (p x) as (λ b. p x ≡ b → (z : A) × Contains (x ∷ xs) z × (p z ≡ true)) [
        | true ↦ λ e. (x, here x xs, e)
        | false ↦ λ e. let i = from_any p xs (rw e at h) in (i.0, there x i.0 xs i.1, i.2)
      ]) refl

  pub to_any : (p : A → Bool) (xs : List A) (x : A) → Contains xs x → p x ≡ true → list_any p xs ≡ true
  to_any p [] x h t = absurd (in_none x h)
  to_any p (y ∷ xs) x h t =
      (elim (p y) as (λ b. p y ≡ b → list_any p (y ∷ xs) ≡ true) [
        | true ↦ λ e. rw e
        | false ↦ λ e. elim (in_cons y x xs h) [
          | inl c ↦ let both : false ≡ true = sym e ∙ ap p c ∙ t in cc
          | inr c ↦ rw e (to_any p xs x c t)
        ]
      ]) refl

module _ {A B : Type 0} where
  pub in_map : (f : A → B) (xs : List A) (y : B) → Contains (map f xs) y → (x : A) × Contains xs x × (f x ≡ y)
  in_map f [] y h = absurd (in_none y h)
  in_map f (x ∷ xs) y h = elim (in_cons (f x) y (map f xs) h) [
    | inl e ↦ (x, here x xs, e)
    | inr e ↦ let i = in_map f xs y e in (i.0, there x i.0 xs i.1, i.2)
  ]

  pub to_map : (f : A → B) (xs : List A) (x : A) → Contains xs x → Contains (map f xs) (f x)
  to_map f [] x h = absurd (in_none x h)
  to_map f (z ∷ xs) x h = elim (in_cons z x xs h) [
    | inl e ↦ subst (λ u. Contains (f z ∷ map f xs) (f u)) e (here (f z) (map f xs))
    | inr e ↦ there (f z) (f x) (map f xs) (to_map f xs x e)
  ]

  pub in_flat_map : (f : A → List B) (xs : List A) (y : B) → Contains (flat_map f xs) y → (x : A) × Contains xs x × Contains (f x) y
  in_flat_map f [] y h = absurd (in_none y h)
  in_flat_map f (x ∷ xs) y h = elim (Contains-append_cases (f x) (flat_map f xs) y h) [
    | inl e ↦ (x, here x xs, e)
    | inr e ↦ let i = in_flat_map f xs y e in (i.0, there x i.0 xs i.1, i.2)
  ]

  pub to_flat_map : (f : A → List B) (xs : List A) (y : B) (x : A) → Contains xs x → Contains (f x) y → Contains (flat_map f xs) y
  to_flat_map f [] y x h g = absurd (in_none x h)
  to_flat_map f (z ∷ xs) y x h g = elim (in_cons z x xs h) [
    | inl e ↦ Contains-append_left (f z) (flat_map f xs) y (subst (λ u. Contains (f u) y) (sym e) g)
    | inr e ↦ Contains-append_right (f z) (flat_map f xs) y (to_flat_map f xs y x e g)
  ]

  pub in_filter_map : (f : A → Option B) (xs : List A) (y : B) → Contains (filter_map f xs) y → (x : A) × Contains xs x × (f x ≡ Some y)
  in_filter_map f [] y h = absurd (in_none y h)
  in_filter_map f (x ∷ xs) y h =
      (elim (f x) as (λ o. f x ≡ o → Contains (cons_option o (filter_map f xs)) y → (z : A) × Contains (x ∷ xs) z × (f z ≡ Some y)) [
        | None ↦ λ e g. let i = in_filter_map f xs y g in (i.0, there x i.0 xs i.1, i.2)
        | Some v ↦ λ e g. elim (in_cons v y (filter_map f xs) g) [
          | inl c ↦ (x, here x xs, e ∙ ap Some c)
          | inr c ↦ let i = in_filter_map f xs y c in (i.0, there x i.0 xs i.1, i.2)
        ]
      ]) refl h

  pub to_filter_map : (f : A → Option B) (xs : List A) (y : B) (x : A) → Contains xs x → f x ≡ Some y → Contains (filter_map f xs) y
  to_filter_map f [] y x h g = absurd (in_none x h)
  to_filter_map f (z ∷ xs) y x h g = elim (in_cons z x xs h) [
    | inl e ↦ let k : f z ≡ Some y = ap f e ∙ g in subst (λ o. Contains (cons_option o (filter_map f xs)) y) (sym k) (here y (filter_map f xs))
    | inr e ↦ skipped (f z) (filter_map f xs) (to_filter_map f xs y x e g)
  ]
    where
      skipped : (o : Option B) (ys : List B) → Contains ys y → Contains (cons_option o ys) y
      skipped None ys h = h
      skipped (Some v) ys h = there v y ys h
