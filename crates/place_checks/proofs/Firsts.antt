-- The first of a list that passes a test, and the value that a table has for the test's key, as both grow.
use Rattle.std.proofs.Common.{◌≡◌, ℕ, ◌+◌, ◌<◌, Bool, true, false, cond, List, [], ◌∷◌, ◌++◌, length, take, drop, get_or, find, map, filter, Option, Some, None, is_some, refl, sym, ap, ◌∙◌, append_assoc}
use Rattle.std.specs.Prelude.{option_map, flat_map, filter_map, Result, Ok, Err, OnOk}
use Rattle.std.specs.List.{cons_option, fold}
use Rattle.std.proofs.lemmas.List.{append-nil, map-append, take_more, take-append-drop, flat_map_more}
use Rattle.std.proofs.lemmas.List.Elements.{filter_map-append, filter_more}
use Rattle.std.proofs.lemmas.List.Sums.{fold_more}
use Rattle.topo_links.specs.Table.{first}
use Rattle.std.specs.Option.{option_or}
use Rattle.std.specs.Map.{lookup}
use Rattle.std.proofs.lemmas.Bool.{false≢true}

module _ {X Y : Type 0} (f : X → Y) where
  pub is_some-map : (o : Option X) → is_some (option_map f o) ≡ is_some o
  is_some-map None = refl
  is_some-map (Some x) = refl

module _ {X : Type 0} where
  pub or_none : (o : Option X) → option_or o None ≡ o
  or_none None = refl
  or_none (Some x) = refl

  or_some : (o p : Option X) → is_some o ≡ true → option_or o p ≡ o
  or_some None p h = absurd (false≢true h)
  or_some (Some x) p h = refl

module _ {K V X : Type 0} (value : V → X) (t : K → Bool) (k : K) (v : V) where
  lookup_push : (es : List (K × V)) → option_map value (lookup t (es ++ (k, v) ∷ [])) ≡ option_or (option_map value (lookup t es)) (cond (t k) (Some (value v)) None)
  lookup_push [] = elim (t k) as (λ b. option_map value (cond b (Some v) None) ≡ cond b (Some (value v)) None) [ true ↦ refl | false ↦ refl ]
  lookup_push (e ∷ es) = elim (t e.0) as (λ b. option_map value (cond b (Some e.1) (lookup t (es ++ (k, v) ∷ []))) ≡ option_or (option_map value (cond b (Some e.1) (lookup t es))) (cond (t k) (Some (value v)) None)) [
    | true ↦ refl
    | false ↦ lookup_push es
  ]

module _ {T X : Type 0} (part : T → X) (p : T → Bool) (x : T) where
  find_push : (xs : List T) → option_map part (find p (xs ++ x ∷ [])) ≡ option_or (option_map part (find p xs)) (cond (p x) (Some (part x)) None)
  find_push [] = elim (p x) as (λ b. option_map part (cond b (Some x) None) ≡ cond b (Some (part x)) None) [ true ↦ refl | false ↦ refl ]
  find_push (y ∷ xs) = elim (p y) as (λ b. option_map part (cond b (Some y) (find p (xs ++ x ∷ []))) ≡ option_or (option_map part (cond b (Some y) (find p xs))) (cond (p x) (Some (part x)) None)) [
    | true ↦ refl
    | false ↦ find_push xs
  ]

  -- one that is found before needs no further one
  pub found_before : (xs : List T) (o : Option X) → o ≡ option_map part (find p xs) → (p x ≡ true → is_some o ≡ true) → o ≡ option_map part (find p (xs ++ x ∷ []))
  found_before xs o h there = h ∙ sym (find_push xs ∙ by (p x) refl)
    where
      by : (b : Bool) → p x ≡ b → option_or (option_map part (find p xs)) (cond b (Some (part x)) None) ≡ option_map part (find p xs)
      by true e = or_some (option_map part (find p xs)) (Some (part x)) (ap is_some (sym h) ∙ there e)
      by false e = or_none (option_map part (find p xs))

  -- a table and a list that grow alike
  pub found_pushed : {K V : Type 0} (value : V → X) (t : K → Bool) (k : K) (v : V) (es : List (K × V)) (xs : List T)
      → t k ≡ p x → value v ≡ part x → option_map value (lookup t es) ≡ option_map part (find p xs)
      → option_map value (lookup t (es ++ (k, v) ∷ [])) ≡ option_map part (find p (xs ++ x ∷ []))
  found_pushed value t k v es xs tests values h =
      lookup_push value t k v es
      ∙ (λ i. option_or (h i) (cond (tests i) (Some (values i)) None))
      ∙ sym (find_push xs)

  same : (o : Option X) → option_map (λ (y : X). y) o ≡ o
  same None = refl
  same (Some y) = refl

  pub found_pushed_same : {K : Type 0} (t : K → Bool) (k : K) (v : X) (es : List (K × X)) (xs : List T)
      → t k ≡ p x → v ≡ part x → lookup t es ≡ option_map part (find p xs)
      → lookup t (es ++ (k, v) ∷ []) ≡ option_map part (find p (xs ++ x ∷ []))
  found_pushed_same t k v es xs tests values h =
      sym (same (lookup t (es ++ (k, v) ∷ []))) ∙ found_pushed (λ (y : X). y) t k v es xs tests values (same (lookup t es) ∙ h)

pub on_ok : {T E : Type 0} (r : Result T E) {P Q : Type 0} → (P → Q) → OnOk r P → OnOk r Q
on_ok (Ok x) f h = f h
on_ok (Err e) f h = h

pub absent : {X : Type 0} (o : Option X) → false ≡ is_some o → o ≡ None
absent None h = refl
absent (Some x) h = absurd (false≢true h)

-- one more item of a list that is gone through
module _ {A B : Type 0} (bs : List B) (xs : List A) (i : ℕ) (x : A) (low : i < length xs) (is : x ≡ get_or xs i x) where
  next : take (i + 1) xs ≡ take i xs ++ x ∷ []
  next = take_more xs i x low ∙ ap (λ y. take i xs ++ y ∷ []) (sym is)

  pub push_map : (f : A → B) → (bs ++ map f (take i xs)) ++ f x ∷ [] ≡ bs ++ map f (take (i + 1) xs)
  push_map f = append_assoc bs (map f (take i xs)) (f x ∷ []) ∙ ap (λ l. bs ++ l) (sym (ap (map f) next ∙ map-append f (take i xs) (x ∷ [])))

  pub push_flat : (f : A → List B) → (bs ++ flat_map f (take i xs)) ++ f x ≡ bs ++ flat_map f (take (i + 1) xs)
  push_flat f = flat_map_more f bs (take i xs) x ∙ ap (λ l. bs ++ flat_map f l) (sym next)

-- the same of those that pass a test, and of what is gathered
module _ {A : Type 0} (xs : List A) (i : ℕ) (x : A) (low : i < length xs) (is : x ≡ get_or xs i x) where
  filter_next : (p : A → Bool) (b : Bool) → b ≡ p x → filter p (take i xs) ++ cond b (x ∷ []) [] ≡ filter p (take (i + 1) xs)
  filter_next p b e =
      ap (λ c. filter p (take i xs) ++ cond c (x ∷ []) []) e
      ∙ ap (λ y. filter p (take i xs) ++ cond (p y) (y ∷ []) []) is
      ∙ sym (filter_more p xs i x low)

  pub filter_kept : (p : A → Bool) → true ≡ p x → filter p (take i xs) ++ x ∷ [] ≡ filter p (take (i + 1) xs)
  filter_kept p e = filter_next p true e

  pub filter_left : (p : A → Bool) → false ≡ p x → filter p (take i xs) ≡ filter p (take (i + 1) xs)
  filter_left p e = sym (append-nil (filter p (take i xs))) ∙ filter_next p false e

  pub fold_next : {B : Type 0} (f : B → A → B) (a : B) → f (fold f a (take i xs)) x ≡ fold f a (take (i + 1) xs)
  fold_next f a = ap (f (fold f a (take i xs))) is ∙ sym (fold_more f a xs i x low)

module _ {A B : Type 0} (f : A → Option B) (xs : List A) (i : ℕ) (x : A) (low : i < length xs) (is : x ≡ get_or xs i x) (none : filter_map f (take i xs) ≡ []) where
  so_far : filter_map f (take (i + 1) xs) ≡ cons_option (f x) []
  so_far =
      ap (filter_map f) (take_more xs i x low ∙ ap (λ y. take i xs ++ y ∷ []) (sym is))
      ∙ filter_map-append f (take i xs) (x ∷ []) ∙ ap (λ l. l ++ cons_option (f x) []) none

  -- the first one for which there is something
  pub first_at : (o : Option B) → o ≡ f x → is_some o ≡ true → o ≡ first (filter_map f xs)
  first_at o e some =
      begins o some
      ∙ ap (λ q. first (cons_option q [] ++ filter_map f (drop (i + 1) xs))) e
      ∙ ap (λ l. first (l ++ filter_map f (drop (i + 1) xs))) (sym so_far)
      ∙ ap first (sym (filter_map-append f (take (i + 1) xs) (drop (i + 1) xs)))
      ∙ ap (λ l. first (filter_map f l)) (take-append-drop (i + 1) xs)
    where
      begins : (q : Option B) → is_some q ≡ true → q ≡ first (cons_option q [] ++ filter_map f (drop (i + 1) xs))
      begins None h = absurd (false≢true h)
      begins (Some y) h = refl

  pub none_more : (o : Option B) → o ≡ f x → is_some o ≡ false → filter_map f (take (i + 1) xs) ≡ []
  none_more o e h = so_far ∙ ap (λ q. cons_option q []) (sym e) ∙ empty o h
    where
      empty : (q : Option B) → is_some q ≡ false → cons_option q [] ≡ []
      empty None h = refl
      empty (Some y) h = absurd (false≢true (sym h))
