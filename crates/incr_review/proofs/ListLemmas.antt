-- Lists by their positions.
use Rattle.std.proofs.Common.{ℕ, zero, suc, ◌≡◌, ◌<◌, ◌+◌, ◌⊎◌, inl, inr, Bool, true, false, List, [], ◌∷◌, ◌++◌, Some, None, length, take, get_or, slice_get, map, refl, ap, sym, ◌∙◌, subst, arith, true≢false}
use Rattle.std.specs.Prelude.{Contains}
use Rattle.std.specs.List.{AllZip, IsDistinct}
use Rattle.std.proofs.lemmas.Bool.{cases_order}
use Rattle.std.proofs.lemmas.Option.{slice_get_within, get_or_from_slice_get, slice_get-get_or}
use Rattle.std.proofs.lemmas.List.{take_more}
use Rattle.std.proofs.lemmas.Map.Keys.{apart_from_distinct}

-- ---- positions
pub get_front : {X : Type 0} (xs ys : List X) (i : ℕ) (x : X) → slice_get xs i ≡ Some x → slice_get (xs ++ ys) i ≡ Some x
get_front [] ys i x e = (let no : None ≡ Some x = e in absurd cc)
get_front (z ∷ xs) ys zero x e = e
get_front (z ∷ xs) ys (suc i) x e = get_front xs ys i x e

pub get_back : {X : Type 0} (xs ys : List X) (n j : ℕ) (y : X) → n ≡ length xs + j → slice_get ys j ≡ Some y → slice_get (xs ++ ys) n ≡ Some y
get_back [] ys n j y e g = (let s : j ≡ n = omega (arith, e) in subst (λ k. slice_get ys k ≡ Some y) s g)
get_back (z ∷ xs) ys zero j y e g = absurd (omega (arith, e))
get_back (z ∷ xs) ys (suc n) j y e g = get_back xs ys n j y (omega (arith, e)) g

-- an item of the first list, or of the second one
pub get_cases : {X : Type 0} (xs ys : List X) (n : ℕ) (x : X) → slice_get (xs ++ ys) n ≡ Some x → (slice_get xs n ≡ Some x) ⊎ ((j : ℕ) × (n ≡ length xs + j) × (slice_get ys j ≡ Some x))
get_cases [] ys n x e = inr (n, omega arith, e)
get_cases (z ∷ xs) ys zero x e = inl e
get_cases (z ∷ xs) ys (suc n) x e = elim (get_cases xs ys n x e) [ inl a ↦ inl a | inr b ↦ (let q = b.1 in inr (b.0, omega (arith, q), b.2)) ]

pub get_at : {X : Type 0} (xs : List X) (x : X) → Contains xs x → (k : ℕ) × (slice_get xs k ≡ Some x)
get_at xs x c = (c.0, slice_get-get_or xs c.0 x c.1 ∙ ap Some c.2)

pub from_get : {X : Type 0} (xs : List X) (i : ℕ) (x : X) → slice_get xs i ≡ Some x → Contains xs x
from_get xs i x e = (i, slice_get_within xs i x e, get_or_from_slice_get xs i x x e)

pub get_map : {A B : Type 0} (f : A → B) (xs : List A) (i : ℕ) (y : B) → slice_get (map f xs) i ≡ Some y → (x : A) × (slice_get xs i ≡ Some x) × (f x ≡ y)
get_map f [] i y e = (let no : None ≡ Some y = e in absurd cc)
get_map f (x ∷ xs) zero y e = (let s : f x ≡ y = cc in (x, refl, s))
get_map f (x ∷ xs) (suc i) y e = get_map f xs i y e

-- ---- two lists, item by item
pub zip_more : {A B : Type 0} (R : A → B → Type 0) (xs : List A) (ys : List B) (x : A) (y : B) → AllZip R xs ys → R x y → AllZip R (xs ++ x ∷ []) (ys ++ y ∷ [])
zip_more R [] [] x y a r = (r, tt)
zip_more R [] (z ∷ ys) x y a r = absurd a
zip_more R (z ∷ xs) [] x y a r = absurd a
zip_more R (z ∷ xs) (v ∷ ys) x y a r = (a.0, zip_more R xs ys x y a.1 r)

-- the turn of a loop over the first list
pub zip_turn : {A B : Type 0} (R : A → B → Type 0) (xs : List A) (i : ℕ) (x : A) (ys : List B) (y : B) → i < length xs → x ≡ get_or xs i x → AllZip R (take i xs) ys → R x y → AllZip R (take (i + 1) xs) (ys ++ y ∷ [])
zip_turn R xs i x ys y l e a r =
    let taken : take (i + 1) xs ≡ take i xs ++ x ∷ [] = take_more xs i x l ∙ ap (λ z. take i xs ++ z ∷ []) (sym e) in
    subst (λ zs. AllZip R zs (ys ++ y ∷ [])) (sym taken) (zip_more R (take i xs) ys x y a r)

pub zip_at : {A B : Type 0} (R : A → B → Type 0) (xs : List A) (ys : List B) (i : ℕ) (y : B) → AllZip R xs ys → slice_get ys i ≡ Some y → (x : A) × (slice_get xs i ≡ Some x) × R x y
zip_at R [] [] i y a e = (let no : None ≡ Some y = e in absurd cc)
zip_at R [] (z ∷ ys) i y a e = absurd a
zip_at R (x ∷ xs) [] i y a e = absurd a
zip_at R (x ∷ xs) (z ∷ ys) zero y a e = (let same : z ≡ y = cc in (x, refl, subst (R x) same a.0))
zip_at R (x ∷ xs) (z ∷ ys) (suc i) y a e = zip_at R xs ys i y a.1 e

pub zip_from : {A B : Type 0} (R : A → B → Type 0) (xs : List A) (ys : List B) (i : ℕ) (x : A) → AllZip R xs ys → slice_get xs i ≡ Some x → (y : B) × (slice_get ys i ≡ Some y) × R x y
zip_from R [] [] i x a e = (let no : None ≡ Some x = e in absurd cc)
zip_from R [] (z ∷ ys) i x a e = absurd a
zip_from R (v ∷ xs) [] i x a e = absurd a
zip_from R (v ∷ xs) (z ∷ ys) zero x a e = (let same : v ≡ x = cc in (z, refl, subst (λ u. R u z) same a.0))
zip_from R (v ∷ xs) (z ∷ ys) (suc i) x a e = zip_from R xs ys i x a.1 e

-- ---- items that stand once
pub once_at : {X : Type 0} (e : X → X → Bool) → ((x : X) → e x x ≡ true) → (xs : List X) → IsDistinct e xs → (i j : ℕ) (x : X) → slice_get xs i ≡ Some x → slice_get xs j ≡ Some x → i ≡ j
once_at e own xs d i j x p q = elim (cases_order i j) [
  | inl s ↦ s
  | inr o ↦ elim o [
    | inl l ↦ (
        let a = apart_from_distinct e xs i j x d l (slice_get_within xs j x q) in
        let b = get_or_from_slice_get xs i x x p in
        let c = get_or_from_slice_get xs j x x q in
        let f : e x x ≡ false = rw (b, c) at a in
        absurd (true≢false (sym (own x) ∙ f)))
    | inr l ↦ (
        let a = apart_from_distinct e xs j i x d l (slice_get_within xs i x p) in
        let b = get_or_from_slice_get xs i x x p in
        let c = get_or_from_slice_get xs j x x q in
        let f : e x x ≡ false = rw (b, c) at a in
        absurd (true≢false (sym (own x) ∙ f)))
  ]
]

-- ---- the first item
pub no_first : {X : Type 0} (xs : List X) → None ≡ slice_get xs 0 → xs ≡ []
no_first [] e = refl
no_first (x ∷ xs) e = absurd cc

pub one_first : {X : Type 0} (xs : List X) (x : X) → length xs ≡ 1 → Some x ≡ slice_get xs 0 → xs ≡ x ∷ []
one_first [] x l e = absurd (omega (arith, l))
one_first (y ∷ []) x l e = (let same : y ≡ x = cc in ap (λ z. z ∷ []) same)
one_first (y ∷ z ∷ xs) x l e = absurd (omega (arith, l))

pub some_first : {X : Type 0} (xs : List X) (x : X) → Some x ≡ slice_get xs 0 → 0 < length xs
some_first [] x e = absurd cc
some_first (y ∷ xs) x e = omega arith
