-- Some item of a list, and pairs of items, in lists that are put together.
use Rattle.std.proofs.Common.{◌≡◌, ℕ, zero, suc, ◌-◌, Bool, true, false, cond, List, [], ◌∷◌, ◌++◌, length, Option, Some, None, All, AllPairs, Any, map, slice_get, refl, sym, ap, subst, arith}
use Rattle.std.specs.Prelude.{IfSome}
use Rattle.std.specs.List.{AllByRecursion}
use Rattle.std.specs.List.Sorted.{IsPermutation}
use Rattle.std.proofs.lemmas.List.{append-nil, map-append}
use Rattle.std.proofs.lemmas.List.Elements.{All-head, All-tail, All-cons, All-append, All-weaker, Contains-append_left, Contains-append_right}
use Rattle.std.proofs.lemmas.List.Kept.{AllPairs-cons}
use Rattle.std.proofs.lemmas.List.Sorted.{Contains-permutation}

-- ---- some item
pub any_left : {A : Type 0} (P : A → Type 0) (xs ys : List A) → Any P xs → Any P (xs ++ ys)
any_left P xs ys a = let c = Contains-append_left xs ys a.1 (a.0, a.2, a.3) in (c.0, a.1, c.1, c.2, a.4)

pub any_right : {A : Type 0} (P : A → Type 0) (xs ys : List A) → Any P ys → Any P (xs ++ ys)
any_right P xs ys a = let c = Contains-append_right xs ys a.1 (a.0, a.2, a.3) in (c.0, a.1, c.1, c.2, a.4)

pub any_moved : {A : Type 0} (P : A → Type 0) (xs ys : List A) → IsPermutation xs ys → Any P xs → Any P ys
any_moved P xs ys m a = let c = Contains-permutation xs ys a.1 m (a.0, a.2, a.3) in (c.0, a.1, c.1, c.2, a.4)

pub any_later : {A : Type 0} (P : A → Type 0) (b : Bool) (x : A) (xs : List A) → Any P xs → Any P (cond b (x ∷ xs) xs)
any_later P true x xs a = (suc a.0, a.1, (let within = a.2 in omega (arith, within)), a.3, a.4)
any_later P false x xs a = a

pub any_map : {A B : Type 0} (f : A → B) (P : B → Type 0) (xs : List A) → Any (λ x. P (f x)) xs → Any P (map f xs)
any_map f P [] a = let within = a.2 in absurd (omega (arith, within))
any_map f P (x ∷ xs) (zero, y, within, same, holds) = (zero, f y, omega arith, ap f same, holds)
any_map f P (x ∷ xs) (suc k, y, within, same, holds) = any_later P true (f x) (map f xs) (any_map f P xs (k, y, omega (arith, within), same, holds))

-- what holds of the item, if there is one, holds of this one
pub of_some : {A : Type 0} (P : A → Type 0) (o : Option A) (x : A) → o ≡ Some x → IfSome o P → P x
of_some P None x e h = absurd cc
of_some P (Some y) x e h = let same : y ≡ x = cc in subst P same h

-- ---- each item
pub recursion_append : {A : Type 0} (P : A → Type 0) (xs ys : List A) → AllByRecursion P xs → AllByRecursion P ys → AllByRecursion P (xs ++ ys)
recursion_append P [] ys a b = b
recursion_append P (x ∷ xs) ys a b = (a.0, recursion_append P xs ys a.1 b)

-- what holds of the image of each key, after one more key, which is added where there is none like it
pub recursion_inserted : {K A : Type 0} (f : K → A) (P : A → Type 0) (there : Bool) (ks : List K) (k : K) → P (f k) → AllByRecursion P (map f ks) → AllByRecursion P (map f (cond there ks (ks ++ k ∷ [])))
recursion_inserted f P true ks k p a = a
recursion_inserted f P false ks k p a = subst (AllByRecursion P) (sym (map-append f ks (k ∷ []))) (recursion_append P (map f ks) (f k ∷ []) a (p, tt))

all_at : {A : Type 0} (P : A → Type 0) (xs : List A) (n : ℕ) (x : A) → All P xs → slice_get xs n ≡ Some x → P x
all_at P [] n x a e = absurd cc
all_at P (y ∷ ys) zero x a e = let same : y ≡ x = cc in subst P same (All-head P y ys a)
all_at P (y ∷ ys) (suc n) x a e = all_at P ys n x (All-tail P y ys a) e

last_of : {A : Type 0} (x : A) (xs : List A) → (z : A) × (slice_get (x ∷ xs) (length xs) ≡ Some z)
last_of x [] = (x, refl)
last_of x (y ∷ xs) = last_of y xs

-- ---- pairs of items
module _ {A : Type 0} (R : A → A → Type 0) (trans : (x y z : A) → R x y → R y z → R x z) where
  pairs_head : (x : A) (xs : List A) → AllPairs R (x ∷ xs) → All (R x) xs
  pairs_head x xs a = λ k d l. a 0 (suc k) d (omega arith) (omega (arith, l))

  pairs_tail : (x : A) (xs : List A) → AllPairs R (x ∷ xs) → AllPairs R xs
  pairs_tail x xs a = λ i j d l k. a (suc i) (suc j) d (omega (arith, l)) (omega (arith, k))

  -- what comes before the first comes before all
  before_all : (x y : A) (ys : List A) → AllPairs R (y ∷ ys) → R x y → All (R x) (y ∷ ys)
  before_all x y ys b r = All-cons (R x) y ys r (All-weaker (R y) (R x) (λ z s. trans x y z r s) ys (pairs_head y ys b))

  joined : (x : A) (xs ys : List A) → AllPairs R (x ∷ xs) → AllPairs R ys → ((z : A) → slice_get (x ∷ xs) (length xs) ≡ Some z → All (R z) ys) → AllPairs R (x ∷ xs ++ ys)
  joined x [] ys a b c = AllPairs-cons R x ys (c x refl) b
  joined x (w ∷ xs) ys a b c =
      let head = pairs_head x (w ∷ xs) a in
      let last = last_of w xs in
      let before : R x last.0 = all_at (R x) (w ∷ xs) (length xs) last.0 head last.1 in
      let others : All (R x) ys = All-weaker (R last.0) (R x) (λ z s. trans x last.0 z before s) ys (c last.0 last.1) in
      AllPairs-cons R x (w ∷ xs ++ ys) (All-append (R x) (w ∷ xs) ys head others) (joined w xs ys (pairs_tail x (w ∷ xs) a) b c)

  -- two lists in order, where the last of one comes before the first of the other
  pub pairs_joined : (xs ys : List A) → AllPairs R xs → AllPairs R ys → ((x y : A) → slice_get xs (length xs - 1) ≡ Some x → slice_get ys 0 ≡ Some y → R x y) → AllPairs R (xs ++ ys)
  pairs_joined [] ys a b c = b
  pairs_joined (x ∷ xs) [] a b c = subst (AllPairs R) (sym (append-nil (x ∷ xs))) a
  pairs_joined (x ∷ xs) (y ∷ ys) a b c =
      joined x xs (y ∷ ys) a b (λ z e. before_all z y ys b (c z y (let n : length xs ≡ length (x ∷ xs) - 1 = omega arith in subst (λ (k : ℕ). slice_get (x ∷ xs) k ≡ Some z) n e) refl))
