-- Sets under the words on lists.
use Rattle.std.proofs.Common.{◌≡◌, inl, inr, List, [], ◌∷◌, ◌++◌, Option, map, refl, sym, ap, subst, ◌∙◌}
use Rattle.std.specs.Prelude.{filter_map, flat_map, Contains}
use Rattle.std.specs.List.{AllByRecursion}
use Rattle.std.proofs.lemmas.List.Elements.{Contains-append_cases, Contains-append_left, Contains-append_right}
use Rattle.net_types.proofs.Members.{here, there, in_cons, in_none, in_map, to_map, in_flat_map, to_flat_map, in_filter_map, to_filter_map}
use Rattle.transfer_rel.specs.CubeMoves.{SameSet}

pub same_refl : {A : Type 0} (xs : List A) → SameSet xs xs
same_refl xs x = (λ h. h, λ h. h)

pub same_sym : {A : Type 0} (xs ys : List A) → SameSet xs ys → SameSet ys xs
same_sym xs ys h x = ((h x).1, (h x).0)

pub same_trans : {A : Type 0} (xs ys zs : List A) → SameSet xs ys → SameSet ys zs → SameSet xs zs
same_trans xs ys zs h g x = (λ c. (g x).0 ((h x).0 c), λ c. (h x).1 ((g x).1 c))

pub same_if : {A : Type 0} (xs ys : List A) → xs ≡ ys → SameSet xs ys
same_if xs ys e = subst (SameSet xs) e (same_refl xs)

pub same_append : {A : Type 0} (xs ys us vs : List A) → SameSet xs us → SameSet ys vs → SameSet (xs ++ ys) (us ++ vs)
same_append {A} xs ys us vs h g x = (one xs ys us vs h g, one us vs xs ys (same_sym xs us h) (same_sym ys vs g))
  where
    one : (xs ys us vs : List A) → SameSet xs us → SameSet ys vs → Contains (xs ++ ys) x → Contains (us ++ vs) x
    one xs ys us vs h g c = elim (Contains-append_cases xs ys x c) [
      | inl e ↦ Contains-append_left us vs x ((h x).0 e)
      | inr e ↦ Contains-append_right us vs x ((g x).0 e)
    ]

module _ {A B : Type 0} where
  pub same_map : (f : A → B) (xs ys : List A) → SameSet xs ys → SameSet (map f xs) (map f ys)
  same_map f xs ys h y = (one xs ys h, one ys xs (same_sym xs ys h))
    where
      one : (xs ys : List A) → SameSet xs ys → Contains (map f xs) y → Contains (map f ys) y
      one xs ys h c = let i = in_map f xs y c in subst (Contains (map f ys)) i.2 (to_map f ys i.0 ((h i.0).0 i.1))

  pub same_filter_map : (f : A → Option B) (xs ys : List A) → SameSet xs ys → SameSet (filter_map f xs) (filter_map f ys)
  same_filter_map f xs ys h y = (one xs ys h, one ys xs (same_sym xs ys h))
    where
      one : (xs ys : List A) → SameSet xs ys → Contains (filter_map f xs) y → Contains (filter_map f ys) y
      one xs ys h c = let i = in_filter_map f xs y c in to_filter_map f ys y i.0 ((h i.0).0 i.1) i.2

  pub same_flat : (f : A → List B) (xs ys : List A) → SameSet xs ys → SameSet (flat_map f xs) (flat_map f ys)
  same_flat f xs ys h y = (one xs ys h, one ys xs (same_sym xs ys h))
    where
      one : (xs ys : List A) → SameSet xs ys → Contains (flat_map f xs) y → Contains (flat_map f ys) y
      one xs ys h c = let i = in_flat_map f xs y c in to_flat_map f ys y i.0 ((h i.0).0 i.1) i.2

-- one list of lists through items, the other through what stands for them
module _ {A B C : Type 0} where
  flat_into : (f : A → List C) (g : B → List C) (of : B → A) (xs : List A) (ys : List B) → ((x : A) → Contains xs x → Contains (map of ys) x) → ((y : B) → Contains ys y → (z : C) → Contains (f (of y)) z → Contains (g y) z) → (z : C) → Contains (flat_map f xs) z → Contains (flat_map g ys) z
  flat_into f g of xs ys h k z c =
      let i = in_flat_map f xs z c in
      let j = in_map of ys i.0 (h i.0 i.1) in
      to_flat_map g ys z j.0 j.1 (k j.0 j.1 z (subst (λ x. Contains (f x) z) (sym j.2) i.2))

  flat_from : (f : A → List C) (g : B → List C) (of : B → A) (xs : List A) (ys : List B) → ((x : A) → Contains (map of ys) x → Contains xs x) → ((y : B) → Contains ys y → (z : C) → Contains (g y) z → Contains (f (of y)) z) → (z : C) → Contains (flat_map g ys) z → Contains (flat_map f xs) z
  flat_from f g of xs ys h k z c =
      let i = in_flat_map g ys z c in
      to_flat_map f xs z (of i.0) (h (of i.0) (to_map of ys i.0 i.1)) (k i.0 i.1 z i.2)

  pub same_flat_map : (f : A → List C) (g : B → List C) (of : B → A) (xs : List A) (ys : List B) → SameSet xs (map of ys) → ((y : B) → Contains ys y → SameSet (f (of y)) (g y)) → SameSet (flat_map f xs) (flat_map g ys)
  same_flat_map f g of xs ys h k z = (
    flat_into f g of xs ys (λ x. (h x).0) (λ y c u. (k y c u).0) z,
    flat_from f g of xs ys (λ x. (h x).1) (λ y c u. (k y c u).1) z,
  )

-- ---- equations of lists

module _ {B C : Type 0} where
  pub map_joined : (f : B → C) (xs ys : List B) → map f (xs ++ ys) ≡ map f xs ++ map f ys
  map_joined f [] ys = refl
  map_joined f (x ∷ xs) ys = ap (λ l. f x ∷ l) (map_joined f xs ys)

module _ {A B C : Type 0} where
  pub map_twice : (f : B → C) (g : A → B) (xs : List A) → map f (map g xs) ≡ map (λ x. f (g x)) xs
  map_twice f g [] = refl
  map_twice f g (x ∷ xs) = ap (λ l. f (g x) ∷ l) (map_twice f g xs)

  pub map_flat : (f : B → C) (g : A → List B) (xs : List A) → flat_map (λ x. map f (g x)) xs ≡ map f (flat_map g xs)
  map_flat f g [] = refl
  map_flat f g (x ∷ xs) = ap (λ l. map f (g x) ++ l) (map_flat f g xs) ∙ sym (map_joined f (g x) (flat_map g xs))

-- ---- what holds of each item

module _ {A : Type 0} (P : A → Type 0) where
  pub all_at : (xs : List A) (x : A) → AllByRecursion P xs → Contains xs x → P x
  all_at [] x a h = absurd (in_none x h)
  all_at (y ∷ ys) x a h = elim (in_cons y x ys h) [
    | inl e ↦ subst P e a.0
    | inr c ↦ all_at ys x a.1 c
  ]

  pub all_from : (xs : List A) → ((x : A) → Contains xs x → P x) → AllByRecursion P xs
  all_from [] f = tt
  all_from (x ∷ xs) f = (f x (here x xs), all_from xs (λ y c. f y (there x y xs c)))

  pub all_push : (xs : List A) (x : A) → AllByRecursion P xs → P x → AllByRecursion P (xs ++ (x ∷ []))
  all_push [] x a p = (p, tt)
  all_push (y ∷ ys) x a p = (a.0, all_push ys x a.1 p)

module _ {A : Type 0} (P Q : A → Type 0) where
  pub all_weaker : (xs : List A) → ((x : A) → P x → Q x) → AllByRecursion P xs → AllByRecursion Q xs
  all_weaker [] f a = tt
  all_weaker (x ∷ xs) f a = (f x a.0, all_weaker xs f a.1)
