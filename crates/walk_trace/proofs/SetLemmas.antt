-- Lists with the same items.
use Rattle.std.proofs.Common.{◌≡◌, inl, inr, List, [], ◌∷◌, ◌++◌, Option, map, refl, sym, ap, subst, ◌∙◌}
use Rattle.std.specs.Prelude.{filter_map, flat_map, Contains}
use Rattle.std.proofs.lemmas.List.{map-append}
use Rattle.std.proofs.lemmas.List.Elements.{Contains-append_cases, Contains-append_left, Contains-append_right}
use Rattle.net_types.proofs.Members.{here, in_none, in_map, to_map, in_flat_map, to_flat_map, in_filter_map, to_filter_map}
use Rattle.walk_trace.specs.Outcomes.{SameSet}

pub same_refl : {A : Type 0} (xs : List A) → SameSet xs xs
same_refl xs x = (λ h. h, λ h. h)

pub same_sym : {A : Type 0} (xs ys : List A) → SameSet xs ys → SameSet ys xs
same_sym xs ys h x = ((h x).1, (h x).0)

pub same_trans : {A : Type 0} (xs ys zs : List A) → SameSet xs ys → SameSet ys zs → SameSet xs zs
same_trans xs ys zs h g x = (λ c. (g x).0 ((h x).0 c), λ c. (h x).1 ((g x).1 c))

pub same_append : {A : Type 0} (xs ys us vs : List A) → SameSet xs us → SameSet ys vs → SameSet (xs ++ ys) (us ++ vs)
same_append {A} xs ys us vs h g x = (one xs ys us vs h g, one us vs xs ys (same_sym xs us h) (same_sym ys vs g))
  where
    one : (xs ys us vs : List A) → SameSet xs us → SameSet ys vs → Contains (xs ++ ys) x → Contains (us ++ vs) x
    one xs ys us vs h g c = elim (Contains-append_cases xs ys x c) [
      | inl e ↦ Contains-append_left us vs x ((h x).0 e)
      | inr e ↦ Contains-append_right us vs x ((g x).0 e)
    ]

module _ {A B : Type 0} where
  pub same_map : (f : A → B) (xs ys : List A) → SameSet xs ys → SameSet (map f xs) (map f ys)
  same_map f xs ys h y = (one xs ys h, one ys xs (same_sym xs ys h))
    where
      one : (xs ys : List A) → SameSet xs ys → Contains (map f xs) y → Contains (map f ys) y
      one xs ys h c = let i = in_map f xs y c in subst (Contains (map f ys)) i.2 (to_map f ys i.0 ((h i.0).0 i.1))

  pub same_filter_map : (f : A → Option B) (xs ys : List A) → SameSet xs ys → SameSet (filter_map f xs) (filter_map f ys)
  same_filter_map f xs ys h y = (one xs ys h, one ys xs (same_sym xs ys h))
    where
      one : (xs ys : List A) → SameSet xs ys → Contains (filter_map f xs) y → Contains (filter_map f ys) y
      one xs ys h c = let i = in_filter_map f xs y c in to_filter_map f ys y i.0 ((h i.0).0 i.1) i.2

  pub same_flat_map : (f g : A → List B) (xs ys : List A) → SameSet xs ys → ((x : A) → SameSet (f x) (g x)) → SameSet (flat_map f xs) (flat_map g ys)
  same_flat_map f g xs ys h k y = (one f g xs ys h k, one g f ys xs (same_sym xs ys h) (λ x. same_sym (f x) (g x) (k x)))
    where
      one : (f g : A → List B) (xs ys : List A) → SameSet xs ys → ((x : A) → SameSet (f x) (g x)) → Contains (flat_map f xs) y → Contains (flat_map g ys) y
      one f g xs ys h k c = let i = in_flat_map f xs y c in to_flat_map g ys y i.0 ((h i.0).0 i.1) ((k i.0 y).0 i.2)

module _ {A B C : Type 0} where
  pub map_flat : (f : B → C) (g : A → List B) (xs : List A) → flat_map (λ x. map f (g x)) xs ≡ map f (flat_map g xs)
  map_flat f g [] = refl
  map_flat f g (x ∷ xs) = ap (λ l. map f (g x) ++ l) (map_flat f g xs) ∙ sym (map-append f (g x) (flat_map g xs))

-- a list with the items of one that isn't empty isn't empty
pub same_some : {A : Type 0} (xs ys : List A) → SameSet xs ys → (ys ≡ [] → ⊥) → xs ≡ [] → ⊥
same_some xs [] h some e = some refl
same_some xs (y ∷ ys) h some e = in_none y (subst (λ l. Contains l y) e ((h y).1 (here y ys)))
