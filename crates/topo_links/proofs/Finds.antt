-- The first of several things that has a name.
use Rattle.std.proofs.Common.{◌≡◌, ℕ, ◌+◌, ◌<◌, ◌≤◌, suc, Bool, true, false, not, cond, ◌||◌, List, [], ◌∷◌, ◌++◌, length, map, take, get_or, find, position, refl, sym, ap, ◌∙◌, arith}
use Rattle.std.specs.Prelude.{Option, Some, None, nat_lt, slice_get, option_and_then, option_map}
use Rattle.std.specs.Option.{option_or}
use Rattle.std.specs.List.{list_any, position_or_len}
use Rattle.std.specs.Str.{bytes_eq}
use Rattle.std.proofs.lemmas.Option.{slice_get-map}
use Rattle.std.proofs.lemmas.Bool.{lt-ltb, le-ltb, ltb-true, ltb-false}
use Rattle.std.proofs.lemmas.List.{map-append, take_more}
use Rattle.std.proofs.lemmas.List.Folds.{find-append}
use Rattle.topo_links.specs.declared.by_name.ByName.{ByName}
use Rattle.topo_links.specs.Ends.{Word}
use Rattle.topo_links.specs.Names.{add_name}
use Rattle.topo_links.specs.ByName.{is_named, firsts_of, IsByName}
use Rattle.topo_links.proofs.Keys.{list_any-map, position-map}
use Rattle.topo_links.proofs.NameOrder.{same_if_eq}

later : (e l : ℕ) → cond (nat_lt (1 + e) (suc l)) (Some (1 + e)) None ≡ option_map suc (cond (nat_lt e l) (Some e) None)
later e l = (elim (nat_lt e l) as (λ b. nat_lt e l ≡ b → cond (nat_lt (1 + e) (suc l)) (Some (1 + e)) None ≡ option_map suc (cond b (Some e) None)) [
  | true ↦ λ h. (let small : 1 + e < suc l = omega (arith, ltb-true e l h) in let one : 1 + e ≡ suc e = omega arith in rw (lt-ltb (1 + e) (suc l) small) (ap Some one))
  | false ↦ λ h. (let great : suc l ≤ 1 + e = omega (arith, ltb-false e l h) in rw (le-ltb (1 + e) (suc l) great) refl)
]) refl

module _ {T : Type 0} where
  -- a test that passes somewhere finds something before anything else
  find_there : (p : T → Bool) (xs : List T) (o : Option T) → list_any p xs ≡ true → option_or (find p xs) o ≡ find p xs
  find_there p [] o h = cc
  find_there p (x ∷ xs) o h = (elim (p x) as (λ b. (b || list_any p xs) ≡ true → option_or (cond b (Some x) (find p xs)) o ≡ cond b (Some x) (find p xs)) [
    | true ↦ λ _. refl
    | false ↦ λ g. find_there p xs o g
  ]) h

  position-cons : (p : T → Bool) (x : T) (xs : List T) → position p (x ∷ xs) ≡ cond (p x) (Some 0) (option_map suc (position p xs))
  position-cons p x xs =
      elim (p x) as (λ b. cond (nat_lt (cond (not b) (1 + position_or_len p xs) 0) (suc (length xs))) (Some (cond (not b) (1 + position_or_len p xs) 0)) None ≡ cond b (Some 0) (option_map suc (position p xs))) [
        | true ↦ rw (lt-ltb 0 (suc (length xs)) (omega arith)) refl
        | false ↦ later (position_or_len p xs) (length xs)
      ]

  -- what is found stands at the first place where the test passes
  pub find_place : (p : T → Bool) (xs : List T) → option_and_then (slice_get xs) (position p xs) ≡ find p xs
  find_place p [] = refl
  find_place p (x ∷ xs) =
      ap (option_and_then (slice_get (x ∷ xs))) (position-cons p x xs)
      ∙ elim (p x) as (λ b. option_and_then (slice_get (x ∷ xs)) (cond b (Some 0) (option_map suc (position p xs))) ≡ cond b (Some x) (find p xs)) [
        | true ↦ refl
        | false ↦ next (position p xs) ∙ find_place p xs
      ]
    where
      next : (o : Option ℕ) → option_and_then (slice_get (x ∷ xs)) (option_map suc o) ≡ option_and_then (slice_get xs) o
      next None = refl
      next (Some i) = refl

module _ {T : Type 0} (name_of : T → Word) where
  -- a thing whose name is new is a first
  pub first_more : (firsts so_far : List T) (x : T) → ((n : Word) → find (is_named name_of n) firsts ≡ find (is_named name_of n) so_far)
      → (n : Word) → find (is_named name_of n) (firsts ++ x ∷ []) ≡ find (is_named name_of n) (so_far ++ x ∷ [])
  first_more firsts so_far x h n =
      find-append (is_named name_of n) firsts (x ∷ [])
      ∙ ap (λ o. option_or o (find (is_named name_of n) (x ∷ []))) (h n)
      ∙ sym (find-append (is_named name_of n) so_far (x ∷ []))

  -- a thing whose name is there already is none
  pub first_same : (firsts so_far : List T) (x : T) → ((n : Word) → find (is_named name_of n) firsts ≡ find (is_named name_of n) so_far)
      → list_any (bytes_eq (name_of x)) (map name_of firsts) ≡ true
      → (n : Word) → find (is_named name_of n) firsts ≡ find (is_named name_of n) (so_far ++ x ∷ [])
  first_same firsts so_far x h there n =
      there' (bytes_eq n (name_of x)) refl
      ∙ ap (λ o. option_or o (find (is_named name_of n) (x ∷ []))) (h n)
      ∙ sym (find-append (is_named name_of n) so_far (x ∷ []))
    where
      there' : (b : Bool) → bytes_eq n (name_of x) ≡ b → find (is_named name_of n) firsts ≡ option_or (find (is_named name_of n) firsts) (find (is_named name_of n) (x ∷ []))
      there' true e =
          let same : n ≡ name_of x = same_if_eq n (name_of x) e in
          let any : list_any (is_named name_of n) firsts ≡ true = sym (list_any-map name_of (bytes_eq n) firsts) ∙ ap (λ m. list_any (bytes_eq m) (map name_of firsts)) same ∙ there in
          sym (find_there (is_named name_of n) firsts (find (is_named name_of n) (x ∷ [])) any)
      there' false e = rw e (none (find (is_named name_of n) firsts))
        where
          none : (o : Option T) → o ≡ option_or o None
          none None = refl
          none (Some y) = refl

  pub name_place : (n : Word) (xs : List T) → position (bytes_eq n) (map name_of xs) ≡ position (is_named name_of n) xs
  name_place n xs = position-map name_of (bytes_eq n) xs

  -- the first at a name's place is the first that has it
  pub firsts_with : (b : ByName T) → IsByName name_of b → (n : Word) (o : Option ℕ) → o ≡ position (is_named name_of n) (firsts_of b) → option_and_then (slice_get (firsts_of b)) o ≡ find (is_named name_of n) b.items.now
  firsts_with b h n o e = ap (option_and_then (slice_get (firsts_of b))) e ∙ find_place (is_named name_of n) (firsts_of b) ∙ h.finds n

  -- the names of the firsts with a name that is new
  pub new_name : (ns ms : List Word) (n : Word) (firsts : List T) (x : T) → ms ≡ add_name ns n → list_any (bytes_eq n) ns ≡ false → ns ≡ map name_of firsts → n ≡ name_of x → ms ≡ map name_of (firsts ++ x ∷ [])
  new_name ns ms n firsts x m absent names name =
      m ∙ ap (λ b. cond b ns (ns ++ n ∷ [])) absent ∙ ap (λ l. l ++ n ∷ []) names ∙ ap (λ l. map name_of firsts ++ l ∷ []) name ∙ sym (map-append name_of firsts (x ∷ []))

-- what is found in a part of a list's item
pub found_in : {A B C : Type 0} (part : A → B) (f : B → Option C) (xs : List A) (i : ℕ) → option_and_then f (slice_get (map part xs) i) ≡ option_and_then (λ x. f (part x)) (slice_get xs i)
found_in part f xs i = ap (option_and_then f) (slice_get-map part xs i) ∙ elim (slice_get xs i) as (λ o. option_and_then f (option_map part o) ≡ option_and_then (λ x. f (part x)) o) [ None ↦ refl | Some x ↦ refl ]

-- one more item of a list that is seen through f
pub map_step : {A B : Type 0} (f : A → B) (xs : List A) (i : ℕ) (x : A) (ys : List B) (y : B) → i < length xs → x ≡ get_or xs i x → ys ≡ map f (take i xs) → y ≡ f x → ys ++ y ∷ [] ≡ map f (take (i + 1) xs)
map_step f xs i x ys y h e k g =
    ap (λ l. l ++ y ∷ []) k ∙ ap (λ z. map f (take i xs) ++ z ∷ []) g ∙ sym (ap (map f) (take_more xs i x h ∙ ap (λ z. take i xs ++ z ∷ []) (sym e)) ∙ map-append f (take i xs) (x ∷ []))

pub map_map : {A B C : Type 0} (f : A → B) (g : B → C) (xs : List A) → map (λ x. g (f x)) xs ≡ map g (map f xs)
map_map f g [] = refl
map_map f g (x ∷ xs) = ap (λ ys. g (f x) ∷ ys) (map_map f g xs)
