-- Ends and names as the keys of a set.
use Rattle.std.proofs.Common.{◌≡◌, ◌+◌, Bool, true, false, not, cond, List, [], ◌∷◌, ◌++◌, map, position, refl, sym, ap, ◌∙◌}
use Rattle.std.specs.Prelude.{◌||◌}
use Rattle.std.specs.List.{list_any, position_or_len}
use Rattle.std.specs.Str.{bytes_eq}
use Rattle.std.proofs.lemmas.List.{map-append, length-map}
use Rattle.topo_links.specs.Ends.{Word, End, is_same_end, is_taken}
use Rattle.topo_links.specs.Names.{add_name}

-- a test of what the keys stand for
module _ {K X : Type 0} (f : K → X) (p : X → Bool) where
  pub list_any-map : (ks : List K) → list_any p (map f ks) ≡ list_any (λ k. p (f k)) ks
  list_any-map [] = refl
  list_any-map (k ∷ ks) = ap (λ b. p (f k) || b) (list_any-map ks)

  position_or_len-map : (ks : List K) → position_or_len p (map f ks) ≡ position_or_len (λ k. p (f k)) ks
  position_or_len-map [] = refl
  position_or_len-map (k ∷ ks) = ap (λ n. cond (not (p (f k))) (1 + n) 0) (position_or_len-map ks)

  pub position-map : (ks : List K) → position p (map f ks) ≡ position (λ k. p (f k)) ks
  position-map ks = rw (position_or_len-map ks, length-map ks f) refl

-- a test of the keys that compares their ends with e finds e exactly where it is taken
pub any_end : {K : Type 0} (f : K → End) (e : End) (test : K → Bool) → ((k : K) → test k ≡ is_same_end e (f k)) → (ks : List K) → list_any test ks ≡ is_taken e (map f ks)
any_end f e test says ks = ap (λ t. list_any t ks) (λ i k. says k i) ∙ sym (list_any-map f (is_same_end e) ks)

-- a test of the keys that compares their names with n
module _ {K : Type 0} (f : K → Word) (n : Word) (test : K → Bool) (says : (k : K) → test k ≡ bytes_eq n (f k)) where
  pub any_name : (ks : List K) → list_any test ks ≡ list_any (bytes_eq n) (map f ks)
  any_name ks = ap (λ t. list_any t ks) (λ i k. says k i) ∙ sym (list_any-map f (bytes_eq n) ks)

  pub place_name : (ks : List K) → position test ks ≡ position (bytes_eq n) (map f ks)
  place_name ks = ap (λ t. position t ks) (λ i k. says k i) ∙ sym (position-map f (bytes_eq n) ks)

  pub added : (ks : List K) (k : K) → f k ≡ n → map f (cond (list_any test ks) ks (ks ++ k ∷ [])) ≡ add_name (map f ks) n
  added ks k e = rw (any_name ks) (elim (list_any (bytes_eq n) (map f ks)) as (λ b. map f (cond b ks (ks ++ k ∷ [])) ≡ cond b (map f ks) (map f ks ++ n ∷ [])) [
    | true ↦ refl
    | false ↦ map-append f ks (k ∷ []) ∙ ap (λ x. map f ks ++ x ∷ []) e
  ])
