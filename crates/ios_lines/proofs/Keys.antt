-- Where a key stands, by its bytes.
use Rattle.std.proofs.Common.{◌≡◌, ℕ, ◌+◌, suc, Bool, true, false, cond, ◌||◌, not, List, [], ◌∷◌, ◌++◌, length, map, refl, sym, ap, ◌∙◌, arith, position}
use Rattle.std.specs.Prelude.{Option, Some, None, nat_lt, is_some}
use Rattle.std.specs.List.{position_or_len, list_any}
use Rattle.std.specs.Str.{bytes_eq}
use Rattle.std.proofs.lemmas.Bool.{lt-ltb}
use Rattle.ios_lines.specs.Words.{Word}
use Rattle.ios_lines.specs.Lists.{place_of, place_after, put_name, add_name}
use Rattle.ios_lines.proofs.Steps.{map_more}
use Rattle.ios_lines.proofs.Keyed.{later}

module _ {K : Type 0} (f : K → List ℕ) (n : Word) (test : K → Bool) (says : (k : K) → test k ≡ bytes_eq n (f k)) where
  pub place_by : (ks : List K) → place_of n (map f ks) ≡ position test ks
  place_by [] = refl
  place_by (k ∷ ks) = rw (← says k) (ap (place_after (test k)) (place_by ks) ∙ elim (test k) as (λ b. place_after b (position test ks) ≡ cond (nat_lt (cond (not b) (1 + position_or_len test ks) 0) (suc (length ks))) (Some (cond (not b) (1 + position_or_len test ks) 0)) None) [
    | true ↦ rw (lt-ltb 0 (suc (length ks)) (omega arith)) refl
    | false ↦ later (position_or_len test ks) (length ks)
  ])

  some_after : (b : Bool) (o : Option ℕ) → is_some (place_after b o) ≡ (b || is_some o)
  some_after true o = refl
  some_after false None = refl
  some_after false (Some i) = refl

  any_place : (ks : List K) → list_any test ks ≡ is_some (place_of n (map f ks))
  any_place [] = refl
  any_place (k ∷ ks) = rw (says k, any_place ks) (sym (some_after (bytes_eq n (f k)) (place_of n (map f ks))))

  pub added : (ks : List K) (k : K) → f k ≡ n → map f (cond (list_any test ks) ks (ks ++ k ∷ [])) ≡ add_name (map f ks) n
  added ks k e = rw (any_place ks) (elim (place_of n (map f ks)) as (λ o. map f (cond (is_some o) ks (ks ++ k ∷ [])) ≡ put_name o (map f ks) n) [
    | None ↦ map_more f ks k ∙ ap (λ x. map f ks ++ x ∷ []) e
    | Some i ↦ refl
  ])
