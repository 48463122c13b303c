-- Files by their hostnames.
use Rattle.std.proofs.Common.{◌≡◌, ℕ, Bool, true, false, cond, ◌||◌, List, [], ◌∷◌, map, find, position, refl, ap, ◌∙◌}
use Rattle.std.specs.Prelude.{Option, Some, None, slice_get, option_and_then}
use Rattle.std.specs.List.{list_any}
use Rattle.std.specs.Str.{bytes_eq}
use Rattle.net_types.specs.declared.config.Loaded.{Loaded}
use Rattle.topo_links.specs.Ends.{Word}
use Rattle.topo_links.specs.ByName.{is_named}
use Rattle.topo_links.specs.Check.{host_of}
use Rattle.topo_links.proofs.Keys.{list_any-map}
use Rattle.topo_links.proofs.Finds.{find_place, name_place}

-- the file at the place of its hostname
pub at_place : (hosts : List Word) (loaded : List Loaded) (n : Word) (o : Option ℕ) → hosts ≡ map host_of loaded → o ≡ position (bytes_eq n) hosts
    → option_and_then (slice_get loaded) o ≡ find (is_named host_of n) loaded
at_place hosts loaded n o h e =
    ap (option_and_then (slice_get loaded)) (e ∙ ap (position (bytes_eq n)) h ∙ name_place host_of n loaded) ∙ find_place (is_named host_of n) loaded

none_there : {A : Type 0} (p : A → Bool) (xs : List A) → find p xs ≡ None → list_any p xs ≡ false
none_there p [] h = refl
none_there p (x ∷ xs) h = (elim (p x) as (λ b. cond b (Some x) (find p xs) ≡ None → (b || list_any p xs) ≡ false) [
  | true ↦ λ e. cc
  | false ↦ λ e. none_there p xs e
]) h

-- a hostname that no file has
pub no_host : (loaded : List Loaded) (n : Word) → find (is_named host_of n) loaded ≡ None → list_any (bytes_eq n) (map host_of loaded) ≡ false
no_host loaded n h = list_any-map host_of (bytes_eq n) loaded ∙ none_there (is_named host_of n) loaded h
