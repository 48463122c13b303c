-- Addresses that stand in two of several lists, list by list.
use Rattle.std.specs.Prelude.{ℕ, Bool, List, [], ◌∷◌, ◌++◌, filter, Option}
use Rattle.std.specs.List.{list_any}
use Rattle.topo_links.specs.Check.{has_value, lesser}

-- a list has the address
abbrev pub is_in : List (List ℕ) → ℕ → Bool
is_in lists a = list_any (has_value a) lists

-- the addresses of each list that a later one has
abbrev pub shared : List (List ℕ) → List ℕ
shared [] = []
shared (list ∷ lists) = filter (is_in lists) list ++ shared lists

-- the least of the addresses and of one more, if there is one
abbrev pub least_onto : List ℕ → Option ℕ → Option ℕ
least_onto [] o = o
least_onto (x ∷ xs) o = lesser x (least_onto xs o)
