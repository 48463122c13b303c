-- The line at which two texts differ.
use Rattle.std.specs.Prelude.{ℕ, suc, List, [], ◌∷◌, if◌then◌else◌}
use Rattle.std.specs.Str.{bytes_eq}

-- how many lines at the beginning are the same in both
abbrev pub same_lines : List (List ℕ) → List (List ℕ) → ℕ
same_lines [] bs = 0
same_lines (a ∷ xs) [] = 0
same_lines (a ∷ xs) (b ∷ bs) = if bytes_eq a b then suc (same_lines xs bs) else 0
