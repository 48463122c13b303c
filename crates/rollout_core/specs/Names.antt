-- The name of a command.
use Rattle.std.specs.Prelude.{ℕ, Bool, false, List, [], ◌∷◌}
use Rattle.std.specs.Str.{bytes_eq}

-- it is the first word
abbrev pub is_named : List ℕ → List (List ℕ) → Bool
is_named name [] = false
is_named name (word ∷ words) = bytes_eq word name
