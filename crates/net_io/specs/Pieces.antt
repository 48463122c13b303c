-- How much one call hands over.
use Rattle.std.specs.Prelude.{ℕ, Option, Some, None, min}

-- of so many bytes at most the bound, where there is one
abbrev pub at_most : Option ℕ → ℕ → ℕ
at_most None count = count
at_most (Some bound) count = min bound count
