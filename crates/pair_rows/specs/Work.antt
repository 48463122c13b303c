-- What a leaf is for the pool.
use Rattle.std.specs.Prelude.{ℕ, ⊤, Option, Some}

-- each header of each slot is to be in a leaf, of which no more is to be seen than that
abbrev pub holds_all : ℕ → ℕ → Option ⊤
holds_all slot h = Some tt
