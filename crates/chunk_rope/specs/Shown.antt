-- What a contract sees of a rope.
use Rattle.std.specs.Prelude.{ℕ, List}

-- its items in order, and how many more go in without memory
pub record Shown (T : Type 0) : Type 0 where
  pub items : List T
  pub spare : ℕ
