-- A sink in memory.
use Rattle.std.specs.Prelude.{ℕ, List, Option}

-- the bytes that it took, how many it takes in all, how many at most in one write, and its faults so far
pub record BoundedSink : Type 0 where
  pub taken : List ℕ
  pub room : ℕ
  pub most : Option ℕ
  pub faults : ℕ
