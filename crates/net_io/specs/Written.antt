-- A sink over a writer.
use Rattle.std.specs.Prelude.{ℕ, List, Option}

-- the bytes that the writer holds, where they are known, and the faults so far
pub record Written : Type 0 where
  pub contents : Option (List ℕ)
  pub faults : ℕ
