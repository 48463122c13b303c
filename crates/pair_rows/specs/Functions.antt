-- Functions from headers to pairs of labels, as diagrams.
use Rattle.std.specs.Prelude.{ℕ, ◌<◌, ◌^◌, Option}
use Rattle.cube_diagram.specs.Functions.{value_at}
use Rattle.pair_rows.specs.declared.function.PairFunction.{PairFunction}
use Rattle.pair_rows.specs.Pairs.{Pair, IsNumberOf}

-- the function gives each header the number of the pair that g gives it
pub record IsFunctionOf (g : ℕ → Option Pair) (f : PairFunction) : Type 0 where
  pub each : (h : ℕ) → h < 2 ^ 112 → IsNumberOf f.pairs (value_at f.table f.function h) (g h)
