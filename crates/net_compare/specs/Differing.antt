-- The pairs of labels of headers, by the numbers and classes of their labels.
use Rattle.std.specs.Prelude.{ℕ, Option}
use Rattle.cube_diagram.specs.Functions.{Functions, value_at}
use Rattle.pair_rows.specs.Pairs.{Pair}
use Rattle.net_compare.specs.declared.pairs.Numbered.{Numbered}
use Rattle.net_compare.specs.Classes.{differing_at}

-- the two labels that stand at a header's two numbers, where they differ
abbrev pub differing_by : Functions → Numbered → Numbered → ℕ → Option Pair
differing_by fs old new h = differing_at old.labels.now new.labels.now (record { first = value_at fs old.function h; second = value_at fs new.function h })
