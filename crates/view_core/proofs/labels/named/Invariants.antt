use Rattle.std.proofs.Common.{◌≡◌, map, drop}
use Rattle.ios_words.specs.Names.{row_of}
use Rattle.view_core.specs.NumberNames.{name_of}
use Rattle.view_core.proofs.labels.named.Given as goal

abbrev pub invariant-loop-row : goal.invariant-loop-row
invariant-loop-row l = name_of (map row_of (drop l.row-index l.rows)) l.number ≡ name_of (map row_of l.rows) l.number
