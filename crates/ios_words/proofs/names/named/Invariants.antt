use Rattle.std.proofs.Common.{◌≡◌, map, drop}
use Rattle.ios_words.specs.Names.{row_of, value_of}
use Rattle.ios_words.proofs.names.named.Given as goal

abbrev pub invariant-loop-row : goal.invariant-loop-row
invariant-loop-row g l = value_of (map row_of (drop l.row-index l.rows)) l.word ≡ value_of (map row_of l.rows) l.word
