use Rattle.std.proofs.Common.{◌≡◌, map, take}
use Rattle.std.specs.Prelude.{filter_map}
use Rattle.pair_rows.specs.Pairs.{shown, shown_by}
use Rattle.pair_rows.proofs.label_pairs.LabelPairs.rows_of.Given as goal

abbrev pub invariant-loop-piece : goal.invariant-loop-piece
invariant-loop-piece l = map shown l.rows.items ≡ filter_map (shown_by l.self) (take l.piece-index l.pieces)
