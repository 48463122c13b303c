use Rattle.std.proofs.Common.{arith}
use Rattle.std.proofs.lemmas.Grind.{common_steps}
use Rattle.std.proofs.lemmas.List.Elements.{filter_map-append}
use Rattle.pair_rows.proofs.label_pairs.LabelPairs.rows_of.Goals as goal

pub loop-piece-preserved : goal.loop-piece-preserved
loop-piece-preserved c = grind (arith, common_steps, filter_map-append)
