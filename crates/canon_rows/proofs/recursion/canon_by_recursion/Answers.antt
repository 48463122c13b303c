use Rattle.std.proofs.lemmas.Result.{IfOk-weaker}
use Rattle.canon_rows.specs.Pieces.{value_of}
use Rattle.canon_rows.proofs.CanonicalRows.{are_rows, all_have_values}
use Rattle.canon_rows.proofs.recursion.canon_by_recursion.Goals as goal

pub returns-clause-rows : goal.returns-clause-rows
returns-clause-rows c =
    IfOk-weaker c.rows.result _ _ (λ r h. are_rows (value_of c.args.pieces.now) r.items h) c.rows.ensures.rows

pub returns-clause-values : goal.returns-clause-values
returns-clause-values c =
    IfOk-weaker c.rows.result _ _ (λ r h. all_have_values (value_of c.args.pieces.now) r.items h) c.rows.ensures.rows
