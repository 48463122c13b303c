use Rattle.std.proofs.Common.{◌≡◌, map}
use Rattle.std.proofs.lemmas.Result.{IfOk-weaker}
use Rattle.canon_rows.specs.Pieces.{value_of}
use Rattle.canon_rows.specs.PlainRows.{plain}
use Rattle.canon_rows.proofs.CanonicalRows.{are_rows, all_have_values, apart_values}
use Rattle.canon_rows.proofs.NodeSteps.{rows_of_number}
use Rattle.canon_rows.proofs.canon.Goals as goal

pub returns-in_err-to_vec-clause-apart : goal.returns-in_err-to_vec-clause-apart
returns-in_err-to_vec-clause-apart c = apart_values c.args.pieces.now

pub returns-in_err-whole-clause-apart : goal.returns-in_err-whole-clause-apart
returns-in_err-whole-clause-apart c = apart_values c.args.pieces.now

pub returns-clause-apart : goal.returns-clause-apart
returns-clause-apart c = apart_values c.args.pieces.now

pub returns-clause-rows : goal.returns-clause-rows
returns-clause-rows c =
    let f = value_of c.args.pieces.now in
    let e : c.in_ok-to_vec.field-0.items ≡ c.args.pieces.now = c.in_ok-to_vec.ensures.items_if_clones_equal (λ x y e. e) in
    IfOk-weaker c.rows_of.result _ _ (λ r h. are_rows f r.items (rows_of_number c.number_of_pieces.new.nodes.keys c.in_ok-whole.whole f (map plain r.items) h (rw e at c.in_ok-whole.ensures.number))) c.rows_of.ensures.rows

pub returns-clause-values : goal.returns-clause-values
returns-clause-values c =
    let f = value_of c.args.pieces.now in
    let e : c.in_ok-to_vec.field-0.items ≡ c.args.pieces.now = c.in_ok-to_vec.ensures.items_if_clones_equal (λ x y e. e) in
    IfOk-weaker c.rows_of.result _ _ (λ r h. all_have_values f r.items (rows_of_number c.number_of_pieces.new.nodes.keys c.in_ok-whole.whole f (map plain r.items) h (rw e at c.in_ok-whole.ensures.number))) c.rows_of.ensures.rows
