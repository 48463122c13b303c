use Rattle.std.proofs.Common.{sym, ap, map, ◌+◌, arith}
use Rattle.std.proofs.lemmas.Result.{IfOk-weaker}
use Rattle.canon_rows.specs.PlainRows.{plain}
use Rattle.canon_rows.proofs.NodeSteps.{rows_of_row, rows_of_none, rows_of_halves, not_as_wide, All-as_wide}
use Rattle.canon_rows.proofs.table.+rows_of.Goals as goal

pub returns-then-shift-width-clause-rows : goal.returns-then-shift-width-clause-rows
returns-then-shift-width-clause-rows t c rows a s =
    absurd (not_as_wide c.args.nodes.now.keys c.args.width c.args.id c.in-Halves.shift c.in-Halves.low c.in-Halves.high _ rows (sym c.in-Some.ensures.key) c.in-Halves.is c.if-shift-width.true s)

pub returns-in-NoRow-clause-rows : goal.returns-in-NoRow-clause-rows
returns-in-NoRow-clause-rows t c rows a s =
    rows_of_none c.args.nodes.now.keys c.args.width c.args.id _ _ (sym c.in-Some.ensures.key) c.in-NoRow.is (ap (map plain) c.new-in-NoRow.ensures.items) rows s

pub returns-in-OneRow-clause-rows : goal.returns-in-OneRow-clause-rows
returns-in-OneRow-clause-rows t c =
    IfOk-weaker c.alone.result _ _ (λ r h. rows_of_row c.args.nodes.now.keys c.args.width c.args.id _ _ (map plain r.items) (sym c.in-Some.ensures.key) c.in-OneRow.is h) c.alone.ensures.row

pub returns-in_ok-ones-in-Halves-clause-rows : goal.returns-in_ok-ones-in-Halves-clause-rows
returns-in_ok-ones-in-Halves-clause-rows t c =
    IfOk-weaker c.joined.result _ _ (λ r h rows a s. rows_of_halves c.args.nodes.now.keys c.args.width c.args.id c.in-Halves.shift c.in-Halves.low c.in-Halves.high _ (map plain c.in_ok-zeros-in-Halves.zeros.items) (map plain c.in_ok-ones-in-Halves.ones.items) (map plain r.items) (sym c.in-Some.ensures.key) c.in-Halves.is c.in_ok-zeros-in-Halves.ensures.rows c.in_ok-ones-in-Halves.ensures.rows (rw (c.deref.ensures.value, c.deref-in-Halves.ensures.value) at h) rows s) c.joined.ensures.rows

pub returns-in_ok-ones-in-Halves-clause-within : goal.returns-in_ok-ones-in-Halves-clause-within
returns-in_ok-ones-in-Halves-clause-within t c =
    IfOk-weaker c.joined.result _ _ (λ r h. All-as_wide c.args.width (c.in-Halves.shift + 1) r.items (let l = c.if-shift-width.false in omega arith) h) c.joined.ensures.within
