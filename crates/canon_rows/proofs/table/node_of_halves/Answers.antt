use Rattle.std.proofs.Common.{sym}
use Rattle.canon_rows.proofs.NodeSteps.{halves_high, halves_low, halves_cut}
use Rattle.canon_rows.proofs.table.node_of_halves.Goals as goal

pub returns-in-NoRow-OneRow : goal.returns-in-NoRow-OneRow
returns-in-NoRow-OneRow c =
    let w = c.in-NoRow-OneRow in
    halves_high c.args.nodes.now.keys c.args.shift c.args.low c.args.high c.weight-weight.result w.fixed w.bits w.value _ _ (sym c.in-Some.ensures.key) (sym c.in-Some-get_index.ensures.key) w.is-0 w.is-1 c.weight-weight.ensures.value

pub returns-in-OneRow-NoRow : goal.returns-in-OneRow-NoRow
returns-in-OneRow-NoRow c =
    let w = c.in-OneRow-NoRow in
    halves_low c.args.nodes.now.keys c.args.shift c.args.low c.args.high c.weight-weight.result w.fixed w.bits w.value _ _ (sym c.in-Some.ensures.key) (sym c.in-Some-get_index.ensures.key) w.is-0 w.is-1 c.weight-weight.ensures.value

pub returns-in-NoRow-NoRow : goal.returns-in-NoRow-NoRow
returns-in-NoRow-NoRow c =
    let w = c.in-NoRow-NoRow in
    let e = w.is-0 in
    let f = w.is-1 in
    halves_cut c.args.nodes.now.keys c.args.shift c.args.low c.args.high _ _ (sym c.in-Some.ensures.key) (sym c.in-Some-get_index.ensures.key) (λ t. (λ a b. absurd cc, λ a b. absurd cc))

pub returns-in-NoRow-NoRow-2 : goal.returns-in-NoRow-NoRow-2
returns-in-NoRow-NoRow-2 c =
    let w = c.in-NoRow-NoRow in
    let e = w.is-0 in
    let f = w.is-1 in
    halves_cut c.args.nodes.now.keys c.args.shift c.args.low c.args.high _ _ (sym c.in-Some.ensures.key) (sym c.in-Some-get_index.ensures.key) (λ t. (λ a b. absurd cc, λ a b. absurd cc))

pub returns-in-NoRow-NoRow-3 : goal.returns-in-NoRow-NoRow-3
returns-in-NoRow-NoRow-3 c =
    let w = c.in-NoRow-NoRow in
    let e = w.is-0 in
    let f = w.is-1 in
    halves_cut c.args.nodes.now.keys c.args.shift c.args.low c.args.high _ _ (sym c.in-Some.ensures.key) (sym c.in-Some-get_index.ensures.key) (λ t. (λ a b. absurd cc, λ a b. absurd cc))

pub returns-in-NoRow-NoRow-4 : goal.returns-in-NoRow-NoRow-4
returns-in-NoRow-NoRow-4 c =
    let w = c.in-NoRow-NoRow in
    let e = w.is-0 in
    let f = w.is-1 in
    halves_cut c.args.nodes.now.keys c.args.shift c.args.low c.args.high _ _ (sym c.in-Some.ensures.key) (sym c.in-Some-get_index.ensures.key) (λ t. (λ a b. absurd cc, λ a b. absurd cc))

pub returns-in-NoRow-NoRow-5 : goal.returns-in-NoRow-NoRow-5
returns-in-NoRow-NoRow-5 c =
    let e = c.in-NoRow-NoRow.is-0 in
    halves_cut c.args.nodes.now.keys c.args.shift c.args.low c.args.high _ _ (sym c.in-Some.ensures.key) (sym c.in-Some-get_index.ensures.key) (λ t. (λ a b. absurd cc, λ a b. absurd cc))
