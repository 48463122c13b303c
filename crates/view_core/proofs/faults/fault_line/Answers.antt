use Rattle.std.proofs.Common.{rules, arith, tests}
use Rattle.std.proofs.lemmas.Iterator.Splits.{YieldsList-from_slice_split}
use Rattle.std.proofs.lemmas.Iterator.Consumers.{YieldsList-turn, YieldsList-end, YieldsList-at}
use Rattle.net_text.specs.Lines.{is_line_end}
use Rattle.view_core.proofs.faults.fault_line.Goals as goal

pub returns-then-not-branch-clause-high : goal.returns-then-not-branch-clause-high
returns-then-not-branch-clause-high c =
    let t = YieldsList-turn (YieldsList-at c.into_iter-line-iterator.ensures.into_iter_gives (YieldsList-from_slice_split _ is_line_end c.args.bytes.now c.split-line-items.ensures.rest c.split-line-items.ensures.done c.split-line-items.ensures.closure (λ x r q k. search (rules, tests)))) c.loop-line.yielded _ c.loop-line.yielded_by _ _ c.in-Some.line c.in-Some.is c.next.ensures.steps in
    let counted = c.saturating_add-number.ensures in
    let high = c.loop-line.invariant.high in
    omega (arith, counted, high, t.0)

pub returns-clause-high : goal.returns-clause-high
returns-clause-high c =
    let t = YieldsList-end (YieldsList-at c.into_iter-line-iterator.ensures.into_iter_gives (YieldsList-from_slice_split _ is_line_end c.args.bytes.now c.split-line-items.ensures.rest c.split-line-items.ensures.done c.split-line-items.ensures.closure (λ x r q k. search (rules, tests)))) c.loop-line.yielded _ c.loop-line.yielded_by _ _ c.in-None.is c.next.ensures.steps in
    let high = c.loop-line.invariant.high in
    omega (arith, high, t.1)
