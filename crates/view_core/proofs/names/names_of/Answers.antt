use Rattle.std.proofs.Common.{rules, sym, subst, ◌∙◌, map, tests}
use Rattle.std.proofs.lemmas.Iterator.Splits.{YieldsList-from_slice_split}
use Rattle.std.proofs.lemmas.Iterator.Consumers.{YieldsList-end, YieldsList-at}
use Rattle.net_text.specs.Lines.{is_line_end}
use Rattle.report_text.specs.Reports.{AreNames}
use Rattle.view_core.proofs.OwnNames.{own_names, names_sorted}
use Rattle.view_core.proofs.names.names_of.Goals as goal

pub returns-clause-exact : goal.returns-clause-exact
returns-clause-exact c =
    let t = YieldsList-end (YieldsList-at c.into_iter-line-iterator.ensures.into_iter_gives (YieldsList-from_slice_split _ is_line_end c.args.bytes.now c.split-line-items.ensures.rest c.split-line-items.ensures.done c.split-line-items.ensures.closure (λ x r q k. search (rules, tests)))) c.loop-line.yielded _ c.loop-line.yielded_by _ _ c.in-None.is c.next.ensures.steps in
    c.in_ok-copies.ensures ∙ c.in_ok-sort.ensures.ok ∙ names_sorted c.args.bytes.now (map (λ line. line.now) c.loop-line.yielded) c.loop-line.names t.0 c.loop-line.invariant

pub returns-clause-names : goal.returns-clause-names
returns-clause-names c = subst AreNames (sym (returns-clause-exact c)) (own_names c.args.bytes.now)
