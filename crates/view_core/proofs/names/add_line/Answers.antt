use Rattle.std.proofs.Common.{rules, ◌≡◌, [], cond, false, sym, ap, ◌∙◌, tests}
use Rattle.std.specs.Prelude.{filter}
use Rattle.std.proofs.lemmas.Iterator.Splits.{YieldsList-from_slice_split}
use Rattle.std.proofs.lemmas.Iterator.Consumers.{YieldsList-end, YieldsList-at}
use Rattle.net_text.specs.Lines.{is_separator}
use Rattle.net_text.specs.Texts.{is_word, words}
use Rattle.topo_links.specs.Names.{add_names}
use Rattle.view_core.specs.Names.{is_cube}
use Rattle.view_core.proofs.names.add_line.Goals as goal

pub returns : goal.returns
returns c =
    let line = c.args.line.now in
    let t = YieldsList-end (YieldsList-at c.into_iter-word-iterator.ensures.into_iter_gives (YieldsList-from_slice_split _ is_separator line c.split-word-items.ensures.rest c.split-word-items.ensures.done c.split-word-items.ensures.closure (λ x r q k. search (rules, tests)))) c.loop-word.yielded _ c.loop-word.yielded_by _ _ c.in-None.is c.next.ensures.steps in
    let other : is_cube line ≡ false = sym c.starts_with.ensures.value ∙ c.if-starts_with.false in
    c.loop-word.invariant ∙ ap (λ ps. add_names c.args.names.now (filter is_word ps)) t.0 ∙ ap (λ b. add_names c.args.names.now (cond b [] (words line))) (sym other)
