use Rattle.std.proofs.Common.{rules, ap, ◌∙◌, tests}
use Rattle.std.specs.Prelude.{filter}
use Rattle.std.proofs.lemmas.Iterator.Splits.{YieldsList-from_slice_split}
use Rattle.std.proofs.lemmas.Iterator.Consumers.{YieldsList-end, YieldsList-at}
use Rattle.net_text.specs.Lines.{is_separator}
use Rattle.net_text.specs.Texts.{is_word}
use Rattle.topo_links.specs.Names.{add_names}
use Rattle.doctor_warnings.proofs.configs.add_words.Goals as goal

pub returns : goal.returns
returns c =
    let t = YieldsList-end (YieldsList-at c.into_iter-word-iterator.ensures.into_iter_gives (YieldsList-from_slice_split _ is_separator c.args.line.now c.split-word-items.ensures.rest c.split-word-items.ensures.done c.split-word-items.ensures.closure (λ x r q k. search (rules, tests)))) c.loop-word.yielded _ c.loop-word.yielded_by _ _ c.in-None.is c.next.ensures.steps in
    c.loop-word.invariant ∙ ap (λ ps. add_names c.args.names.now (filter is_word ps)) t.0
