use Rattle.std.proofs.Common.{ap, map, ◌∙◌}
use Rattle.view_core.specs.Tallies.{mention_in, mentions}
use Rattle.view_core.proofs.TallyLemmas.{tallied}
use Rattle.view_core.proofs.tallies.add_tally.Goals as goal

pub returns : goal.returns
returns c =
    let ms = mentions c.args.names.now c.args.version c.args.ingresses.now in
    tallied c.args.version c.args.found.now.items c.in_ok-counts.counts c.deref.result.now c.deref-2.result.now ms c.in_ok-texts.texts c.as_slice.result.now c.add_counted.new.found.items
    c.in_ok-counts.ensures (ap (map mention_in) c.deref.ensures.value ∙ c.in_ok-mentioned.ensures) (ap (map mention_in) c.deref-2.ensures.value ∙ c.in_ok-mentioned.ensures)
    c.in_ok-texts.ensures c.as_slice.ensures c.in_ok-add_counted.ensures
