use Rattle.std.proofs.Common.{ap, ◌∙◌}
use Rattle.view_core.specs.Counts.{kept_count}
use Rattle.view_core.specs.Tallies.{mention_in, raised}
use Rattle.view_core.proofs.TallyLemmas.{counted_one}
use Rattle.view_core.proofs.tallies.add_mention.Goals as goal

pub returns : goal.returns
returns c = λ ms are.
    let m = c.args.mention.now in
    let named = c.in_ok-to_vec.ensures.items_if_clones_equal (λ a b e. e) ∙ c.as_bytes-text.ensures in
    let raise = c.raised-count.ensures ∙ ap (λ k. raised k m.rows) (c.get.ensures ∙ ap (kept_count c.args.counts.now) c.as_bytes-text.ensures) in
    counted_one ms c.args.counts.now (record { counts = c.insert.new.self }) c.in_ok-to_vec.field-0 (mention_in m) c.raised-count.result named raise c.in_ok-insert.ensures.entries are
