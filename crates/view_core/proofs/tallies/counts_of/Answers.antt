use Rattle.std.proofs.Common.{List, ℕ, map, take, sym, subst}
use Rattle.view_core.specs.Counts.{AreCounts}
use Rattle.view_core.specs.Tallies.{mention_in}
use Rattle.view_core.proofs.TallyLemmas.{taken_mentions}
use Rattle.view_core.proofs.tallies.counts_of.Goals as goal

pub loop-mention-preserved : goal.loop-mention-preserved
loop-mention-preserved c =
    subst (λ (ms : List (List ℕ × ℕ)). AreCounts ms c.add_mention.new.counts)
    (sym (taken_mentions c.args.mentioned.now c.loop-mention.mention-index c.mention-item.result c.loop-mention-test.true c.mention-item.is))
    (c.in_ok-add_mention.ensures (map mention_in (take c.loop-mention.mention-index c.args.mentioned.now)) c.loop-mention.invariant)
