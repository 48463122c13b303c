use Rattle.indexmap.specs.IndexMap.{get}
use Rattle.net_types.specs.World.{same_place}
use Rattle.net_view.specs.Borrowed.{world_of}
use Rattle.live_network.proofs.LiveLemmas.{ways_before}
use Rattle.rollout.proofs.touched.touched.Goals as goal

pub touched_between-requires-clause-before : goal.touched_between-requires-clause-before
touched_between-requires-clause-before c =
    let o = c.in_ok-before.ensures in
    ways_before (world_of c.args.step.networks.old) c.args.live.now c.replaced.new.live (get same_place c.in_ok-before.before) o.renewed o.before c.requires.live
