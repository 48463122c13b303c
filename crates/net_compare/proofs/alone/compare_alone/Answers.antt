use Rattle.net_view.specs.Borrowed.{world_of}
use Rattle.set_walk.proofs.NetLemmas.{net_kept}
use Rattle.set_walk.proofs.ScopeLemmas.{beyond_kept}
use Rattle.net_compare.proofs.alone.compare_alone.Goals as goal

pub sections_in-requires : goal.sections_in-requires
sections_in-requires c =
    let table = c.args.table.now in
    let next = c.of.new.table in
    let old = c.args.nets.old.now in
    let new = c.args.nets.new.now in
    let kept = c.in_ok-reach.ensures.kept in
    record {
      before = net_kept table next old kept c.requires.old;
      after = net_kept table next new kept c.requires.new;
      one_scope = c.requires.scope;
      reached = c.in_ok-reach.ensures.reach;
      beyond = beyond_kept table next old.scope kept c.requires.old.below (world_of old.world) (world_of new.world) c.requires.beyond;
    }
