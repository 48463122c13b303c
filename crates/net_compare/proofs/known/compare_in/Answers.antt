use Rattle.net_view.specs.Borrowed.{world_of}
use Rattle.set_walk.proofs.NetLemmas.{net_kept}
use Rattle.set_walk.proofs.ScopeLemmas.{beyond_kept}
use Rattle.net_compare.proofs.known.compare_in.Goals as goal

pub sections_at-requires : goal.sections_at-requires
sections_at-requires g c =
    let table = c.args.table in
    let next = c.of.new.table in
    let old = c.args.nets.old.now in
    let new = c.args.nets.new.now in
    let kept = c.in_ok-reach.ensures.kept in (
      search,
      (
        search,
        record {
          before = net_kept table next old kept c.requires.old;
          after = net_kept table next new kept c.requires.new;
          one_scope = c.requires.scope;
          reached = c.in_ok-reach.ensures.reach;
          beyond = beyond_kept table next old.scope kept c.requires.old.below (world_of old.world) (world_of new.world) c.requires.beyond;
        },
      ),
    )
