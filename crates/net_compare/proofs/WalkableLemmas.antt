-- What two networks need for their walks stays in a table that grows.
use Rattle.cube_diagram.specs.Functions.{Functions, Keeps}
use Rattle.difference_reach.proofs.ReachLemmas.{reach_kept}
use Rattle.net_view.specs.Borrowed.{world_of}
use Rattle.set_walk.proofs.NetLemmas.{net_kept}
use Rattle.set_walk.proofs.ScopeLemmas.{beyond_kept}
use Rattle.net_compare.specs.declared.compared.Compared.{Compared}
use Rattle.net_compare.specs.Walkable.{AreWalkable}

pub walkable_kept : (f g : Functions) (c : Compared) → Keeps f g → AreWalkable f c → AreWalkable g c
walkable_kept f g c k w =
    let old = c.old.now in
    let new = c.new.now in
    record {
      before = net_kept f g old k w.before;
      after = net_kept f g new k w.after;
      one_scope = w.one_scope;
      reached = reach_kept (world_of old.world) (world_of new.world) f g old.scope c.reach.now k w.reached;
      beyond = beyond_kept f g old.scope k w.before.below (world_of old.world) (world_of new.world) w.beyond;
    }
