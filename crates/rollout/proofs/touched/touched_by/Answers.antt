use Rattle.net_view.specs.Borrowed.{world_of}
use Rattle.set_walk.proofs.SetLemmas.{kept_set}
use Rattle.rollout.proofs.ChangeLemmas.{none_beyond}
use Rattle.rollout.proofs.touched.touched_by.Goals as goal

pub returns-clause-touched : goal.returns-clause-touched
returns-clause-touched c =
    let f = c.args.table.now in
    let g = c.of.new.table in
    let old = world_of c.args.old.now.world in
    let new = world_of c.args.new.now.world in
    let scope = c.args.old.now.scope in
    let r = c.in_ok-reach.ensures in
    c.in_ok-touched.ensures.touched old new scope (r.reach, none_beyond old new g scope (λ h. (kept_set f g scope h r.kept c.requires.old.below).1 (c.requires.all h)))
