use Rattle.nat_static.proofs.compiled.add_stamps.Goals as goal
use Rattle.nat_static.proofs.StampedLemmas.{adds_parts}

pub returns : goal.returns
returns c =
    let d = c.in_ok-divided.ensures in
    adds_parts c.args.direction c.args.rules.now c.args.part.now c.args.outer.now c.in_ok-divided.divided.items c.args.stamps.now.items c.add_with.new.stamps.items c.requires.part c.requires.outer d.inside d.apart d.each d.holder (rw c.deref.ensures.value at c.in_ok-add_with.ensures)
