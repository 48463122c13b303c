use Rattle.std.proofs.Common.{subst, sym}
use Rattle.cube_diagram.specs.Functions.{Functions}
use Rattle.net_view.specs.Borrowed.{world_of}
use Rattle.set_walk.specs.Nets.{IsNet}
use Rattle.set_walk.specs.Scopes.{AreAlikeBeyond}
use Rattle.net_compare.proofs.known.compare_known.Goals as goal

pub compare_in-requires-clause-old : goal.compare_in-requires-clause-old
compare_in-requires-clause-old g c κs within = subst (λ (t : Functions). IsNet t c.args.nets.old.now) (sym c.in_ok-copy.ensures) c.requires.old

pub compare_in-requires-clause-new : goal.compare_in-requires-clause-new
compare_in-requires-clause-new g c κs within = subst (λ (t : Functions). IsNet t c.args.nets.new.now) (sym c.in_ok-copy.ensures) c.requires.new

pub compare_in-requires-clause-beyond : goal.compare_in-requires-clause-beyond
compare_in-requires-clause-beyond g c κs within =
    subst (λ (t : Functions). AreAlikeBeyond (world_of c.args.nets.old.now.world) (world_of c.args.nets.new.now.world) t c.args.nets.old.now.scope) (sym c.in_ok-copy.ensures) c.requires.beyond
