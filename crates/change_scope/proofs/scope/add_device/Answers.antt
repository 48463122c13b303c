use Rattle.std.proofs.Common.{refl, subst, sym}
use Rattle.net_view.specs.Borrowed.{world_of}
use Rattle.change_scope.specs.Devices.{AreAlikeAt}
use Rattle.change_scope.proofs.ScopeLemmas.{alike_in_everything, alike_like}
use Rattle.change_scope.proofs.scope.add_device.Goals as goal

pub returns-then-set-everything-clause-alike : goal.returns-then-set-everything-clause-alike
returns-then-set-everything-clause-alike c =
    subst (λ r. AreAlikeAt (world_of c.args.pair.old.now.world) (world_of c.args.pair.new.now.world) c.args.table.now r c.args.name) (sym c.if-set-everything.true) (alike_in_everything (world_of c.args.pair.old.now.world) (world_of c.args.pair.new.now.world) c.args.table.now c.everything.result c.args.name c.everything.ensures.exact)

pub returns-then-has_name-clause-alike : goal.returns-then-has_name-clause-alike
returns-then-has_name-clause-alike c =
    alike_like (world_of c.args.pair.old.now.world) (world_of c.args.pair.new.now.world) c.args.table.now c.args.set c.args.name c.args.pair.like.now.keys c.requires.pair.like (c.if-has_name.ensures refl)
