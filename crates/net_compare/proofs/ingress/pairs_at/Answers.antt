use Rattle.std.proofs.Common.{subst}
use Rattle.net_view.specs.Borrowed.{world_of}
use Rattle.set_walk.specs.Sets.{IsWithin}
use Rattle.set_walk.proofs.NetLemmas.{net_kept}
use Rattle.net_compare.proofs.ingress.pairs_at.Goals as goal

pub headers_at-requires : goal.headers_at-requires
headers_at-requires c = c.requires.reached.numbers

pub pairs_on-requires-clause-old : goal.pairs_on-requires-clause-old
pairs_on-requires-clause-old c = net_kept c.args.table.now c.headers_at.new.table c.args.compared.now.old.now c.in_ok-domain.ensures.kept c.requires.before

pub pairs_on-requires-clause-new : goal.pairs_on-requires-clause-new
pairs_on-requires-clause-new c = net_kept c.args.table.now c.headers_at.new.table c.args.compared.now.new.now c.in_ok-domain.ensures.kept c.requires.after

pub pairs_on-requires-clause-old_within : goal.pairs_on-requires-clause-old_within
pairs_on-requires-clause-old_within c = c.in_ok-domain.ensures.within (world_of c.args.compared.now.old.now.world) (world_of c.args.compared.now.new.now.world) c.args.compared.now.old.now.scope c.requires.reached

pub pairs_on-requires-clause-new_within : goal.pairs_on-requires-clause-new_within
pairs_on-requires-clause-new_within c = subst (IsWithin c.headers_at.new.table c.in_ok-domain.domain) c.requires.one_scope (pairs_on-requires-clause-old_within c)

pub pairs_on-requires-clause-alike : goal.pairs_on-requires-clause-alike
pairs_on-requires-clause-alike c h v i = c.in_ok-domain.ensures.equal (world_of c.args.compared.now.old.now.world) (world_of c.args.compared.now.new.now.world) c.args.compared.now.old.now.scope c.requires.reached c.requires.beyond h v i c.args.compared.now.ttl
