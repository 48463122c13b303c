use Rattle.std.proofs.Common.{arith, refl}
use Rattle.net_gen.specs.Networks.{link}
use Rattle.net_gen.proofs.Chains.{mapped_more}
use Rattle.net_gen.proofs.networks.links.Goals as goal

pub loop-j-preserved : goal.loop-j-preserved
loop-j-preserved c = record {
  first = omega arith;
  last = omega (arith, c.loop-j-test.true);
  lines = mapped_more link c.loop-j.j _ _ _ c.loop-j.invariant.first c.loop-j.invariant.lines c.in_ok-link.ensures c.in_ok-push.ensures.items;
}
