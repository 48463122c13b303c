use Rattle.std.proofs.Common.{arith}
use Rattle.net_gen.specs.Devices.{routes_to}
use Rattle.net_gen.proofs.Chains.{joined_more}
use Rattle.net_gen.proofs.devices.routes.Goals as goal

pub loop-i-preserved : goal.loop-i-preserved
loop-i-preserved c = record {
  first = omega arith;
  last = omega (arith, c.loop-i-test.true);
  routes = joined_more (routes_to c.args.j) c.loop-i.i _ _ c.loop-i.invariant.first c.loop-i.invariant.routes c.in_ok-add_route.ensures;
}
