use Rattle.std.proofs.Common.{arith}
use Rattle.net_gen.specs.Networks.{file}
use Rattle.net_gen.proofs.Chains.{mapped_more}
use Rattle.net_gen.proofs.networks.files.Goals as goal

pub loop-j-preserved : goal.loop-j-preserved
loop-j-preserved c = record {
  first = omega arith;
  last = omega (arith, c.loop-j-test.true);
  files = mapped_more (file c.args.new c.args.number c.args.size) c.loop-j.j _ _ _ c.loop-j.invariant.first c.loop-j.invariant.files c.in_ok-file.ensures c.in_ok-push.ensures.items;
}
