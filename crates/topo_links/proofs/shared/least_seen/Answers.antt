use Rattle.std.proofs.Common.{◌∙◌, sym, arith}
use Rattle.topo_links.specs.Check.{has_value}
use Rattle.topo_links.proofs.LeastShared.{seen_step}
use Rattle.topo_links.proofs.shared.least_seen.Goals as goal

pub loop-i-preserved-then-is_seen : goal.loop-i-preserved-then-is_seen
loop-i-preserved-then-is_seen c = record {
  within = omega arith;
  best = c.lesser-best.ensures ∙ seen_step (λ a. has_value a c.args.seen.now.keys) c.args.addresses.now c.loop-i.i c.loop-i.best c.args.least (omega arith) c.loop-i.invariant.within (sym c.is_seen.ensures ∙ c.if-is_seen.true) c.loop-i.invariant.best;
}
