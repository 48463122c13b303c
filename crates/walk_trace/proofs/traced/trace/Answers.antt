use Rattle.std.proofs.Common.{◌≡◌, IfOk, subst}
use Rattle.net_types.specs.World.{World}
use Rattle.walk_trace.specs.Traced.{traced}
use Rattle.walk_trace.proofs.traced.trace.Goals as goal

pub returns : goal.returns
returns c = record {
  traced =
      subst (λ (w : World). IfOk c.trace_on.result (λ trace. trace ≡ traced w c.args.ttl c.args.place c.args.h.now))
      c.in_ok-site.ensures
      c.trace_on.ensures.traced;
}
