use Rattle.std.proofs.Common.{sym, subst, ◌∙◌}
use Rattle.indexmap.specs.IndexMap.{get}
use Rattle.net_view.specs.Borrowed.{world_of}
use Rattle.net_types.specs.World.{World}
use Rattle.walk_trace.specs.Kept.{IsFirst, same_pair}
use Rattle.walk_trace.proofs.KeptLemmas.{choices_kept}
use Rattle.walk_trace.proofs.routes.Routes.keep.Goals as goal

pub invariant_of-self-2 : goal.invariant_of-self-2
invariant_of-self-2 c = (
  c.self-2.invariant.0,
  choices_kept (world_of c.self-2.inside.world) c.args.device.now
      (subst (λ (w : World). IsFirst w c.args.device.now) (sym (c.self-2.view_is ∙ c.keep_rib.ensures)) c.requires)
      c.args.address (get same_pair c.self-2.inside.choices) (get same_pair c.insert.new.self) c.new.result
      c.in_ok-insert.ensures.updates.0 (c.new.ensures ∙ c.in_ok-hops.ensures) c.self-2.invariant.1,
)
