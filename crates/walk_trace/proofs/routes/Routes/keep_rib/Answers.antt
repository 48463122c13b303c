use Rattle.std.proofs.Common.{sym, subst}
use Rattle.std.specs.Prelude.{nat_eq}
use Rattle.indexmap.specs.IndexMap.{get}
use Rattle.net_view.specs.Borrowed.{world_of}
use Rattle.net_types.specs.World.{World}
use Rattle.walk_trace.specs.Kept.{IsFirst}
use Rattle.walk_trace.proofs.KeptLemmas.{rib_kept}
use Rattle.walk_trace.proofs.routes.Routes.keep_rib.Goals as goal

pub invariant_of-self-2 : goal.invariant_of-self-2
invariant_of-self-2 c = (
  rib_kept (world_of c.self.inside.world) c.args.device.now
      (subst (λ (w : World). IsFirst w c.args.device.now) (sym c.self.view_is) c.requires)
      (get nat_eq c.self.inside.ribs) (get nat_eq c.insert.new.self) c.in_ok-rib.rib
      c.in_ok-insert.ensures.updates.0 c.in_ok-rib.ensures.installed c.self.invariant.0,
  c.self.invariant.1,
)
