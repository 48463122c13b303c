use Rattle.std.proofs.Common.{◌≡◌, IfOk, sym, ap, subst, ◌∙◌}
use Rattle.std.specs.Option.{option_copied}
use Rattle.net_types.specs.declared.network.Rib.{Rib}
use Rattle.net_types.specs.Order.{hop_cmp, in_order}
use Rattle.net_types.specs.Routes.{hops}
use Rattle.net_types.specs.World.{World}
use Rattle.walk_trace.specs.Kept.{IsFirst}
use Rattle.walk_trace.proofs.routes.Routes.looked_up.Goals as goal

pub returns-in-Some : goal.returns-in-Some
returns-in-Some c =
    let d = c.args.device.now in
    subst (λ (rib : Rib). IfOk c.choices_by.result (λ answer. answer.items ≡ in_order hop_cmp (hops rib c.args.address)))
    (c.self.invariant.0 d.name c.in-Some.rib.now (sym (ap option_copied (sym c.in-Some.is) ∙ c.get.ensures.value)) d (subst (λ (w : World). IsFirst w d) (sym c.self.view_is) c.requires))
    c.choices_by.ensures
