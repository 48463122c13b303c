use Rattle.std.proofs.Common.{sym, ap, subst, ◌∙◌}
use Rattle.std.specs.Option.{option_copied}
use Rattle.net_types.specs.World.{World}
use Rattle.walk_trace.specs.Kept.{IsFirst}
use Rattle.walk_trace.proofs.routes.Routes.choices.Goals as goal

pub returns-in_ok-copy-in-Some : goal.returns-in_ok-copy-in-Some
returns-in_ok-copy-in-Some c =
    let d = c.args.device.now in
    c.into_vec.ensures
    ∙ c.in_ok-copy-in-Some.ensures.same
    ∙ c.self.invariant.1 (d.name, c.args.address) c.in-Some.kept.now (sym (ap option_copied (sym c.in-Some.is) ∙ c.get.ensures.value)) d (subst (λ (w : World). IsFirst w d) (sym c.self.view_is) c.requires)
