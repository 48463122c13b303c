use Rattle.std.proofs.Common.{◌≡◌, List, ap, subst, ◌∙◌}
use Rattle.net_types.specs.declared.config.Loaded.{Loaded}
use Rattle.window_core.specs.Changes.{StepFails, change_fault, devices_after, network_after}
use Rattle.window_core.proofs.changes.Window.with.Goals as goal

pub returns-in-Err-clause-change : goal.returns-in-Err-clause-change
returns-in-Err-clause-change c =
    let device = c.args.change.device in
    let base = c.args.base.now in
    let after : c.deref.result.now ≡ devices_after device (network_after c.args.self.changes base.devices) = c.deref.ensures.value ∙ c.in_ok-devices.ensures ∙ ap (devices_after device) c.requires.window.devices in
    subst (λ (ds : List Loaded). StepFails c.args.path.now (change_fault base ds c.args.line device) c.in-Err.stop) after c.in-Err.ensures.judged
