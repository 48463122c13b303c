use Rattle.std.proofs.Common.{◌≡◌, ◌∙◌, ◌==◌, ap, find}
use Rattle.net_types.specs.declared.network.Network.{Network}
use Rattle.net_types.specs.World.{World}
use Rattle.live_network.specs.Replaced.{with_device}
use Rattle.live_network.proofs.NetworkLemmas.{on_err}
use Rattle.live_network.proofs.network.LiveNetwork.replace.Goals as goal

pub returns-clause-network : goal.returns-clause-network
returns-clause-network c =
    let s = c.self.inside in
    ap (λ (n : Network). record { network = n; links = s.links.now }) c.in_ok-before.ensures.network ∙ ap (λ (w : World). record w { network = with_device c.args.device w.network }) c.self.view_is

pub returns-clause-before : goal.returns-clause-before
returns-clause-before c = c.in_ok-before.ensures.before ∙ ap (λ (w : World). find (λ d. d.name == c.args.device.name) w.network.devices) c.self.view_is

pub returns-in_err-before-clause-as_before : goal.returns-in_err-before-clause-as_before
returns-in_err-before-clause-as_before c =
    let s = c.self.inside in
    let after : World = record { network = c.replace_in.new.network; links = s.links.now } in
    on_err (after ≡ c.args.self.now) c.from_residual.result (ap (λ (n : Network). record { network = n; links = s.links.now }) c.in_err-before.ensures.as_before ∙ c.self.view_is)
