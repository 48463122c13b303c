use Rattle.std.proofs.Common.{◌≡◌, get_or, sym, ap, subst, ◌∙◌}
use Rattle.net_types.specs.declared.network.NetDevice.{NetDevice}
use Rattle.net_types.specs.Routes.{same_text}
use Rattle.ask_query.specs.Devices.{is_called}
use Rattle.ask_query.proofs.DeviceLemmas.{find_take}
use Rattle.ask_query.proofs.devices.firsts_of.Goals as goal

pub loop-device-preserved : goal.loop-device-preserved
loop-device-preserved c name =
    let x = c.in_ok-index.index in
    let same : c.device-item.result ≡ x = sym c.in_ok-index.ensures in
    let At : NetDevice → Type 0 = λ y. y ≡ get_or c.args.devices.now c.loop-device.device-index y in
    let test : same_text c.as_bytes.result.now name ≡ is_called name x = ap (λ k. same_text k name) c.as_bytes.ensures ∙ ap (is_called name) same in
    c.in_ok-add_first.ensures name
    ∙ find_take (is_called name) c.args.devices.now c.loop-device.device-index x (same_text c.as_bytes.result.now name) _ c.loop-device-test.true (subst At same c.device-item.is) test (c.loop-device.invariant name)
