use Rattle.std.proofs.Common.{◌++◌, ap, ◌∙◌, arith}
use Rattle.place_checks.specs.Findings.{device_unlinked}
use Rattle.place_checks.specs.Sights.{pair_of}
use Rattle.place_checks.proofs.Firsts.{push_flat}
use Rattle.place_checks.proofs.unlinked.check_folder.Goals as goal

pub loop-device-preserved : goal.loop-device-preserved
loop-device-preserved c =
    let told = device_unlinked c.args.added (pair_of c.args.nets) c.args.segments.now.table.now in
    let device = c.device-item.result in
    c.in_ok-check_device.ensures ∙ ap (λ l. l ++ told device) c.loop-device.invariant
    ∙ push_flat c.args.found.now.items c.args.folder.now c.loop-device.device-index device (omega arith) c.device-item.is told
