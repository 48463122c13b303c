use Rattle.std.proofs.Common.{◌++◌, ap, ◌∙◌, arith}
use Rattle.place_checks.specs.Findings.{interface_unlinked, place_unlinked}
use Rattle.place_checks.specs.Sights.{pair_of}
use Rattle.place_checks.proofs.Firsts.{push_flat}
use Rattle.place_checks.proofs.unlinked.check_device.Goals as goal

pub loop-interface-preserved : goal.loop-interface-preserved
loop-interface-preserved c =
    let before = c.loop-interface.found.items in
    let found = place_unlinked c.args.added (pair_of c.args.nets) c.args.segments.now.table.now in
    let told = interface_unlinked c.args.added (pair_of c.args.nets) c.args.segments.now.table.now c.args.device.now in
    let interfaces = c.as_slice-interface-items.result.now in
    let interface = c.interface-item.result in
    c.in_ok-check_place.ensures ∙ ap (λ e. before ++ found e) c.place_of.ensures ∙ ap (λ l. l ++ told interface) c.loop-interface.invariant
    ∙ push_flat c.args.found.now.items interfaces c.loop-interface.interface-index interface (omega arith) c.interface-item.is told
