use Rattle.std.proofs.Common.{rules, ◌≡◌, ◌∙◌, ap, sym, List, Err, Some, position, set, get_or}
use Rattle.net_types.specs.declared.network.NetDevice.{NetDevice}
use Rattle.net_types.specs.declared.network.Network.{Network}
use Rattle.incr_review.specs.declared.edits.EditKind.TheVariants as kind
use Rattle.incr_review.specs.Edited.{map_ok, is_named, device_of, device_edited}
use Rattle.incr_review.proofs.FirstLemmas.{changed, unchanged, fail_map, map_twice, at_index, within}
use Rattle.incr_review.proofs.edited.edited_device.Goals as goal

put : List NetDevice → Network
put ds = record { devices = ds }

pub returns-in_default-clause-fail : goal.returns-in_default-clause-fail
returns-in_default-clause-fail c =
    let devices = c.args.network.now.devices in
    let edit = c.args.edit.now in
    let there = sym c.in_default.is ∙ (c.device_position.ensures ∙ (λ i. position (is_named (c.device.ensures i)) (c.as_slice-devices.ensures i))) in
    ap (map_ok (λ ds. record { devices = ds })) (unchanged (is_named (device_of edit)) kind.UnknownDevice (device_edited edit) devices there)

pub returns-in_err-device-clause-fail : goal.returns-in_err-device-clause-fail
returns-in_err-device-clause-fail c =
    let devices = c.args.network.now.devices in
    let edit = c.args.edit.now in
    let i = c.in-Some.position in
    let x = c.index-devices-position.result in
    let test = is_named (device_of edit) in
    let there = sym c.in-Some.is ∙ (c.device_position.ensures ∙ (λ k. position (is_named (c.device.ensures k)) (c.as_slice-devices.ensures k))) in
    let at = at_index devices i x (within test devices i there) (c.index-devices-position.is ∙ ap (λ xs. get_or xs i x) c.as_slice-devices.ensures) in
    let is = changed test kind.UnknownDevice (device_edited edit) devices i x there at in
    let e = c.in_err-device.field-0.0 in
    let handed : c.from_residual.result ≡ Err e = search rules in
    let whole = ap (map_ok (λ ds. record { devices = ds })) is ∙ map_twice (λ y. set devices i y) (λ ds. record { devices = ds }) (device_edited edit x) in
    rw handed (fail_map _ (device_edited edit x) _ whole e c.in_err-device.ensures.fail)

pub returns-clause-ok : goal.returns-clause-ok
returns-clause-ok c =
    let devices = c.args.network.now.devices in
    let edit = c.args.edit.now in
    let i = c.in-Some.position in
    let x = c.index-devices-position.result in
    let test = is_named (device_of edit) in
    let there = sym c.in-Some.is ∙ (c.device_position.ensures ∙ (λ k. position (is_named (c.device.ensures k)) (c.as_slice-devices.ensures k))) in
    let at = at_index devices i x (within test devices i there) (c.index-devices-position.is ∙ ap (λ xs. get_or xs i x) c.as_slice-devices.ensures) in
    let is = changed test kind.UnknownDevice (device_edited edit) devices i x there at in
    ap (map_ok (λ ds. record { devices = ds })) (is ∙ ap (map_ok (λ y. set devices i y)) c.in_ok-device.ensures.ok)

same_item : (x y : NetDevice) → Some x ≡ Some y → x ≡ y
same_item x y e = cc

pub returns-clause-device : goal.returns-clause-device
returns-clause-device c x e =
    let devices = c.args.network.now.devices in
    let edit = c.args.edit.now in
    let i = c.in-Some.position in
    let y = c.index-devices-position.result in
    let test = is_named (device_of edit) in
    let there = sym c.in-Some.is ∙ (c.device_position.ensures ∙ (λ k. position (is_named (c.device.ensures k)) (c.as_slice-devices.ensures k))) in
    let at = at_index devices i y (within test devices i there) (c.index-devices-position.is ∙ ap (λ xs. get_or xs i y) c.as_slice-devices.ensures) in
    ap (device_edited edit) (same_item x y (sym e ∙ at)) ∙ c.in_ok-device.ensures.ok
