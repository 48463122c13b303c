use Rattle.std.proofs.Common.{◌≡◌, Some, Option, IfSome, subst, ◌∙◌, arith, refl, rules}
use Rattle.net_io.specs.Files.{Told, content, path_in}
use Rattle.job_core.specs.Steps.{UnreadFile}
use Rattle.audit_view.proofs.Nets.{first_read, next_read, all_read, file_stops, told_bytes}
use Rattle.audit_view.proofs.folder.read_lists.Goals as goal

pub loop-device-init : goal.loop-device-init
loop-device-init g c = record {
  same = refl;
  later = omega arith;
  found = first_read (g.F.Files.told c.args.files.now) c.args.net.now c.args.devices.now c.new-found.result.items (search rules);
}

pub returns-in-Err-clause-lists : goal.returns-in-Err-clause-lists
returns-in-Err-clause-lists g c =
    let l = c.loop-device in
    let d = c.device-item.result in
    let net = c.args.net.now in
    let unread = subst (λ (x : Option Told). IfSome x (λ t. UnreadFile (path_in net d.file) (content t (path_in net d.file)) c.in-Err.stop)) l.invariant.same c.in-Err.ensures.bytes in
    file_stops (g.F.Files.told c.args.files.now) net c.args.devices.now l.device-index d c.in-Err.stop (omega arith) c.device-item.is unread

pub loop-device-preserved : goal.loop-device-preserved
loop-device-preserved g c =
    let l = c.loop-device in
    let d = c.device-item.result in
    let net = c.args.net.now in
    let bytes = c.in-Ok.bytes.items in
    let told = told_bytes (g.F.Files.told l.files) (path_in net d.file) bytes c.in-Ok.ensures.bytes in
    let there = subst (λ (x : Option Told). IfSome x (λ t. content t (path_in net d.file) ≡ Some bytes)) l.invariant.same told in
    record {
      same = c.in-Ok.ensures.same ∙ l.invariant.same;
      later = omega (arith, c.in-Ok.ensures.cause.later, l.invariant.later);
      found = next_read (g.F.Files.told c.args.files.now) net c.args.devices.now l.device-index d bytes l.found.items c.add_lists.new.found.items (omega arith) c.device-item.is there (rw c.deref.ensures.value at c.in_ok-add_lists-in-Ok.ensures) l.invariant.found;
    }

pub returns-clause-lists : goal.returns-clause-lists
returns-clause-lists g c = all_read (g.F.Files.told c.args.files.now) c.args.net.now c.args.devices.now c.loop-device.device-index c.loop-device.found.items (omega arith) c.loop-device.invariant.found
