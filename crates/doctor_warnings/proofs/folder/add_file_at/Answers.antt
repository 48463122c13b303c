use Rattle.std.proofs.Common.{◌≡◌, ◌++◌, Bool, OnOk, subst}
use Rattle.doctor_warnings.specs.Sides.{files_beside}
use Rattle.doctor_warnings.specs.Warnings.{file_warnings, other_keys}
use Rattle.doctor_warnings.proofs.OneFile.{file_told}
use Rattle.doctor_warnings.proofs.folder.add_file_at.Goals as goal

pub returns : goal.returns
returns c =
    let bytes = c.args.file.now.file.bytes in
    let old = c.args.warnings.now.items in
    let new = c.add_config.new.warnings.items in
    let r = c.add_config.result in
    let path = c.args.path.now in
    let others = other_keys (files_beside c.args.other) c.args.file.now.file.name in
    let told = file_told r path bytes c.is_alone.result others old c.add_alone.new.warnings.items c.add_refusal.new.warnings.items c.add_beside.new.warnings.items new
    c.in_ok-add_alone.ensures c.in_ok-add_refusal.ensures c.in_ok-add_beside.ensures c.add_config.ensures in
    subst (λ (b : Bool). OnOk r (new ≡ old ++ file_warnings b others path bytes)) c.is_alone.ensures told
