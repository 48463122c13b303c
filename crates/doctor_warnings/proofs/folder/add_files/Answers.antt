use Rattle.std.proofs.Common.{◌≡◌, ◌<◌, ◌++◌, length, get_or, ap, ◌∙◌, arith}
use Rattle.net_io.specs.Files.{path_in}
use Rattle.doctor_warnings.specs.declared.files.TextFile.{TextFile}
use Rattle.doctor_warnings.specs.Sides.{files_beside}
use Rattle.doctor_warnings.specs.Warnings.{file_warnings, is_alone, other_keys}
use Rattle.doctor_warnings.proofs.Items.{files_more}
use Rattle.doctor_warnings.proofs.folder.add_files.Goals as goal

pub loop-file-preserved : goal.loop-file-preserved
loop-file-preserved c =
    let beside = files_beside c.args.other in
    let told = λ (f : TextFile). file_warnings (is_alone beside f.name) (other_keys beside f.name) (path_in c.args.folder.now.path f.name) f.bytes in
    let files = c.args.folder.now.files.items in
    let i = c.loop-file.file-index in
    let e = c.file-item.result in
    let same = c.as_slice-file-items.ensures.value in
    let low : i < length files = omega (arith, ap length same) in
    let is : e ≡ get_or files i e = cc (c.file-item.is, same) in
    c.in_ok-add_file.ensures
    ∙ ap (λ p. c.loop-file.warnings.items ++ file_warnings (is_alone beside e.file.name) (other_keys beside e.file.name) (path_in p e.file.name) e.file.bytes) c.as_bytes.ensures
    ∙ ap (λ l. l ++ told e.file) c.loop-file.invariant ∙ files_more told c.args.warnings.now.items files i e low is
