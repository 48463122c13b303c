use Rattle.std.proofs.Common.{map, filter, ap, ◌∙◌, Global}
use Rattle.std.specs.Prelude.{string_bytes}
use Rattle.topo_links.specs.Names.{sorted_names}
use Rattle.doctor_core.specs.Folders.{is_other}
use Rattle.doctor_core.proofs.OtherFiles.{listed}
use Rattle.doctor_core.proofs.others.read_others.Goals as goal

pub returns-in_ok-others_in-in-Ok-clause-others : goal.returns-in_ok-others_in-in-Ok-clause-others
returns-in_ok-others_in-in-Ok-clause-others g c =
    let names = map (string_bytes {Z = Global}) c.in-Ok.names.items in
    listed (g.F.Files.told c.args.files.now) c.args.folder.now names c.in_ok-others_in-in-Ok.field-0 c.in-Ok.ensures.names
    (rw c.deref.ensures.value at c.in_ok-others_in-in-Ok.ensures)
