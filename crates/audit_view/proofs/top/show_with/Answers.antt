use Rattle.std.proofs.Common.{List, Option}
use Rattle.net_io.specs.Files.{Told}
use Rattle.job_core.proofs.StepLemmas.{then_go, then_stop, however_told}
use Rattle.audit_view.specs.declared.lists.FolderList.{FolderList}
use Rattle.audit_view.specs.Views.{GivesNet, Views}
use Rattle.audit_view.proofs.top.show_with.Goals as goal

pub returns-in-Ok-clause-shows : goal.returns-in-Ok-clause-shows
returns-in-Ok-clause-shows g c =
    let told : Option Told = g.F.Files.told c.args.files.now in
    then_go (λ t r. GivesNet (λ (ls : List FolderList). ls) t c.args.net.now r) (λ t ls r. Views c.args.manner c.args.path.now c.args.bytes.now ls r) told c.in-Ok.lists.items c.view_of.result c.in-Ok.ensures.lists (however_told told c.view_of.ensures.views)

pub returns-in-Err-clause-shows : goal.returns-in-Err-clause-shows
returns-in-Err-clause-shows g c =
    let told : Option Told = g.F.Files.told c.args.files.now in
    then_stop {A = List FolderList} (λ t r. GivesNet (λ (ls : List FolderList). ls) t c.args.net.now r) (λ t ls r. Views c.args.manner c.args.path.now c.args.bytes.now ls r) told c.in-Err.stop c.in-Err.ensures.lists
