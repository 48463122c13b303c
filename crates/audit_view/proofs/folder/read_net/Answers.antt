use Rattle.std.proofs.Common.{List, Option, IfSome, subst}
use Rattle.net_io.specs.Files.{Told}
use Rattle.net_types.specs.declared.config.Loaded.{Loaded}
use Rattle.audit_view.specs.declared.lists.FolderList.{FolderList}
use Rattle.audit_view.specs.Views.{ReadsLists}
use Rattle.audit_view.proofs.Nets.{net_goes, net_stops}
use Rattle.audit_view.proofs.folder.read_net.Goals as goal

pub returns-in-Ok-clause-lists : goal.returns-in-Ok-clause-lists
returns-in-Ok-clause-lists g c =
    let net = c.args.net.now in
    let r = c.read_lists.result in
    let read = subst (λ (ds : List Loaded). IfSome (g.F.Files.told c.read_folder.new.files) (λ t. ReadsLists (λ lists. lists.items) t net ds r)) c.deref.ensures.value c.read_lists.ensures.lists in
    let lists = subst (λ (o : Option Told). IfSome o (λ t. ReadsLists (λ lists. lists.items) t net c.in-Ok.devices.items r)) c.in-Ok.ensures.same read in
    net_goes (λ lists. lists.items) net (g.F.Files.told c.args.files.now) c.in-Ok.devices.items r c.in-Ok.ensures.devices lists

pub returns-in-Err-clause-lists : goal.returns-in-Err-clause-lists
returns-in-Err-clause-lists g c = net_stops (λ (ls : List FolderList). ls) c.args.net.now (g.F.Files.told c.args.files.now) c.in-Err.stop c.in-Err.ensures.devices
