use Rattle.std.proofs.Common.{List, subst}
use Rattle.net_load.specs.declared.texts.FileText.{FileText}
use Rattle.net_load.specs.Texts.{AreReadings}
use Rattle.net_load.proofs.Steps.{of_texts}
use Rattle.net_load.proofs.folder.load_folder_by_workers.Goals as goal

pub load_all-requires-clause-known : goal.load_all-requires-clause-known
load_all-requires-clause-known g c = subst (λ (xs : List FileText). AreReadings xs c.in_ok-known.known.items) c.deref.ensures.value c.in_ok-known.ensures

pub returns-clause-exact : goal.returns-clause-exact
returns-clause-exact g c = of_texts (λ loaded. loaded.items) (g.F.Files.told c.args.files.now) c.args.folder.now c.in_ok-texts.texts c.load_all.result c.in_ok-texts.ensures.texts c.load_all.ensures.files
