use Rattle.net_load.proofs.Steps.{of_texts}
use Rattle.net_load.proofs.folder.load_folder.Goals as goal

pub returns-clause-exact : goal.returns-clause-exact
returns-clause-exact g c = of_texts (λ loaded. loaded.items) (g.F.Files.told c.args.files.now) c.args.folder.now c.in_ok-texts.texts c.load_all.result c.in_ok-texts.ensures.texts c.load_all.ensures.files
