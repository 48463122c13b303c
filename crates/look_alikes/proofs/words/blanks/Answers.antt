use Rattle.net_text.proofs.Parts.{none_passes}
use Rattle.look_alikes.proofs.words.blanks.Goals as goal

pub returns-in-None-clause-place : goal.returns-in-None-clause-place
returns-in-None-clause-place c = none_passes _ _ (cc)
