use Rattle.net_compare.proofs.comparison.sections_prepared.Goals as goal

pub sections_formed-requires-clause-forms : goal.sections_formed-requires-clause-forms
sections_formed-requires-clause-forms g c κs within = record { old = c.requires.parts.old; new = c.requires.parts.new; like = c.requires.parts.like }
