use Rattle.net_types.proofs.EndLaws.{end_from_label, label_from_end, label_is_label}
use Rattle.net_types.proofs.laws.labels_have_outcomes.Goals as goal

pub returns-clause-outcomes : goal.returns-clause-outcomes
returns-clause-outcomes c w t p h o = (end_from_label w t p h o, label_from_end w t p h o)

pub returns-clause-some : goal.returns-clause-some
returns-clause-some c = label_is_label
