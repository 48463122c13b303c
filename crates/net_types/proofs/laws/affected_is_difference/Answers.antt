use Rattle.hdr_bits.specs.HeaderBits.{header_of}
use Rattle.net_types.specs.Walks.{label}
use Rattle.net_types.proofs.LabelLaws.{none_is_same, pair_if_other, labels_are_compared}
use Rattle.net_types.proofs.laws.affected_is_difference.Goals as goal

pub returns-clause-same : goal.returns-clause-same
returns-clause-same c old new t p x = none_is_same (label old t p (header_of x)) (label new t p (header_of x))

pub returns-clause-other : goal.returns-clause-other
returns-clause-other c old new t p x = pair_if_other (label old t p (header_of x)) (label new t p (header_of x))

pub returns-clause-test : goal.returns-clause-test
returns-clause-test c = labels_are_compared
