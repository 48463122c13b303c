use Rattle.net_types.proofs.LabelLaws.{pair_decided}
use Rattle.net_compare.proofs.laws.label_pairs_are_decided.Goals as goal

pub returns : goal.returns
returns c = pair_decided
