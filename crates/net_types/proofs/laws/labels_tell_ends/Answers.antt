use Rattle.net_types.proofs.LabelLaws.{labels_tell_ends}
use Rattle.net_types.proofs.laws.labels_tell_ends.Goals as goal

pub returns : goal.returns
returns c old new t p h = labels_tell_ends t p h old new
