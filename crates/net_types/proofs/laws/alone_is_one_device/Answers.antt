use Rattle.net_types.proofs.Single.{label_alone}
use Rattle.net_types.proofs.laws.alone_is_one_device.Goals as goal

pub returns : goal.returns
returns c = label_alone
