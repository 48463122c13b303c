use Rattle.net_types.proofs.OneEdit.{edited_differs}
use Rattle.net_types.proofs.laws.edited_differs_there_only.Goals as goal

pub returns : goal.returns
returns c = edited_differs
