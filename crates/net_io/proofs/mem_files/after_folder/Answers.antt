use Rattle.net_io.proofs.Names.{prefix_is}
use Rattle.net_io.proofs.mem_files.after_folder.Goals as goal

pub returns : goal.returns
returns c = prefix_is _ _ _ c.strip_prefix.ensures.cases
