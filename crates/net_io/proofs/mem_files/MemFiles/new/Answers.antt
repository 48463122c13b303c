use Rattle.std.proofs.Common.{ap}
use Rattle.net_io.specs.MemFiles.{paths}
use Rattle.net_io.proofs.Listings.{no_paths}
use Rattle.net_io.proofs.mem_files.MemFiles.new.Goals as goal

pub invariant_of-result : goal.invariant_of-result
invariant_of-result c = (no_paths _ (ap paths c.new.ensures.items), record {})
