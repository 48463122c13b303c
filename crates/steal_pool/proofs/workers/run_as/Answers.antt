use Rattle.std.proofs.Common.{arith}
use Rattle.steal_pool.proofs.workers.run_as.Goals as goal

pub map_vec-requires-after_bounds : goal.map_vec-requires-after_bounds
map_vec-requires-after_bounds g c κs within = grind arith
