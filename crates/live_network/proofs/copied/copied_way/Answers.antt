use Rattle.std.proofs.Common.{refl}
use Rattle.live_network.proofs.copied.copied_way.Goals as goal

pub returns-clause-way : goal.returns-clause-way
returns-clause-way c = record { step = refl; headers = c.in_ok-headers.ensures.set }
