use Rattle.std.proofs.Common.{refl}
use Rattle.place_ways.proofs.device_ways.seat_of_number.Goals as goal

pub returns-clause-form : goal.returns-clause-form
returns-clause-form c =
    let formed = c.in-Some.ensures.formed in
    record { device = formed.device; form = refl; formed = formed; fates = refl; wiring = refl; scope = refl }
