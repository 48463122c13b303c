use Rattle.place_ways.specs.Devices.{PutsSeat}
use Rattle.place_ways.proofs.device_ways.put_seat.Goals as goal

pub returns-clause-put : goal.returns-clause-put
returns-clause-put c = record { at = c.in_ok-position.position; is = c.in_ok-position.ensures.position; put = c.in_ok-put_position.ensures }
