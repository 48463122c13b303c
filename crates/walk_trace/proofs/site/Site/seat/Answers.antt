use Rattle.walk_trace.proofs.SeatLemmas.{seat_found}
use Rattle.walk_trace.proofs.site.Site.seat.Goals as goal

pub returns-clause-first : goal.returns-clause-first
returns-clause-first c = seat_found c.args.self.now c.args.place c.seat_at.result c.seat_at.ensures
