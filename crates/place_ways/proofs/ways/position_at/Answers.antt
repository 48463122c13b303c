use Rattle.std.proofs.Common.{subst, sym}
use Rattle.net_view.specs.Borrowed.{seat_of, world_of}
use Rattle.place_ways.specs.Places.{AreBases, HasSeatWays}
use Rattle.place_ways.proofs.PlaceLemmas.{absent, bases_named, counted, device_of, seat_ways, way_seat}
use Rattle.place_ways.proofs.ways.position_at.Goals as goal

pub seat_at-requires-clause-counts : goal.seat_at-requires-clause-counts
seat_at-requires-clause-counts c = counted c.args.table.now c.args.network.fates.now c.args.network.form.now c.requires.network.form

pub seat_at-requires-clause-indexed : goal.seat_at-requires-clause-indexed
seat_at-requires-clause-indexed c = record { wiring = c.requires.network.form.wiring; count = c.requires.network.form.devices.count }

pub seat_position-requires-clause-at : goal.seat_position-requires-clause-at
seat_position-requires-clause-at c = way_seat c.args.table.now c.args.network.fates.now c.args.network.scope c.args.place c.args.network.form.now c.in-Some.at c.requires.network.form c.requires.network.scope c.in-Some.ensures.seat c.in-Some.ensures.scope c.in-Some.ensures.form c.in-Some.ensures.fates

pub seat_position-requires-clause-bases : goal.seat_position-requires-clause-bases
seat_position-requires-clause-bases c =
    let at = c.in-Some.at in
    let w = world_of c.args.network.form.now.world in
    subst (λ n. AreBases at.wiring.now c.args.table.now n c.args.lists.now.items at.seat.device.now c.args.bases.now) (sym c.in-Some.ensures.scope) (subst (λ x. AreBases x c.args.table.now c.args.network.scope c.args.lists.now.items at.seat.device.now c.args.bases.now) (sym c.in-Some.ensures.form.world) (c.requires.bases at.seat.device.now (device_of w c.args.place (seat_of at.seat) c.in-Some.ensures.seat)))

pub returns-in_default-clause-position : goal.returns-in_default-clause-position
returns-in_default-clause-position c = absent (world_of c.args.network.form.now.world) c.args.place c.in_default.ensures.seat

pub returns-clause-position : goal.returns-clause-position
returns-clause-position c =
    let at = c.in-Some.at in
    seat_ways (world_of c.args.network.form.now.world) c.args.place at.wiring.now c.seat_position.new.table c.args.network.scope c.seat_position.new.lists.items (seat_of at.seat) c.in_ok-position.position c.in-Some.ensures.seat c.in-Some.ensures.form.world (subst (λ n. HasSeatWays at.wiring.now c.seat_position.new.table n c.seat_position.new.lists.items (seat_of at.seat) c.in_ok-position.position) c.in-Some.ensures.scope c.in_ok-position.ensures.ways)

pub returns-clause-bases : goal.returns-clause-bases
returns-clause-bases c =
    let at = c.in-Some.at in
    let w = world_of c.args.network.form.now.world in
    let g = c.seat_position.new.table in
    let lists = c.seat_position.new.lists.items in
    bases_named w c.args.place g c.args.network.scope lists (seat_of at.seat) c.seat_position.new.bases c.in-Some.ensures.seat (subst (λ x. AreBases x g c.args.network.scope lists at.seat.device.now c.seat_position.new.bases) c.in-Some.ensures.form.world (subst (λ n. AreBases at.wiring.now g n lists at.seat.device.now c.seat_position.new.bases) c.in-Some.ensures.scope c.in_ok-position.ensures.bases))
