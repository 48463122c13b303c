use Rattle.std.proofs.Common.{◌≡◌, List, Option, Some, None, ap, refl, sym, subst}
use Rattle.cube_diagram.specs.Functions.{Functions}
use Rattle.net_types.specs.declared.network.NetDevice.{NetDevice}
use Rattle.net_types.specs.World.{World, Seat}
use Rattle.net_view.specs.Borrowed.{seat_of}
use Rattle.set_walk.specs.declared.net.PlaceWays.{PlaceWays}
use Rattle.place_ways.specs.Devices.{HasSeatPosition, IsSeatPosition}
use Rattle.place_ways.specs.Places.{AreBases, HasSeatWays}
use Rattle.place_ways.proofs.DeviceLemmas.{seat_in_wired}
use Rattle.place_ways.proofs.device_ways.position_numbered.Goals as goal

pub seat_of_number-requires : goal.seat_of_number-requires
seat_of_number-requires c = c.requires.at.form.seats.count

pub returns-in_default-clause-position : goal.returns-in_default-clause-position
returns-in_default-clause-position c =
    subst (λ (o : Option Seat). IsSeatPosition c.args.at.wiring.now c.args.table.now c.args.at.scope c.args.lists.now.items o None) c.in_default.ensures.seat refl

pub seat_position-requires-clause-at : goal.seat_position-requires-clause-at
seat_position-requires-clause-at c = seat_in_wired c.args.table.now c.args.at c.in-Some.seat c.requires.at c.in-Some.ensures.form

pub seat_position-requires-clause-bases : goal.seat_position-requires-clause-bases
seat_position-requires-clause-bases c =
    let s = c.in-Some.seat in
    let i = c.in-Some.ensures.form in
    let x = c.args.at in
    let f = c.args.table.now in
    let lists = c.args.lists.now.items in
    let b = c.args.bases.now in
    subst (λ (d : NetDevice). AreBases s.wiring.now f s.scope lists d b) (sym i.device)
    (subst (λ n. AreBases s.wiring.now f n lists x.device.now b) (sym i.scope)
    (subst (λ (w : World). AreBases w f x.scope lists x.device.now b) (sym i.wiring) c.requires.bases))

pub returns-clause-position : goal.returns-clause-position
returns-clause-position c =
    let s = c.in-Some.seat in
    let i = c.in-Some.ensures.form in
    let x = c.args.at in
    let g = c.seat_position.new.table in
    let lists = c.seat_position.new.lists.items in
    let p = c.in_ok-position.position in
    let one = subst (λ n. HasSeatWays s.wiring.now g n lists (seat_of s.seat) p) i.scope c.in_ok-position.ensures.ways in
    let ways = subst (λ (w : World). HasSeatWays w g x.scope lists (seat_of s.seat) p) i.wiring one in
    subst (λ (o : Option Seat). IsSeatPosition x.wiring.now g x.scope lists o (Some p)) c.in-Some.ensures.seat (record { position = p; is = refl; ways = ways })

pub returns-clause-bases : goal.returns-clause-bases
returns-clause-bases c =
    let s = c.in-Some.seat in
    let i = c.in-Some.ensures.form in
    let x = c.args.at in
    let g = c.seat_position.new.table in
    let lists = c.seat_position.new.lists.items in
    let b = c.seat_position.new.bases in
    subst (λ (w : World). AreBases w g x.scope lists x.device.now b) i.wiring
    (subst (λ n. AreBases s.wiring.now g n lists x.device.now b) i.scope
    (subst (λ (d : NetDevice). AreBases s.wiring.now g s.scope lists d b) i.device c.in_ok-position.ensures.bases))
