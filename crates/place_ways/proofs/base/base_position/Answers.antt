use Rattle.std.proofs.Common.{subst, sym}
use Rattle.net_view.specs.Borrowed.{seat_of}
use Rattle.place_ways.specs.Places.{AreBases, IsBase}
use Rattle.place_ways.proofs.BaseLemmas.{base_added, base_there, bases_kept, new_base}
use Rattle.place_ways.proofs.base.base_position.Goals as goal

pub returns-in-Some-clause-base : goal.returns-in-Some-clause-base
returns-in-Some-clause-base c =
    let s = c.args.at in
    subst (λ b. IsBase s.wiring.now c.args.table.now s.scope c.args.lists.now.items s.seat.device.now b c.in-Some.position) c.is_inside-inside.ensures (base_there s.wiring.now c.args.table.now s.scope c.args.lists.now.items s.seat.device.now c.args.bases.now c.is_inside-inside.result c.in-Some.position c.requires.bases c.in-Some.ensures)

pub returns-clause-base : goal.returns-clause-base
returns-clause-base c =
    new_base c.args.at.wiring.now c.ways_in.new.table c.args.at.scope c.push_ways.new.lists.items (seat_of c.args.at.seat) (record { ways = c.in_ok-ways.ways }) c.in_ok-position.position c.in_ok-position.ensures.there c.in_ok-ways.ensures.given c.in_ok-ways.ensures.moves

pub returns-clause-bases : goal.returns-clause-bases
returns-clause-bases c =
    let s = c.args.at in
    let w = s.wiring.now in
    let f = c.args.table.now in
    let g = c.ways_in.new.table in
    let lists = c.push_ways.new.lists.items in
    let d = s.seat.device.now in
    let i = c.in_ok-position.position in
    let t = c.is_inside-inside.result in
    let one = new_base w g s.scope lists (seat_of s.seat) (record { ways = c.in_ok-ways.ways }) i c.in_ok-position.ensures.there c.in_ok-ways.ensures.given c.in_ok-ways.ensures.moves in
    subst (AreBases w g s.scope lists d) (sym c.with_base.ensures) (base_added w g s.scope lists d c.args.bases.now t i (bases_kept w f g s.scope c.args.lists.now.items lists d c.in_ok-ways.ensures.kept c.requires.at.scope c.in_ok-position.ensures.lists c.args.bases.now c.requires.bases) (subst (λ b. IsBase w g s.scope lists d b i) (sym c.is_inside-inside.ensures) one))
