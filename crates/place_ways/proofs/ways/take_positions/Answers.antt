use Rattle.std.proofs.Common.{take_all, get_or, subst}
use Rattle.std.proofs.lemmas.List.{get_or_default}
use Rattle.indexmap.specs.IndexMap.{get}
use Rattle.net_types.specs.World.{same_place}
use Rattle.place_ways.specs.Places.{IsPut, TakesPositions}
use Rattle.place_ways.proofs.PlaceLemmas.{takes_more, takes_none}
use Rattle.place_ways.proofs.ways.take_positions.Goals as goal

pub loop-number-init : goal.loop-number-init
loop-number-init c = takes_none c.args.name (get same_place c.args.known.now) (get same_place c.args.positions.now)

pub loop-number-preserved : goal.loop-number-preserved
loop-number-preserved c =
    let l = c.loop-number in
    let xs = c.args.numbers.now in
    let n = get_or xs l.number-index 0 in
    takes_more c.args.name xs l.number-index n (get same_place c.args.known.now) (get same_place c.args.positions.now) (get same_place l.positions) (get same_place c.put_position.new.positions) c.loop-number-test.true (get_or_default xs l.number-index 0 n c.loop-number-test.true) (subst (λ o. IsPut (record { device = c.args.name; interface = n }) o (get same_place l.positions) (get same_place c.put_position.new.positions)) c.position_in.ensures c.in_ok-put_position.ensures) l.invariant

pub returns : goal.returns
returns c =
    let l = c.loop-number in
    subst (λ xs. TakesPositions c.args.name xs (get same_place c.args.known.now) (get same_place c.args.positions.now) (get same_place l.positions)) (take_all l.number-index c.args.numbers.now c.loop-number-test.false) l.invariant
