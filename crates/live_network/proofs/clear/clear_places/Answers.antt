use Rattle.std.proofs.Common.{take_all, get_or, subst}
use Rattle.std.proofs.lemmas.List.{get_or_default}
use Rattle.indexmap.specs.IndexMap.{get}
use Rattle.net_types.specs.World.{same_place}
use Rattle.live_network.specs.Clearing.{Clears}
use Rattle.live_network.proofs.ClearLemmas.{clears_more, clears_none}
use Rattle.live_network.proofs.clear.clear_places.Goals as goal

pub loop-number-init : goal.loop-number-init
loop-number-init c = clears_none c.args.device (get same_place c.args.positions.now)

pub loop-number-preserved : goal.loop-number-preserved
loop-number-preserved c =
    let l = c.loop-number in
    let xs = c.args.numbers.now in
    let n = get_or xs l.number-index 0 in
    clears_more c.args.device xs l.number-index n (get same_place c.args.positions.now) (get same_place l.positions) (get same_place c.clear_place.new.positions) c.loop-number-test.true (get_or_default xs l.number-index 0 n c.loop-number-test.true) c.clear_place.ensures l.invariant

pub returns : goal.returns
returns c =
    let l = c.loop-number in
    subst (λ xs. Clears c.args.device xs (get same_place c.args.positions.now) (get same_place l.positions)) (take_all l.number-index c.args.numbers.now c.loop-number-test.false) l.invariant
