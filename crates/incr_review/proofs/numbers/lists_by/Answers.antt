use Rattle.std.proofs.Common.{◌∙◌, map, take_all, ap, None, get_or}
use Rattle.std.proofs.lemmas.List.{get_or_default}
use Rattle.cube_diagram.specs.declared.paired.ValuePair.{ValuePair}
use Rattle.incr_review.specs.FactNumbers.{facts_of_pair}
use Rattle.incr_review.proofs.FactLemmas.{items_of, at_pair, pairs_more}
use Rattle.incr_review.proofs.numbers.lists_by.Goals as goal

pub loop-pair-init : goal.loop-pair-init
loop-pair-init c = ap (map items_of) c.new-lists.ensures.items

pub loop-pair-preserved : goal.loop-pair-preserved
loop-pair-preserved c =
    let ps = c.args.pairs.now in
    let i = c.loop-pair.pair-index in
    let d : ValuePair = record { first = None; second = None } in
    let p : ValuePair = get_or ps i d in
    ap (map items_of) c.in_ok-push.ensures.items ∙ pairs_more c.args.first.now c.args.second.now c.loop-pair.lists.items c.in_ok-list.list ps i p c.loop-pair-test.true (get_or_default ps i d p c.loop-pair-test.true) c.loop-pair.invariant c.in_ok-list.ensures

pub returns : goal.returns
returns c =
    at_pair c.args.first.now c.args.second.now c.loop-pair.lists.items c.args.pairs.now (c.loop-pair.invariant ∙ ap (map (facts_of_pair c.args.first.now c.args.second.now)) (take_all c.loop-pair.pair-index c.args.pairs.now c.loop-pair-test.false))
