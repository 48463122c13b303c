use Rattle.std.proofs.Common.{◌≡◌, ◌∷◌, [], ◌++◌, false, true, sym, subst, ◌∙◌, arith}
use Rattle.std.specs.Prelude.{flat_map, nat_eq}
use Rattle.std.specs.List.{list_any}
use Rattle.transfer_rel.specs.CubeMoves.{SameSet}
use Rattle.region_walk.specs.Lists.{items_at}
use Rattle.region_walk.specs.Visits.{next_numbers}
use Rattle.region_walk.proofs.SetLemmas.{same_if}
use Rattle.region_walk.proofs.ReturnLemmas.{turn, found, none_left, none_found}
use Rattle.region_walk.proofs.Turns.{empty_if}
use Rattle.region_walk.proofs.returns.comes_back.Goals as goal

pub loop-n-init : goal.loop-n-init
loop-n-init c = record {
  states = same_if c.push.new.self.items (c.args.state ∷ []) (c.in_ok-push.ensures.items ∙ (λ i. c.new-states.ensures.items i ++ (c.args.state ∷ [])));
  none = λ m some none k. absurd (omega (arith, some, none));
}

pub returns-then-contains : goal.returns-then-contains
returns-then-contains c =
    let vs = c.args.visits.now in
    let next = c.in_ok-states.states.items in
    let more : SameSet next (flat_map next_numbers (items_at vs c.loop-n.states.items)) = subst (λ ns. SameSet next (flat_map next_numbers (items_at vs ns))) c.deref.ensures.value c.in_ok-states.ensures in
    let there : list_any (λ y. nat_eq y c.args.state) next ≡ true = subst (λ ns. list_any (λ y. nat_eq y c.args.state) ns ≡ true) c.deref-in-loop-n.ensures.value (sym c.contains.ensures.value ∙ c.if-contains.true) in
    found vs c.args.state c.loop-n._n c.loop-n.states.items next c.loop-n.invariant.states c.loop-n.invariant.none more c.args.limit c.loop-n-test.true there

pub returns-then-len-eq0 : goal.returns-then-len-eq0
returns-then-len-eq0 c =
    let vs = c.args.visits.now in
    let next = c.in_ok-states.states.items in
    let more : SameSet next (flat_map next_numbers (items_at vs c.loop-n.states.items)) = subst (λ ns. SameSet next (flat_map next_numbers (items_at vs ns))) c.deref.ensures.value c.in_ok-states.ensures in
    let none : list_any (λ y. nat_eq y c.args.state) next ≡ false = subst (λ ns. list_any (λ y. nat_eq y c.args.state) ns ≡ false) c.deref-in-loop-n.ensures.value (sym c.contains.ensures.value ∙ c.if-contains.false) in
    none_left vs c.args.state c.loop-n._n c.loop-n.states.items next c.loop-n.invariant.states c.loop-n.invariant.none more c.args.limit none
    (empty_if next (omega (arith, c.in_ok-states.states.ok.0, c.len.ensures, c.if-len-eq0.true)))

pub loop-n-preserved : goal.loop-n-preserved
loop-n-preserved c =
    let vs = c.args.visits.now in
    let next = c.in_ok-states.states.items in
    let more : SameSet next (flat_map next_numbers (items_at vs c.loop-n.states.items)) = subst (λ ns. SameSet next (flat_map next_numbers (items_at vs ns))) c.deref.ensures.value c.in_ok-states.ensures in
    let none : list_any (λ y. nat_eq y c.args.state) next ≡ false = subst (λ ns. list_any (λ y. nat_eq y c.args.state) ns ≡ false) c.deref-in-loop-n.ensures.value (sym c.contains.ensures.value ∙ c.if-contains.false) in
    let both = turn vs c.args.state c.loop-n._n c.loop-n.states.items next c.loop-n.invariant.states c.loop-n.invariant.none more none in
    record { states = both.0; none = both.1 }

pub returns : goal.returns
returns c = none_found c.args.visits.now c.args.state c.loop-n._n c.args.limit (omega (arith, c.loop-n-test.false)) c.loop-n.invariant.none
