use Rattle.std.proofs.Common.{map, take, subst, take_all}
use Rattle.fib_lookup.specs.Forms.{hop_of}
use Rattle.net_types.specs.Moves.{move_by}
use Rattle.net_view.specs.Borrowed.{seat_of}
use Rattle.place_ways.specs.Adding.{AddsWays, MakesAny}
use Rattle.place_ways.proofs.SetLemmas.{keeps_same, keeps_then, kept_below}
use Rattle.place_ways.proofs.FateLemmas.{at_kept, choices_more, choices_none, choice_added}
use Rattle.place_ways.proofs.forward.add_choices.Goals as goal

pub loop-form-init : goal.loop-form-init
loop-form-init c =
    record {
      kept = keeps_same c.args.table.now;
      added = choices_none c.args.table.now c.args.given c.args.ways.now.ways.items c.requires.ways;
    }

pub add_choice-requires-clause-at : goal.add_choice-requires-clause-at
add_choice-requires-clause-at c = at_kept c.args.table.now c.loop-form.table c.args.at c.loop-form.invariant.kept c.requires.at

pub add_choice-requires-clause-given : goal.add_choice-requires-clause-given
add_choice-requires-clause-given c = kept_below c.args.table.now c.loop-form.table c.args.given c.loop-form.invariant.kept c.requires.given

pub add_choice-requires-clause-ways : goal.add_choice-requires-clause-ways
add_choice-requires-clause-ways c = c.loop-form.invariant.added.given

pub loop-form-preserved : goal.loop-form-preserved
loop-form-preserved c =
    let w = c.args.at.wiring.now in
    let seat = seat_of c.args.at.seat in
    let xs = c.args.choices.now in
    let i = c.loop-form.form-index in
    let e = c.in_ok-add_choice.ensures in
    record {
      kept = keeps_then c.args.table.now c.loop-form.table c.add_choice.new.table c.loop-form.invariant.kept e.kept;
      added = choice_added c.args.table.now c.loop-form.table c.add_choice.new.table c.args.given (λ g. map (move_by w seat g) (map (hop_of g.dst) (take i xs))) _ (λ g. move_by w seat g (hop_of g.dst c.form-item.result)) c.args.ways.now.ways.items c.loop-form.ways.ways.items c.add_choice.new.ways.ways.items c.loop-form.invariant.kept c.requires.given (λ g. choices_more (move_by w seat g) g.dst xs i c.form-item.result c.loop-form-test.true c.form-item.is) c.loop-form.invariant.added e.added;
    }

pub returns-clause-added : goal.returns-clause-added
returns-clause-added c =
    let w = c.args.at.wiring.now in
    let seat = seat_of c.args.at.seat in
    subst (λ xs. AddsWays c.args.table.now c.loop-form.table (MakesAny c.args.table.now c.args.given (λ g. map (move_by w seat g) (map (hop_of g.dst) xs))) c.args.ways.now.ways.items c.loop-form.ways.ways.items) (take_all c.loop-form.form-index c.args.choices.now c.loop-form-test.false) c.loop-form.invariant.added
