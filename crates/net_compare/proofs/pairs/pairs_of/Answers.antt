use Rattle.std.proofs.Common.{◌≡◌, ◌∙◌, ◌+◌, ◌++◌, ◌∷◌, [], Option, None, take, get_or, ap, sym, subst}
use Rattle.std.proofs.lemmas.List.{take_more}
use Rattle.std.specs.Option.{option_copied}
use Rattle.cube_diagram.specs.declared.paired.ValuePair.{ValuePair}
use Rattle.pair_rows.specs.Pairs.{Pair, IsNumberOf}
use Rattle.net_compare.specs.declared.classes.Classed.{Classed}
use Rattle.net_compare.specs.Classes.{IsOfStore, classed_at, differing, differing_at}
use Rattle.net_compare.proofs.RowLemmas.{told_more, longer}
use Rattle.net_compare.proofs.pairs.pairs_of.Goals as goal

abbrev none : ValuePair
none = record { first = None; second = None }

pub pair_of-requires-clause-old : goal.pair_of-requires-clause-old
pair_of-requires-clause-old c = subst (λ (o : Option Classed). IsOfStore c.args.classes.now.store o) (sym c.classed_at-before.ensures) (c.requires.old (get_or c.args.numbers.now c.loop-two.two-index none).first)

pub pair_of-requires-clause-new : goal.pair_of-requires-clause-new
pair_of-requires-clause-new c = subst (λ (o : Option Classed). IsOfStore c.args.classes.now.store o) (sym c.classed_at-after.ensures) (c.requires.new (get_or c.args.numbers.now c.loop-two.two-index none).second)

pub loop-two-preserved : goal.loop-two-preserved
loop-two-preserved c =
    let xs = c.args.numbers.now in
    let i = c.loop-two.two-index in
    let two : ValuePair = get_or xs i none in
    let old = c.args.old.now in
    let new = c.args.new.now in
    let more : take (i + 1) xs ≡ take i xs ++ two ∷ [] = take_more xs i none c.loop-two-test.true in
    let given : differing (option_copied c.classed_at-before.result) (option_copied c.classed_at-after.result) ≡ differing_at old new two = ap (λ (o : Option Classed). differing o (option_copied c.classed_at-after.result)) c.classed_at-before.ensures ∙ ap (λ (o : Option Classed). differing (classed_at old two.first) o) c.classed_at-after.ensures in
    let own : IsNumberOf c.pair_of.new.pairs c.in_ok-number.number (differing_at old new two) = subst (λ (q : Option Pair). IsNumberOf c.pair_of.new.pairs c.in_ok-number.number q) given c.in_ok-number.ensures.number in
    let all = told_more (differing_at old new) c.loop-two.pairs c.pair_of.new.pairs (take i xs) two c.loop-two.told.items c.in_ok-number.number c.in_ok-number.ensures.extends c.loop-two.invariant.count c.loop-two.invariant.told own in
    record {
      told = rw c.in_ok-push.ensures.items (rw more all);
      count = rw c.in_ok-push.ensures.items (rw more (longer (take i xs) two c.loop-two.told.items c.in_ok-number.number c.loop-two.invariant.count));
    }
