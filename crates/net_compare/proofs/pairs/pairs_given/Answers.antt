use Rattle.std.proofs.Common.{◌≡◌, ◌∙◌, List, Option, sym, ap, subst}
use Rattle.std.specs.Prelude.{option_map}
use Rattle.cube_diagram.specs.Functions.{value_at}
use Rattle.net_types.specs.declared.label.Outcome.{Outcome}
use Rattle.pair_rows.specs.Pairs.{Pair, IsNumberOf}
use Rattle.set_walk.specs.declared.numbers.OutcomeList.{OutcomeList}
use Rattle.net_compare.specs.declared.classes.Classed.{Classed}
use Rattle.net_compare.specs.Classes.{AreClassed, AreOfStore, classed_at, differing_at}
use Rattle.net_compare.specs.Rows.{label_at, labels_at, pair_if_other}
use Rattle.net_compare.proofs.ClassLemmas.{classed_of_store, label_of_classed}
use Rattle.net_compare.proofs.pairs.pairs_given.Goals as goal

pub pairs_classed-requires-clause-of_old : goal.pairs_classed-requires-clause-of_old
pairs_classed-requires-clause-of_old c =
    let store = c.args.classes.now.store in
    subst (λ (cs : List (Option Classed)). AreOfStore store cs) (sym c.deref-3.ensures.value) (classed_of_store store c.deref.result.now c.in_ok-before.before.items c.in_ok-before.ensures)

pub pairs_classed-requires-clause-of_new : goal.pairs_classed-requires-clause-of_new
pairs_classed-requires-clause-of_new c =
    let store = c.args.classes.now.store in
    subst (λ (cs : List (Option Classed)). AreOfStore store cs) (sym c.deref-4.ensures.value) (classed_of_store store c.deref-2.result.now c.in_ok-after.after.items c.in_ok-after.ensures)

pub returns-clause-given : goal.returns-clause-given
returns-clause-given c =
    let fs = c.args.table.now in
    let store = c.args.classes.now.store in
    let old = c.args.old.now in
    let new = c.args.new.now in
    let before = c.deref-3.result.now in
    let after = c.deref-4.result.now in
    let old_are : AreClassed store old.labels.items before = subst (λ (cs : List (Option Classed)). AreClassed store old.labels.items cs) (sym c.deref-3.ensures.value) (subst (λ (ls : List OutcomeList). AreClassed store ls c.in_ok-before.before.items) c.deref.ensures.value c.in_ok-before.ensures) in
    let new_are : AreClassed store new.labels.items after = subst (λ (cs : List (Option Classed)). AreClassed store new.labels.items cs) (sym c.deref-4.ensures.value) (subst (λ (ls : List OutcomeList). AreClassed store ls c.in_ok-after.after.items) c.deref-2.ensures.value c.in_ok-after.ensures) in
    let given = c.in_ok-given.given in
    record {
      each = λ h l.
          let x = value_at fs old.function h in
          let y = value_at fs new.function h in
          let labels : differing_at before after (record { first = x; second = y }) ≡ labels_at fs old new h = ap (λ (o : Option (List Outcome)). pair_if_other o (option_map (λ (c : Classed). c.label) (classed_at after y))) (label_of_classed store old.labels.items before old_are x (c.requires.some_old h l)) ∙ ap (λ (o : Option (List Outcome)). pair_if_other (label_at old.labels.items x) o) (label_of_classed store new.labels.items after new_are y (c.requires.some_new h l)) in
          subst (λ (q : Option Pair). IsNumberOf given.pairs (value_at given.table given.function h) q) labels (c.in_ok-given.ensures.given.each h l);
    }
