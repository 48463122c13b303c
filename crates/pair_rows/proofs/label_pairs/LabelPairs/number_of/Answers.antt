use Rattle.std.proofs.Common.{◌≡◌, List, map, refl, sym, subst, ◌∙◌}
use Rattle.std.specs.Prelude.{Decides}
use Rattle.std.proofs.lemmas.Bool.Decides.{Decides-and}
use Rattle.std.proofs.lemmas.Slice.Eq.{slice_eq-Decides}
use Rattle.net_types.specs.declared.label.Outcome.{Outcome}
use Rattle.net_types.proofs.Labels.{outcome_decides}
use Rattle.pair_rows.specs.declared.label_pairs.LabelPair.{LabelPair}
use Rattle.net_types.specs.contracts.label.OutcomePartialEq.TheImpl.{eq-value as outcome_eq}
use Rattle.pair_rows.specs.contracts.label_pairs.LabelPairPartialEq.TheImpl.{eq-value}
use Rattle.std.specs.Cmp.Lexicographic.{pointwise}
use Rattle.std.specs.List.{AllByRecursion, list_any}
use Rattle.net_types.specs.Order.{IsLabel}
use Rattle.pair_rows.proofs.ListLemmas.{recursion_inserted}
use Rattle.pair_rows.specs.Pairs.{AreLabels}
use Rattle.pair_rows.proofs.NumberLemmas.{item_at, distinct_items}
use Rattle.pair_rows.proofs.label_pairs.LabelPairs.number_of.Goals as goal

abbrev labels : LabelPair → List Outcome × List Outcome
labels k = (k.old.items, k.new.items)

same : (xs ys : List Outcome) → Decides (pointwise outcome_eq.it xs ys) (xs ≡ ys)
same xs ys = slice_eq-Decides outcome_decides xs ys (pointwise outcome_eq.it xs ys) refl

decides : (k l : LabelPair) → Decides (eq-value.it k l) (labels k ≡ labels l)
decides k l =
    let d = Decides-and (pointwise outcome_eq.it k.old.items l.old.items) (pointwise outcome_eq.it k.new.items l.new.items) (same k.old.items l.old.items) (same k.new.items l.new.items) in
    (λ h i. (let e = d.0 h in (e.0 i, e.1 i)), λ e. d.1 (λ i. (e i).0, λ i. (e i).1))

pub returns-clause-number : goal.returns-clause-number
returns-clause-number c =
    let s = c.in_ok-number.ensures.stored in
    let old = c.in_ok-to_vec.ensures.items_if_clones_equal (λ x y h. h) ∙ c.as_slice.ensures.same in
    let new = c.in_ok-to_vec-2.ensures.items_if_clones_equal (λ x y h. h) ∙ c.as_slice-2.ensures.same in
    let given : LabelPair = record { old = c.in_ok-to_vec.field-0; new = c.in_ok-to_vec-2.field-0 } in
    item_at labels eq-value.it decides c.insert_full.new.self.keys c.in_ok-number.number s.0 (c.args.old.now, c.args.new.now) s.1 (sym ((decides given s.0).0 s.2) ∙ λ i. (old i, new i))

pub returns-clause-distinct : goal.returns-clause-distinct
returns-clause-distinct c =
    distinct_items labels eq-value.it decides c.insert_full.new.self.keys c.insert_full.ensures.unique

pub invariant_of-self-2 : goal.invariant_of-self-2
invariant_of-self-2 c =
    let given : LabelPair = record { old = c.in_ok-to_vec.field-0; new = c.in_ok-to_vec-2.field-0 } in
    let old = c.in_ok-to_vec.ensures.items_if_clones_equal (λ x y h. h) in
    let new = c.in_ok-to_vec-2.ensures.items_if_clones_equal (λ x y h. h) in
    let are : AreLabels (labels given) = (subst IsLabel (sym (old ∙ c.as_slice.ensures.same)) c.as_slice.ensures.label, subst IsLabel (sym (new ∙ c.as_slice-2.ensures.same)) c.as_slice-2.ensures.label) in
    let keys : List LabelPair = c.self.inside.pairs.keys in (
      subst (λ (ks : List LabelPair). AllByRecursion AreLabels (map labels ks)) (sym c.in_ok-number.ensures.keys) (recursion_inserted labels AreLabels (list_any (eq-value.it given) keys) keys given are c.self.invariant.0),
      distinct_items labels eq-value.it decides c.insert_full.new.self.keys c.insert_full.ensures.unique,
    )
