use Rattle.std.proofs.Common.{◌≡◌, List, Some, map, slice_get, sym, ap, subst, ◌∙◌}
use Rattle.std.specs.Prelude.{option_map}
use Rattle.std.proofs.lemmas.Option.{slice_get-map}
use Rattle.net_types.specs.declared.label.Outcome.{Outcome}
use Rattle.net_types.specs.Order.{IsLabel}
use Rattle.pair_rows.specs.declared.label_pairs.LabelPair.{LabelPair}
use Rattle.pair_rows.specs.Pairs.{AreLabels}
use Rattle.pair_rows.proofs.NumberLemmas.{holds_at}
use Rattle.pair_rows.proofs.label_pairs.LabelPairs.get.Goals as goal

abbrev labels : LabelPair → List Outcome × List Outcome
labels k = (k.old.items, k.new.items)

found : (ks : List LabelPair) (n : _) (k : LabelPair) → Some k ≡ slice_get ks n → slice_get (map labels ks) n ≡ Some (labels k)
found ks n k e = slice_get-map labels ks n ∙ ap (option_map labels) (sym e)

pub label_of-requires : goal.label_of-requires
label_of-requires c =
    let at = found c.self.inside.pairs.keys c.args.number c.in-Some.pair.now c.in-Some.ensures.key in
    let both = holds_at AreLabels (map labels c.self.inside.pairs.keys) c.args.number (labels c.in-Some.pair.now) c.self.invariant.0 at in
    subst IsLabel (sym c.deref.ensures.value) both.0

pub label_of-requires-2 : goal.label_of-requires-2
label_of-requires-2 c =
    let at = found c.self.inside.pairs.keys c.args.number c.in-Some.pair.now c.in-Some.ensures.key in
    let both = holds_at AreLabels (map labels c.self.inside.pairs.keys) c.args.number (labels c.in-Some.pair.now) c.self.invariant.0 at in
    subst IsLabel (sym c.deref-2.ensures.value) both.1

pub returns : goal.returns
returns c =
    let at = found c.self.inside.pairs.keys c.args.number c.in-Some.pair.now c.in-Some.ensures.key in
    let old = c.in_ok-old.ensures ∙ c.deref.ensures.value in
    let new = c.in_ok-new.ensures ∙ c.deref-2.ensures.value in
    (λ i. Some (old i, new i)) ∙ sym at ∙ ap (λ pairs. slice_get pairs c.args.number) c.self.view_is
