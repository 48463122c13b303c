use Rattle.std.proofs.Common.{◌≡◌, ◌∙◌, ℕ, List, Option, Some, IsSome, false, true, slice_get, refl, sym, ap, subst}
use Rattle.net_types.specs.declared.label.Outcome.{Outcome}
use Rattle.net_types.specs.Report.{labels_if_other}
use Rattle.net_types.proofs.LabelLaws.{none_if_same, pair_if_other}
use Rattle.net_compare.proofs.pairs.number_of.Goals as goal

pub returns-then-same-clause-number : goal.returns-then-same-clause-number
returns-then-same-clause-number c = none_if_same c.args.old.now.label c.args.new.now.label (c.same.ensures.0 c.if-same.true)

pub returns-clause-number : goal.returns-clause-number
returns-clause-number c =
    let old = c.args.old.now.label in
    let new = c.args.new.now.label in
    let differ : labels_if_other old new ≡ Some (old, new) = pair_if_other old new (λ q. let both : false ≡ true = sym c.if-same.false ∙ c.same.ensures.1 q in absurd cc) in
    (differ ∙ sym c.in_ok-position.ensures.number ∙ ap (λ (n : ℕ). slice_get c.number_of.new.self n) (sym c.in_ok-number.ensures), subst (λ (o : Option (List Outcome × List Outcome)). IsSome o) (sym differ) refl)
