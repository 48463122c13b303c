-- Which drafts the table of drafts takes for equal.
use Rattle.std.proofs.Common.{◌≡◌, Bool, true≢false, List, [], ◌∷◌, map, Vec, Global, refl, sym, ap}
use Rattle.std.specs.Prelude.{Decides}
use Rattle.std.specs.Cmp.Lexicographic.{pointwise}
use Rattle.std.proofs.lemmas.Bool.Decides.{Decides-and, Decides-eqb}
use Rattle.std.proofs.lemmas.Slice.Eq.{slice_eq-Decides}
use Rattle.net_types.specs.declared.label.Outcome.{Outcome}
use Rattle.net_types.proofs.Labels.{outcome_decides}
use Rattle.net_types.specs.contracts.label.OutcomePartialEq.TheImpl.{eq-value as outcome_eq}
use Rattle.report_groups.specs.declared.types.Pattern.{Pattern}
use Rattle.report_groups.specs.declared.types.Draft.{Draft}
use Rattle.report_groups.specs.contracts.types.PatternPartialEq.TheImpl.{eq-value as pattern_eq}
use Rattle.report_groups.specs.contracts.types.DraftPartialEq.TheImpl.{eq-value}
use Rattle.report_groups.specs.Drafts.{shown}

pattern_decides : (a b : Pattern) → Decides (pattern_eq.it a b) (a ≡ b)
pattern_decides a b =
    let d = Decides-and _ _ (Decides-eqb a.fixed b.fixed) (Decides-eqb a.bits b.bits) in
    (λ h i. (let e = d.0 h in record { fixed = e.0 i; bits = e.1 i }), λ e. d.1 (ap (λ p. p.fixed) e, ap (λ p. p.bits) e))

patterns_decide : (xs ys : List Pattern) → Decides (pointwise pattern_eq.it xs ys) (xs ≡ ys)
patterns_decide xs ys = slice_eq-Decides pattern_decides xs ys (pointwise pattern_eq.it xs ys) refl

outcomes_decide : (xs ys : List Outcome) → Decides (pointwise outcome_eq.it xs ys) (xs ≡ ys)
outcomes_decide xs ys = slice_eq-Decides outcome_decides xs ys (pointwise outcome_eq.it xs ys) refl

abbrev inner : Vec Pattern Global → Vec Pattern Global → Bool
inner a b = pointwise pattern_eq.it a.items b.items

abbrev lists : List (Vec Pattern Global) → List (List Pattern)
lists xs = map (λ f. f.items) xs

fields_decide : (xs ys : List (Vec Pattern Global)) → Decides (pointwise inner xs ys) (lists xs ≡ lists ys)
fields_decide [] [] = (λ h. refl, λ e. refl)
fields_decide [] (y ∷ ys) = (λ h. absurd (true≢false (sym h)), λ e. absurd cc)
fields_decide (x ∷ xs) [] = (λ h. absurd (true≢false (sym h)), λ e. absurd cc)
fields_decide (x ∷ xs) (y ∷ ys) =
    let d = Decides-and (inner x y) (pointwise inner xs ys) (patterns_decide x.items y.items) (fields_decide xs ys) in
    (λ h. (let e = d.0 h in λ i. e.0 i ∷ e.1 i), λ e. d.1 (cc, cc))

pub draft_decides : (k l : Draft) → Decides (eq-value.it k l) (shown k ≡ shown l)
draft_decides k l =
    let d = Decides-and (pointwise inner k.fields.items l.fields.items) _ (fields_decide k.fields.items l.fields.items)
    (Decides-and (pointwise outcome_eq.it k.before.items l.before.items) (pointwise outcome_eq.it k.after.items l.after.items) (outcomes_decide k.before.items l.before.items) (outcomes_decide k.after.items l.after.items)) in
    (λ h i. (let e = d.0 h in record { fields = e.0 i; old = e.1.0 i; new = e.1.1 i }), λ e. d.1 (ap (λ g. g.fields) e, (ap (λ g. g.old) e, ap (λ g. g.new) e)))
