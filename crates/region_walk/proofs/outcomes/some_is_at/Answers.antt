use Rattle.std.proofs.Common.{◌≡◌, false, true, subst, sym, ◌∙◌}
use Rattle.std.proofs.lemmas.List.{take_all}
use Rattle.net_types.specs.declared.label.Outcome.TheVariants.{Dropped}
use Rattle.net_types.specs.Questions.{HasOutcomeAt}
use Rattle.region_walk.proofs.OutcomeLemmas.{none_at, one_at, none_more}
use Rattle.region_walk.proofs.outcomes.some_is_at.Goals as goal

pub loop-outcome-init : goal.loop-outcome-init
loop-outcome-init c = none_at c.args.place

pub returns-then-is_at : goal.returns-then-is_at
returns-then-is_at c =
    let xs = c.args.outcomes.now in
    let k = c.loop-outcome.outcome-index in
    one_at c.args.place xs k Dropped c.loop-outcome-test.true (c.is_at.ensures.0 c.if-is_at.true)

pub loop-outcome-preserved : goal.loop-outcome-preserved
loop-outcome-preserved c =
    let xs = c.args.outcomes.now in
    let k = c.loop-outcome.outcome-index in
    none_more c.args.place xs k Dropped c.loop-outcome-test.true c.loop-outcome.invariant
    (λ a. let both : false ≡ true = sym c.if-is_at.false ∙ c.is_at.ensures.1 a in cc)

pub returns : goal.returns
returns c =
    let xs = c.args.outcomes.now in (
      λ e. absurd (let both : false ≡ true = e in cc),
      λ a. absurd (c.loop-outcome.invariant (subst (HasOutcomeAt c.args.place) (sym (take_all c.loop-outcome.outcome-index xs c.loop-outcome-test.false)) a)),
    )
