use Rattle.std.proofs.Common.{ℕ, List, ◌++◌, Vec, Global, ap, map, ◌∙◌}
use Rattle.why_core.specs.Cases.{case_in, ground_of}
use Rattle.why_core.specs.Shown.{case_shown}
use Rattle.why_core.proofs.Telling.{none_wrong}
use Rattle.why_core.proofs.explain.told_of.Goals as goal

pub returns-in-None : goal.returns-in-None
returns-in-None c =
    let given = ap (λ (vs : List (Vec ℕ Global)). map (λ v. v.items) vs) c.deref.ensures.value in
    let each = map (case_shown c.args.manner.format (ground_of c.args.basis.now)) (map case_in c.explained-some.result.now) in
    let from_none = ap (λ (vs : List (Vec ℕ Global)). map (λ v. v.items) vs ++ each) c.new-told.ensures.items in
    none_wrong (ground_of c.args.basis.now) c.args.manner c.args.cases.now c.explained-some.result.now (map (λ v. v.items) c.deref.result.now) c.in_ok-text-in-None.text.items
    c.explained-some.ensures (given ∙ c.in_ok-add_cases.ensures.told c.in-None.is ∙ from_none) c.in_ok-text-in-None.ensures (c.in_ok-add_cases.ensures.right c.in-None.is)
