use Rattle.std.proofs.Common.{◌≡◌, ◌↔◌, subst, ◌∙◌}
use Rattle.std.specs.Prelude.{IsTrue}
use Rattle.net_types.specs.Walks.{label}
use Rattle.net_types.specs.Questions.{HasOutcomeAt}
use Rattle.net_types.proofs.QuestionLaws.{reaches_by_label}
use Rattle.region_walk.proofs.graph.Graph.ends_at.Goals as goal

pub returns : goal.returns
returns c = λ h i m.
    let g = c.args.self.now in
    let q = c.args.place in
    let law = reaches_by_label g.world c.args.ttl g.place q h in
    let e : c.as_slice.result.now ≡ label g.world c.args.ttl g.place h = c.as_slice.ensures.same ∙ c.in_ok-label.ensures h i m in
    let told = subst (λ l. IsTrue c.some_is_at-ends.result ↔ HasOutcomeAt q l) e c.some_is_at-ends.ensures in
    (λ t. law.1 (told.0 t), λ r. told.1 (law.0 r))
