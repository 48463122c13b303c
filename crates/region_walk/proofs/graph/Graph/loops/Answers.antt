use Rattle.std.proofs.Common.{◌≡◌, ◌↔◌, ◌-◌, false, true, [], sym, ap, subst, ◌∙◌, arith}
use Rattle.std.specs.Prelude.{IsTrue}
use Rattle.hdr_bits.specs.declared.header.Header.{Header}
use Rattle.hdr_bits.specs.HeaderBits.{number, IsHeader}
use Rattle.hdr_bits.specs.CubeBits.{IsIn}
use Rattle.net_types.specs.Questions.{Loops}
use Rattle.net_forms.specs.Worlds.{world_in}
use Rattle.region_walk.specs.Region.{Region}
use Rattle.region_walk.specs.Returns.{HasLoop}
use Rattle.region_walk.specs.Visits.{states_at}
use Rattle.region_walk.proofs.ReturnLemmas.{loops_are, none_at_end}
use Rattle.region_walk.proofs.Turns.{empty_if}
use Rattle.region_walk.proofs.graph.Graph.loops.Goals as goal

pub returns-then-states_at-eq0 : goal.returns-then-states_at-eq0
returns-then-states_at-eq0 c =
    let g = c.self.inside in
    let w = world_in g.prepared.now g.version in
    let t = c.args.ttl in
    let none : states_at g.levels.items (t - 1) ≡ [] =
    ap (λ ls. states_at ls (t - 1)) (sym c.deref.ensures.value) ∙ sym c.states_at.ensures ∙ empty_if c.states_at.result.now (omega (arith, c.if-states_at-eq0.true)) in
    subst (λ (v : Region). (h : Header) → IsHeader h → IsIn v.cube (number h) → IsTrue false ↔ Loops v.world t v.place h) c.self.view_is
    (λ h i m. (
      λ e. absurd (let both : false ≡ true = e in cc),
      λ f. absurd (none_at_end w g.cube g.place g.visits.items g.levels.items c.self.invariant h i m t (t - 1) (omega (arith, c.ranges.ttl.fits)) none f),
    ))

pub returns : goal.returns
returns c =
    let g = c.self.inside in
    let w = world_in g.prepared.now g.version in
    let t = c.args.ttl in
    let b = c.in_ok-found.found in
    let told : IsTrue b ↔ HasLoop g.visits.items g.levels.items (t - 1) =
    subst (λ ls. IsTrue b ↔ HasLoop g.visits.items ls (t - 1)) c.deref-3.ensures.value
    (subst (λ vs. IsTrue b ↔ HasLoop vs c.deref-3.result.now (t - 1)) c.deref-2.ensures.value c.in_ok-found.ensures) in
    subst (λ (v : Region). (h : Header) → IsHeader h → IsIn v.cube (number h) → IsTrue b ↔ Loops v.world t v.place h) c.self.view_is
    (λ h i m.
    let both = loops_are w g.cube g.place g.visits.items g.levels.items c.self.invariant h i m t (omega (arith, c.ranges.ttl.fits)) in
    (λ e. both.0 (told.0 e), λ l. told.1 (both.1 l)))
