use Rattle.std.proofs.Common.{◌≡◌, arith, subst, ◌∙◌}
use Rattle.hdr_bits.specs.declared.header.Header.{Header}
use Rattle.hdr_bits.specs.HeaderBits.{number, IsHeader}
use Rattle.hdr_bits.specs.CubeBits.{IsIn}
use Rattle.net_types.specs.Walks.{label}
use Rattle.net_forms.specs.Worlds.{world_in}
use Rattle.transfer_rel.specs.CubeMoves.{SameSet}
use Rattle.region_walk.specs.Region.{Region}
use Rattle.region_walk.specs.Visits.{visits_at, outcomes_below}
use Rattle.region_walk.proofs.LevelLemmas.{some_outcomes, label_is}
use Rattle.region_walk.proofs.graph.Graph.label.Goals as goal

pub of-requires : goal.of-requires
of-requires c =
    let g = c.self.inside in
    let r = c.self.invariant in
    let t = c.args.ttl in
    let outs = c.in_ok-outcomes.outcomes.items in
    let same : SameSet outs (outcomes_below t (visits_at g.visits.items g.levels.items) t) =
    subst (λ ls. SameSet outs (outcomes_below t (visits_at g.visits.items ls) t)) c.deref-2.ensures.value
    (subst (λ vs. SameSet outs (outcomes_below t (visits_at vs c.deref-2.result.now) t)) c.deref.ensures.value c.in_ok-outcomes.ensures) in
    some_outcomes (world_in g.prepared.now g.version) g.cube r.base g.place 255 (visits_at g.visits.items g.levels.items) r.based r.all t c.requires (omega (arith, c.ranges.ttl.fits)) outs same

pub returns : goal.returns
returns c =
    let g = c.self.inside in
    let r = c.self.invariant in
    let t = c.args.ttl in
    let outs = c.in_ok-outcomes.outcomes.items in
    let same : SameSet outs (outcomes_below t (visits_at g.visits.items g.levels.items) t) =
    subst (λ ls. SameSet outs (outcomes_below t (visits_at g.visits.items ls) t)) c.deref-2.ensures.value
    (subst (λ vs. SameSet outs (outcomes_below t (visits_at vs c.deref-2.result.now) t)) c.deref.ensures.value c.in_ok-outcomes.ensures) in
    subst (λ (v : Region). (h : Header) → IsHeader h → IsIn v.cube (number h) → c.in_ok-label.label ≡ label v.world t v.place h) c.self.view_is
    (λ h i m. c.in_ok-label.ensures ∙ label_is (world_in g.prepared.now g.version) g.cube r.base g.place 255 (visits_at g.visits.items g.levels.items) r.all t (omega (arith, c.ranges.ttl.fits)) outs same h i m)
