use Rattle.std.proofs.Common.{◌↔◌, subst, arith}
use Rattle.std.specs.Prelude.{IsTrue}
use Rattle.hdr_bits.specs.declared.header.Header.{Header}
use Rattle.hdr_bits.specs.HeaderBits.{number, IsHeader}
use Rattle.hdr_bits.specs.CubeBits.{IsIn}
use Rattle.net_types.specs.Visits as visiting
use Rattle.net_forms.specs.Worlds.{world_in}
use Rattle.region_walk.specs.Region.{Region}
use Rattle.region_walk.specs.Devices.{IsMet}
use Rattle.region_walk.proofs.DeviceLemmas.{met_is_visited}
use Rattle.region_walk.proofs.graph.Graph.visits.Goals as goal

pub returns : goal.returns
returns c =
    let g = c.self.inside in
    let t = c.args.ttl in
    let d = c.args.device in
    let b = c.is_met.result in
    let told : IsTrue b ↔ IsMet g.visits.items g.levels.items t d =
    subst (λ ls. IsTrue b ↔ IsMet g.visits.items ls t d) c.deref-2.ensures.value
    (subst (λ vs. IsTrue b ↔ IsMet vs c.deref-2.result.now t d) c.deref.ensures.value c.is_met.ensures) in
    subst (λ (v : Region). (h : Header) → IsHeader h → IsIn v.cube (number h) → IsTrue b ↔ visiting.Visits v.world t v.place h d) c.self.view_is
    (λ h i m.
    let both = met_is_visited (world_in g.prepared.now g.version) g.cube g.place g.visits.items g.levels.items c.self.invariant h i m t d (omega (arith, c.ranges.ttl.fits)) in
    (λ e. both.0 (told.0 e), λ v. told.1 (both.1 v)))
