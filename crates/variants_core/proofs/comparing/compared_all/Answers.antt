use Rattle.std.proofs.Common.{◌≡◌, ◌∙◌, ◌+◌, ◌++◌, List, ap, drop, length, subst, take}
use Rattle.net_types.specs.declared.config.Loaded.{Loaded}
use Rattle.net_types.specs.World.{World}
use Rattle.variants_core.specs.Report.{IsWritten, base_world, devices_of}
use Rattle.variants_core.proofs.ReportLemmas.{back_is, compared_more, devices_at, devices_from, front_is}
use Rattle.variants_core.proofs.comparing.compared_all.Goals as goal

pub loop-variant-preserved : goal.loop-variant-preserved
loop-variant-preserved g c =
    let n = c.args.numbered.now in
    let variants = c.args.variants.now in
    let l = c.loop-variant in
    let i = l.variant-index in
    let v = c.variant-item.result in
    let test = c.loop-variant-test.true in
    let item = c.variant-item.is in
    let own = c.split_at.result.0.now in
    let later = devices_from n variants (i + 1) in
    let rest : l.rest.now ≡ devices_of n v ++ later = l.invariant.rest ∙ devices_at n variants i v test item in
    let cut = ap (λ (ls : List Loaded). length ls) c.as_slice.ensures in
    let front : own ≡ devices_of n v = c.split_at.ensures.front ∙ (ap (λ k. take k l.rest.now) cut ∙ front_is n v l.rest.now later rest) in
    let back : c.split_at.result.1.now ≡ later = c.split_at.ensures.back ∙ (ap (λ k. drop k l.rest.now) cut ∙ back_is n v l.rest.now later rest) in
    let written = subst (λ (w : World). IsWritten w v.name own n.names l.body c.compare_one.new.body) l.invariant.base c.in_ok-compare_one.ensures.written in
    record {
      compared = compared_more n variants i v l.body c.compare_one.new.body own test item l.invariant.compared front written;
      rest = back;
      base = c.in_ok-compare_one.ensures.same ∙ l.invariant.base;
    }
