use Rattle.std.proofs.Common.{◌≡◌, List, Vec, Global, length, map, ap, ◌∙◌, arith}
use Rattle.net_types.specs.declared.network.Section.{Section}
use Rattle.report_groups.specs.declared.types.Entry.{Entry}
use Rattle.why_core.specs.Cases.{agreeing, case_in, cases, ground_of}
use Rattle.why_core.proofs.Telling.{told_all}
use Rattle.why_core.proofs.explain.explanation.Goals as goal

pub returns : goal.returns
returns c =
    let g = ground_of c.args.basis.now in
    let sections = c.args.sections.now in
    let ingress = c.args.ingress.now in
    let groups = map (λ (v : Vec Entry Global). v.items) c.in_ok-groups.groups.items in
    let count = c.in_ok-count.ensures in
    let whole : agreeing g.report g.names sections ingress ≡ length sections = omega (arith, count.count, count.within_sections) in
    let each : agreeing g.report g.names sections ingress ≡ length ingress = omega (arith, count.count, count.within_ingress) in
    let gathered = ap (λ (gs : List (Vec Entry Global)). cases sections ingress (map (λ (v : Vec Entry Global). v.items) gs)) c.deref.ensures.value in
    told_all g ingress c.args.manner sections (record { whole_report = whole; whole_networks = each }) groups c.in_ok-groups.ensures (map case_in c.deref-2.result.now)
    (ap (map case_in) c.deref-2.ensures.value ∙ c.in_ok-cases.ensures ∙ gathered) c.told_of.result c.told_of.ensures
