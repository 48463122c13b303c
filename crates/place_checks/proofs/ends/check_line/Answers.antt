use Rattle.std.proofs.Common.{◌++◌, ap, ◌∙◌, arith}
use Rattle.std.specs.Prelude.{flat_map}
use Rattle.std.proofs.lemmas.List.{take_all}
use Rattle.topo_links.specs.Ends.{End}
use Rattle.place_checks.specs.Findings.{Sight, sight_of, sight_findings, end_findings, ends_findings}
use Rattle.place_checks.specs.Sights.{pair_of, seen}
use Rattle.place_checks.proofs.Lines.{beside_first}
use Rattle.place_checks.proofs.ends.check_line.Goals as goal

pub returns : goal.returns
returns c =
    let p = pair_of c.args.nets in
    let n = c.args.line.now.line in
    let xs = c.as_slice-ends.result.now in
    let before = c.args.found.now.items in
    let found = λ (s : Sight) (e : End). sight_findings p s (sight_of p s.line e) in
    c.loop-end.invariant
    ∙ ap (λ es. before ++ flat_map (found (seen c.see-first.result)) es) (take_all c.loop-end.end-index xs (omega arith))
    ∙ ap (λ s. before ++ flat_map (found s) xs) c.see-first.ensures
    ∙ ap (λ e. before ++ flat_map (end_findings p n e) xs) c.place_at.ensures
    ∙ ap (λ es. before ++ es) (beside_first p n xs c.first-item.result (omega arith) c.first-item.is)
    ∙ ap (λ es. before ++ ends_findings p n es) c.as_slice-ends.ensures
