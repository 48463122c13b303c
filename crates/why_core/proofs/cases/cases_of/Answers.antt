use Rattle.std.proofs.Common.{◌≡◌, ◌++◌, length, map, min, sym, ap, ◌∙◌, arith}
use Rattle.std.proofs.lemmas.List.{append-nil}
use Rattle.why_core.specs.Cases.{case_in}
use Rattle.why_core.proofs.CaseLemmas.{no_section}
use Rattle.why_core.proofs.cases.cases_of.Goals as goal

pub returns : goal.returns
returns c =
    let found = map case_in c.loop-i.found.items in
    let end : c.loop-i.i ≡ min (min (length c.args.sections.now) (length c.args.ingress.now)) (length c.args.groups.now) = omega arith in
    sym (append-nil found) ∙ ap (λ l. found ++ l) (sym (no_section c.args.sections.now c.args.ingress.now c.args.groups.now c.loop-i.i end)) ∙ c.loop-i.invariant
