use Rattle.std.proofs.Common.{rules, sym, ◌∙◌}
use Rattle.report_text.proofs.Cuts.{cut_some, cut_none}
use Rattle.view_core.proofs.cuts.cut.Goals as goal

pub returns-in-Some : goal.returns-in-Some
returns-in-Some c =
    let front = c.around.ensures.front in
    let back = c.around.ensures.back in
    (λ i. (front i, back i)) ∙ cut_some 32 c.in-Some.at c.args.bytes.now (search rules)

pub returns-in-None : goal.returns-in-None
returns-in-None c = sym (cut_none 32 c.args.bytes.now (search rules))
