use Rattle.std.proofs.Common.{map, sym, ◌∙◌}
use Rattle.std.proofs.lemmas.List.{length-map}
use Rattle.std.proofs.lemmas.List.Sorted.{IsPermutation-trans}
use Rattle.report_groups.specs.Drafts.{shown}
use Rattle.report_groups.proofs.Joins.{settles_more}
use Rattle.report_groups.proofs.groups.settle.Goals as goal

pub returns-then-len-before : goal.returns-then-len-before
returns-then-len-before c =
    settles_more (map shown c.args.drafts.items) (map shown c.loop-drafts.drafts.items) (map shown c.in_ok-drafts.drafts.items) c.loop-drafts.invariant.0 c.loop-drafts.invariant.1 c.in_ok-drafts.ensures
    (length-map c.in_ok-drafts.drafts.items shown ∙ (sym c.in_ok-drafts.drafts.ok.0 ∙ sym c.len.ensures ∙ c.if-len-before.true ∙ c.len-before.ensures ∙ c.loop-drafts.drafts.ok.0) ∙ sym (length-map c.loop-drafts.drafts.items shown))

pub loop-drafts-preserved : goal.loop-drafts-preserved
loop-drafts-preserved c = (IsPermutation-trans _ _ _ c.loop-drafts.invariant.0 c.in_ok-drafts.ensures.same, λ h. c.in_ok-drafts.ensures.some (c.loop-drafts.invariant.1 h))
