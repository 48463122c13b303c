use Rattle.std.proofs.Common.{ap, ◌∙◌, ◌++◌}
use Rattle.std.specs.Prelude.{decimal}
use Rattle.json_text.proofs.Joined.{four_more}
use Rattle.audit_view.specs.ShownText.{lists_text}
use Rattle.audit_view.proofs.text.append_list_counts.Goals as goal

pub returns : goal.returns
unfolding lists_text
returns c =
    let counted = c.in_ok-append_number-2.ensures ∙ ap (λ n. c.append-2.new.out.items ++ decimal n) c.lists_with_findings.ensures in
    four_more _ _ _ _ _ _ _ _ _ c.in_ok-append.ensures c.in_ok-append_number.ensures c.in_ok-append-2.ensures counted
