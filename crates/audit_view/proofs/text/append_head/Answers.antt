use Rattle.std.proofs.Common.{ap, ◌∙◌, ◌++◌}
use Rattle.std.specs.Prelude.{decimal}
use Rattle.json_text.proofs.Joined.{two_more, four_more}
use Rattle.audit_view.specs.declared.groups.Group.TheVariants as group
use Rattle.audit_view.specs.Shown.{total}
use Rattle.audit_view.specs.ShownText.{kinds_text, head_text}
use Rattle.audit_view.proofs.text.append_head.Goals as goal

pub returns : goal.returns
unfolding head_text
returns c =
    let before = c.append_list_counts.new.out.items in
    let kinds =
    c.in_ok-append_kinds.ensures
    ∙ ap (λ n. before ++ kinds_text n c.total-2.result) c.total.ensures
    ∙ ap (λ n. before ++ kinds_text (total group.Dead c.args.audited.now) n) c.total-2.ensures in
    let closing = c.in_ok-append_number.ensures ∙ ap (λ n. c.append.new.out.items ++ decimal n) c.total-3.ensures in
    two_more _ _ _ _ _ (four_more _ _ _ _ _ _ _ _ _ c.in_ok-append_list_counts.ensures kinds c.in_ok-append.ensures closing) c.in_ok-append-2.ensures
