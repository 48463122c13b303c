use Rattle.std.proofs.Common.{◌≡◌, ◌++◌, ap, ◌∙◌, codes}
use Rattle.std.specs.List.{join_by}
use Rattle.json_text.specs.Json.{string_member}
use Rattle.json_text.proofs.Joined.{two_more, four_more}
use Rattle.audit_view.specs.declared.groups.Group.TheVariants as group
use Rattle.result_text.specs.AuditText.{kind_name}
use Rattle.audit_view.specs.Audited.{is_dead}
use Rattle.audit_view.specs.Shown.{is_in}
use Rattle.audit_view.specs.ShownJson.{entry_members, taken_json, bool_text, finding_json}
use Rattle.audit_view.proofs.json.append_finding.Goals as goal

pub returns : goal.returns
unfolding finding_json
returns c =
    let o = c.args.out.now.items in
    let l = c.args.list.now in
    let f = c.args.finding.now in
    let kind = c.in_ok-append_member.ensures ∙ ap (λ name. c.append-2.new.out.items ++ string_member (codes "kind") name) c.kind_name.ensures in
    let closing =
    c.in_ok-append-4.ensures
    ∙ ap (λ text. c.append-3.new.out.items ++ text) c.bool_text.ensures
    ∙ ap (λ is. c.append-3.new.out.items ++ bool_text is) c.is_in.ensures in
    let taken = c.in_ok-append_all_taken.ensures ∙ ap (λ xs. c.append-5.new.out.items ++ join_by (taken_json c.args.rows l) (codes ", ") xs) c.as_slice.ensures in
    let four = codes "{" ++ entry_members l f.sequence ++ codes ", " ++ string_member (codes "kind") (kind_name (is_dead f)) in
    let six = four ++ codes ", \"closing\": " ++ bool_text (is_in group.Closing l f) in
    let eight = six ++ codes ", \"by\": [" ++ join_by (taken_json c.args.rows l) (codes ", ") f.taken in
    let at_four : c.append_member.new.out.items ≡ o ++ four = four_more o _ _ _ _ _ _ _ _ c.in_ok-append.ensures c.in_ok-append_entry.ensures c.in_ok-append-2.ensures kind in
    let at_five : c.append-3.new.out.items ≡ o ++ (four ++ codes ", \"closing\": ") = two_more o four _ _ _ at_four c.in_ok-append-3.ensures in
    let at_six : c.append-4.new.out.items ≡ o ++ six = two_more o (four ++ codes ", \"closing\": ") _ _ _ at_five closing in
    let at_seven : c.append-5.new.out.items ≡ o ++ (six ++ codes ", \"by\": [") = two_more o six _ _ _ at_six c.in_ok-append-5.ensures in
    let at_eight : c.append_all_taken.new.out.items ≡ o ++ eight = two_more o (six ++ codes ", \"by\": [") _ _ _ at_seven taken in
    two_more o eight _ _ _ at_eight c.in_ok-append-6.ensures
