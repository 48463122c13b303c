use Rattle.std.proofs.Common.{◌≡◌, ◌++◌, ap, ◌∙◌, codes}
use Rattle.std.specs.List.{join_by}
use Rattle.json_text.specs.Json.{string_member}
use Rattle.json_text.proofs.Joined.{two_more, four_more}
use Rattle.audit_view.specs.declared.groups.Group.TheVariants as group
use Rattle.audit_view.specs.Shown.{count_in}
use Rattle.audit_view.specs.ShownJson.{counts_json, finding_json, list_json}
use Rattle.audit_view.proofs.json.append_list.Goals as goal

pub returns : goal.returns
unfolding list_json
returns c =
    let o = c.args.out.now.items in
    let a = c.args.audited.now in
    let file = c.in_ok-append_member.ensures ∙ ap (λ name. c.append.new.out.items ++ string_member (codes "file") name) c.as_bytes.ensures in
    let list = c.in_ok-append_member-2.ensures ∙ ap (λ name. c.append-2.new.out.items ++ string_member (codes "list") name) c.as_bytes-2.ensures in
    let before = c.append-3.new.out.items in
    let counts =
    c.in_ok-append_counts.ensures
    ∙ ap (λ n. before ++ counts_json n c.count_in-2.result c.count_in-3.result) c.count_in.ensures
    ∙ ap (λ n. before ++ counts_json (count_in group.Dead a) n c.count_in-3.result) c.count_in-2.ensures
    ∙ ap (λ n. before ++ counts_json (count_in group.Dead a) (count_in group.Redundant a) n) c.count_in-3.ensures in
    let findings = c.in_ok-append_findings.ensures ∙ ap (λ xs. c.append-4.new.out.items ++ join_by (finding_json c.args.rows a.list) (codes ",\n") xs) c.as_slice.ensures in
    let four = codes "{" ++ string_member (codes "file") a.list.file ++ codes ", " ++ string_member (codes "list") a.list.name in
    let six = four ++ codes ", " ++ counts_json (count_in group.Dead a) (count_in group.Redundant a) (count_in group.Closing a) in
    let eight = six ++ codes ", \"findings\": [" ++ join_by (finding_json c.args.rows a.list) (codes ",\n") a.findings in
    let at_four : c.append_member-2.new.out.items ≡ o ++ four = four_more o _ _ _ _ _ _ _ _ c.in_ok-append.ensures file c.in_ok-append-2.ensures list in
    let at_five : c.append-3.new.out.items ≡ o ++ (four ++ codes ", ") = two_more o four _ _ _ at_four c.in_ok-append-3.ensures in
    let at_six : c.append_counts.new.out.items ≡ o ++ six = two_more o (four ++ codes ", ") _ _ _ at_five counts in
    let at_seven : c.append-4.new.out.items ≡ o ++ (six ++ codes ", \"findings\": [") = two_more o six _ _ _ at_six c.in_ok-append-4.ensures in
    let at_eight : c.append_findings.new.out.items ≡ o ++ eight = two_more o (six ++ codes ", \"findings\": [") _ _ _ at_seven findings in
    two_more o eight _ _ _ at_eight c.in_ok-append-5.ensures
