use Rattle.std.proofs.Common.{◌≡◌, ◌++◌, codes}
use Rattle.std.specs.Prelude.{decimal}
use Rattle.json_text.proofs.Joined.{two_more, four_more}
use Rattle.audit_view.specs.ShownText.{line_of}
use Rattle.audit_view.specs.ShownJson.{entry_members}
use Rattle.audit_view.proofs.json.append_entry.Goals as goal

pub returns : goal.returns
unfolding entry_members
returns c =
    let o = c.args.out.now.items in
    let four = codes "\"sequence\": " ++ decimal c.args.sequence ++ codes ", \"line\": " ++ line_of c.args.list.now c.args.sequence in
    let line : c.append_line.new.out.items ≡ o ++ four =
    four_more o _ _ _ _ _ _ _ _ c.in_ok-append.ensures c.in_ok-append_number.ensures c.in_ok-append-2.ensures c.in_ok-append_line.ensures in
    let comma : c.append-3.new.out.items ≡ o ++ (four ++ codes ", ") = two_more o four _ _ _ line c.in_ok-append-3.ensures in
    two_more o (four ++ codes ", ") _ _ _ comma c.in_ok-append_own_text.ensures
