use Rattle.std.proofs.Common.{◌≡◌, ◌++◌, ap, ◌∙◌, codes, length}
use Rattle.std.specs.Prelude.{decimal}
use Rattle.json_text.proofs.Joined.{two_more, four_more}
use Rattle.audit_view.specs.ShownText.{line_of, text_of, row_lines, taken_text}
use Rattle.audit_view.proofs.text.append_taken.Goals as goal

pub returns : goal.returns
unfolding taken_text
returns c =
    let o = c.args.out.now.items in
    let l = c.args.list.now in
    let t = c.args.taken.now in
    let counted = c.in_ok-append_number.ensures ∙ ap (λ xs. c.append-2.new.out.items ++ decimal (length xs)) c.as_slice.ensures in
    let rows = c.in_ok-append_row_lines.ensures ∙ ap (λ xs. c.append-4.new.out.items ++ row_lines c.args.rows xs) c.as_slice-2.ensures in
    let four = codes "    by line " ++ line_of l t.sequence ++ codes ", rows " ++ decimal (length t.rows) in
    let number : c.append_number.new.out.items ≡ o ++ four =
    four_more o _ _ _ _ _ _ _ _ c.in_ok-append.ensures c.in_ok-append_line.ensures c.in_ok-append-2.ensures counted in
    let colon : c.append-3.new.out.items ≡ o ++ (four ++ codes ": ") = two_more o four _ _ _ number c.in_ok-append-3.ensures in
    let text : c.append_text.new.out.items ≡ o ++ (four ++ codes ": " ++ text_of l t.sequence) =
    two_more o (four ++ codes ": ") _ _ _ colon c.in_ok-append_text.ensures in
    let line : c.append-4.new.out.items ≡ o ++ (four ++ codes ": " ++ text_of l t.sequence ++ codes "\n") =
    two_more o (four ++ codes ": " ++ text_of l t.sequence) _ _ _ text c.in_ok-append-4.ensures in
    two_more o (four ++ codes ": " ++ text_of l t.sequence ++ codes "\n") _ _ _ line rows
