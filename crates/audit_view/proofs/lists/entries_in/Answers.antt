use Rattle.std.proofs.Common.{◌≡◌, ◌++◌, ap, ◌∙◌, arith}
use Rattle.std.specs.Prelude.{option_to_list}
use Rattle.audit_view.specs.Lists.{entry_in}
use Rattle.audit_view.proofs.ListLemmas.{next_entries, added_some, added_none}
use Rattle.audit_view.proofs.lists.entries_in.Goals as goal
use Rattle.audit_view.proofs.lists.entries_in.Goals.{in-Some+in_ok-push, in_default}

pub loop-line-preserved : goal.loop-line-preserved
loop-line-preserved c =
    let found = c.loop-line.found.items in
    let now = c.match-branch-2.found.items in
    let o = c.in_ok-entry.field-0 in
    let added : now ≡ found ++ option_to_list o =
    elim c.match-branch-2.branch [
      | in-Some+in_ok-push w ↦ added_some found now o w.in-Some.entry w.in-Some.is (ap (λ v. v.items) w.found-is ∙ w.in_ok-push.ensures.items)
      | in_default w ↦ added_none found now o w.in_default.not-Some (ap (λ v. v.items) w.found-is)
    ] in
    next_entries (entry_in c.args.bytes.now c.args.name.now) c.args.lines.now c.loop-line.line-index c.line-item.result found now (omega arith) c.line-item.is (added ∙ ap (λ x. found ++ option_to_list x) c.in_ok-entry.ensures) c.loop-line.invariant
