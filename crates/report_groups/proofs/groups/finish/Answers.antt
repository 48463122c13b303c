use Rattle.report_groups.proofs.ShownLemmas.{one_more_group, one_more_entry}
use Rattle.report_groups.proofs.groups.finish.Goals as goal

pub loop-draft-preserved : goal.loop-draft-preserved
loop-draft-preserved c =
    let es = c.loop-draft.entries.items in
    let es' = c.push.new.self.items in
    let e = c.in_ok-entry.entry in
    let d = c.in-Some.draft in
    let more = c.in_ok-push.ensures.items in
    (one_more_group es es' c.loop-draft.yielded e d more c.loop-draft.invariant.0 c.in_ok-entry.ensures.group, one_more_entry es es' e more c.loop-draft.invariant.1 c.in_ok-entry.ensures.shows)
