use Rattle.json_text.proofs.Joined.{two_more}
use Rattle.view_core.proofs.summary.append_no_change.Goals as goal

pub returns : goal.returns
returns c = two_more _ _ _ _ _ c.in_ok-append_count.ensures c.in_ok-append.ensures
