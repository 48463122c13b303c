use Rattle.json_text.proofs.Joined.{three_more}
use Rattle.view_core.proofs.summary.append_some_untouched.Goals as goal

pub returns : goal.returns
returns c = three_more _ _ _ _ _ _ _ c.in_ok-append_count.ensures c.in_ok-append_count-2.ensures c.in_ok-append.ensures
