use Rattle.json_text.proofs.Joined.{two_more}
use Rattle.view_core.proofs.numbers.append_masked.Goals as goal

pub returns : goal.returns
returns c = two_more _ _ _ _ _ c.in_ok-append.ensures c.in_ok-append_ternary.ensures
