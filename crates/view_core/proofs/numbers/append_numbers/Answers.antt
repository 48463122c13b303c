use Rattle.json_text.proofs.Joined.{four_more}
use Rattle.view_core.proofs.numbers.append_numbers.Goals as goal

pub returns : goal.returns
returns c = four_more _ _ _ _ _ _ _ _ _ c.in_ok-append.ensures c.in_ok-append_number.ensures c.in_ok-append-2.ensures c.in_ok-append_number-2.ensures
