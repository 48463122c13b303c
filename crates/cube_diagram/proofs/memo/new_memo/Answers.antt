use Rattle.cube_diagram.proofs.CombineLemmas.{all_of_nothing}
use Rattle.cube_diagram.proofs.memo.new_memo.Goals as goal

pub returns : goal.returns
returns c = all_of_nothing c.in_ok-slots.slots.items c.in_ok-slots.ensures
