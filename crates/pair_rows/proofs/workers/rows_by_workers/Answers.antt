use Rattle.std.proofs.Common.{List, AllPairs, Any, sym, subst}
use Rattle.cube_alg.specs.declared.Region.{Region}
use Rattle.task_board.specs.Regions.{LieApart, Holds}
use Rattle.pair_rows.proofs.SlotLemmas.{held_by_answer}
use Rattle.pair_rows.proofs.workers.rows_by_workers.Goals as goal

pub run-requires-clause-apart : goal.run-requires-clause-apart
run-requires-clause-apart g c κs within = subst (AllPairs LieApart) (sym c.as_slice-2.ensures.value) c.in_ok-roots.ensures.apart

pub rows_of_leaves-requires-clause-whole : goal.rows_of_leaves-requires-clause-whole
rows_of_leaves-requires-clause-whole g c κs within k h few below =
    held_by_answer c.as_slice-2.result.now c.in_ok-leaves.leaves.items c.in_ok-leaves.ensures k h below (subst (λ (rs : List Region). Any (Holds k h) rs) (sym c.as_slice-2.ensures.value) (c.in_ok-roots.ensures.whole k h few))
