use Rattle.std.proofs.Common.{List, AllPairs, Any, sym, subst}
use Rattle.cube_alg.specs.declared.Region.{Region}
use Rattle.task_board.specs.Regions.{Holds, LieApart}
use Rattle.ask_query.proofs.LeafLemmas.{leaf_of}
use Rattle.ask_query.proofs.workers.answers_shared.Goals as goal

pub run-requires-clause-apart : goal.run-requires-clause-apart
run-requires-clause-apart g c κs within = subst (AllPairs LieApart) (sym c.as_slice.ensures.value) c.in_ok-roots.ensures.apart

pub answers_of_leaves-requires-clause-leaves : goal.answers_of_leaves-requires-clause-leaves
answers_of_leaves-requires-clause-leaves g c k l =
    leaf_of c.as_slice.result.now c.in_ok-leaves.leaves.items c.in_ok-leaves.ensures k (subst (λ (rs : List Region). Any (Holds k 0) rs) (sym c.as_slice.ensures.value) (c.in_ok-roots.ensures.whole k 0 l))

pub answers_of_leaves-requires-clause-each : goal.answers_of_leaves-requires-clause-each
answers_of_leaves-requires-clause-each g c = c.requires.asked.each
