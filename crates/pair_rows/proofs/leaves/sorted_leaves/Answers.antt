use Rattle.std.proofs.Common.{◌++◌, ◌∷◌, [], List, sym, ap, ◌∙◌, append_assoc}
use Rattle.std.specs.Prelude.{⊤}
use Rattle.task_board.specs.declared.leaf.Leaf.{Leaf}
use Rattle.pair_rows.proofs.leaves.sorted_leaves.Goals as goal

pub loop-leaf-preserved : goal.loop-leaf-preserved
loop-leaf-preserved g c =
    let done : List (Leaf ⊤) = c.loop-leaf.invariant.done in
    let leaf : Leaf ⊤ = c.in-Some.leaf in
    record {
      count = c.add_leaf.ensures.count ∙ c.loop-leaf.invariant.count;
      done = done ++ leaf ∷ [];
      steps = append_assoc done (leaf ∷ []) c.pop_front.new.self.items ∙ ap (λ (ls : List (Leaf ⊤)). done ++ ls) (sym c.in-Some.ensures.items) ∙ c.loop-leaf.invariant.steps;
      sorted = c.in_ok-add_leaf.ensures.sorted done c.loop-leaf.invariant.sorted;
    }
