use Rattle.std.proofs.Common.{Vec, Global, subst}
use Rattle.std.specs.Prelude.{⊤}
use Rattle.task_board.specs.declared.leaf.Leaf.{Leaf}
use Rattle.pair_rows.specs.Slots.{MakesRows}
use Rattle.pair_rows.proofs.leaves.fn.make_rows.for_each_mut.Goals as goal

pub returns : goal.returns
returns g c =
    subst (λ (ls : Vec (Leaf ⊤) Global). MakesRows (g.K.Pairing.gives c.args.number) c.args.number ls.items c.rows_at.result) c.replace-leaves.ensures.value c.rows_at.ensures
