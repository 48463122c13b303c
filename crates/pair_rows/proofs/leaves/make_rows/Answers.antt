use Rattle.std.proofs.Common.{subst}
use Rattle.std.specs.Prelude.{slice_index_or}
use Rattle.pair_rows.specs.declared.leaves.SlotLeaves.{SlotLeaves}
use Rattle.pair_rows.specs.Slots.{IsMade}
use Rattle.pair_rows.proofs.leaves.make_rows.Goals as goal

pub returns-clause-made : goal.returns-clause-made
returns-clause-made g c k d l =
    let is = (c.for_each_mut.ensures k d l).1 in
    let gives = g.K.Pairing.gives k in
    let old : SlotLeaves g.row.K.Denot = slice_index_or c.args.slots.now k d in
    let new : SlotLeaves g.row.K.Denot = slice_index_or c.for_each_mut.new.s k d in
    let made : IsMade gives k is.argument.now new = subst (IsMade gives k is.argument.now) {y = new} is.left is.call in
    subst (λ (s : SlotLeaves g.row.K.Denot). IsMade gives k s new) {y = old} is.argument_is made
