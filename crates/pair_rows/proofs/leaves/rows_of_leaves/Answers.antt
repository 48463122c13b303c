use Rattle.std.proofs.Common.{◌≡◌, ◌<◌, List, Some, Vec, Global, drop, length, map, sym, ap, subst, ◌∙◌, arith}
use Rattle.std.specs.Prelude.{⊤, slice_index_or}
use Rattle.std.proofs.lemmas.List.{take_at}
use Rattle.std.proofs.lemmas.Option.{slice_get_within}
use Rattle.net_types.specs.declared.network.Row.{Row}
use Rattle.task_board.specs.declared.leaf.Leaf.{Leaf}
use Rattle.pair_rows.specs.declared.leaves.SlotLeaves.{SlotLeaves}
use Rattle.pair_rows.specs.declared.leaves.SlotRows.{SlotRows}
use Rattle.pair_rows.specs.Pairs.{AreRowsWithPairs}
use Rattle.pair_rows.specs.Slots.{HoldsHeader, IsMade}
use Rattle.pair_rows.proofs.ListLemmas.{of_some}
use Rattle.pair_rows.proofs.SlotLemmas.{held_by_slot, index_there, there_as_long, there_too}
use Rattle.pair_rows.proofs.leaves.rows_of_leaves.Goals as goal

pub returns-clause-rows : goal.returns-clause-rows
returns-clause-rows g c k s at =
    let gives = g.K.Pairing.gives k in
    let leaves : List (Leaf ⊤) = c.args.leaves.items in
    let sorted : List (SlotLeaves g.row.K.Denot) = c.in_ok-sorted.sorted.items in
    let made : List (SlotLeaves g.row.K.Denot) = c.make_rows.new.slots in
    let count = c.make_rows.ensures.count in
    let same = take_at made (drop (length made) sorted) c.in_ok-sorted.sorted.len (count ∙ c.deref_mut.ensures.len) in
    let images : map (λ (r : SlotRows). Some r.rows) c.in_ok-all.all.items ≡ map (λ (m : SlotLeaves g.row.K.Denot). m.rows) made = c.in_ok-all.ensures ∙ ap (map (λ (m : SlotLeaves g.row.K.Denot). m.rows)) same in
    let new = there_too (λ (r : SlotRows). Some r.rows) (λ (m : SlotLeaves g.row.K.Denot). m.rows) c.in_ok-all.all.items made images k s at in
    let within : k < length made = slice_get_within made k new.0 new.1 in
    let lent = c.deref_mut.ensures.value in
    let as_long : length c.deref_mut.result.now ≡ length sorted = ap (λ (xs : List (SlotLeaves g.row.K.Denot)). length xs) lent in
    let old = there_as_long sorted k (omega (arith, within, count, as_long)) in
    let is = c.make_rows.ensures.made k new.0 (omega (arith, within, count)) in
    let before : slice_index_or c.deref_mut.result.now k new.0 ≡ old.0 = ap (λ (xs : List (SlotLeaves g.row.K.Denot)). slice_index_or xs k new.0) lent ∙ index_there sorted k old.0 new.0 old.1 in
    let makes : IsMade gives k old.0 new.0 = subst (IsMade gives k old.0) (index_there made k new.0 new.0 new.1) (subst (λ (o : SlotLeaves g.row.K.Denot). IsMade gives k o (slice_index_or made k new.0)) before is) in
    let slots = c.in_ok-sorted.ensures.count in
    let rows = makes (λ h l. subst (λ (ls : List (Leaf ⊤)). HoldsHeader k ls h) (sym (c.in_ok-sorted.ensures.sorted k old.0 old.1)) (held_by_slot leaves k h (c.requires.whole k h (omega (arith, within, count, as_long, slots)) l))) in
    of_some (λ (v : Vec Row Global). AreRowsWithPairs gives v.items) new.0.rows s.rows new.2 rows
