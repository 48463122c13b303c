use Rattle.std.proofs.Common.{Vec, Global}
use Rattle.net_types.specs.declared.network.Row.{Row}
use Rattle.pair_rows.specs.Pairs.{AreRowsFor}
use Rattle.pair_rows.specs.Slots.{HoldsHeader}
use Rattle.pair_rows.proofs.ListLemmas.{of_some}
use Rattle.pair_rows.proofs.RowLemmas.{rows_of_all}
use Rattle.pair_rows.proofs.joined.rows_of_slot.Goals as goal

pub returns-in-Some : goal.returns-in-Some
returns-in-Some g c all =
    let gives = g.K.Pairing.gives c.args.slot in
    let headers = HoldsHeader c.args.slot c.args.leaves.items in
    rows_of_all gives headers c.in-Some.rows.items (of_some (λ (rows : Vec Row Global). AreRowsFor gives headers rows.items) c.in_ok-rows.field-0 c.in-Some.rows c.in-Some.is c.in_ok-rows.ensures) all
