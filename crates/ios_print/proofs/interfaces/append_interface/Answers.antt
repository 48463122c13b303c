use Rattle.std.proofs.Common.{◌++◌, map}
use Rattle.std.specs.Prelude.{codes, flat_map, option_to_list}
use Rattle.net_text.specs.Texts.{spell}
use Rattle.ios_print.specs.Print.{interface_row, primary_row, secondary_row, shut_rows, group_row, side_rows}
use Rattle.ios_print.proofs.Appends.{text_after, rows_after}
use Rattle.ios_print.proofs.interfaces.append_interface.Goals as goal

pub returns : goal.returns
returns c =
    let i = c.args.interface.now in
    let first = map primary_row (option_to_list i.primary) in
    let others = map secondary_row i.secondary in
    let input = map (group_row (codes "in")) (option_to_list i.input) in
    let output = map (group_row (codes "out")) (option_to_list i.output) in
    let from_output = output ++ side_rows i.side in
    let from_input = input ++ from_output in
    let from_shut = shut_rows i.shut ++ from_input in
    let from_others = others ++ from_shut in
    text_after _ _ _ _ (spell (interface_row i)) (flat_map spell (first ++ from_others)) c.in_ok-append_interface_line.ensures
    (rows_after _ _ _ _ first from_others c.in_ok-append_primary.ensures
    (rows_after _ _ _ _ others from_shut (rw c.as_slice.ensures at c.in_ok-append_secondaries.ensures)
    (rows_after _ _ _ _ (shut_rows i.shut) from_input c.in_ok-append_shut.ensures
    (rows_after _ _ _ _ input from_output c.in_ok-append_input.ensures
    (rows_after _ _ _ _ output (side_rows i.side) c.in_ok-append_output.ensures c.append_side.ensures)))))
