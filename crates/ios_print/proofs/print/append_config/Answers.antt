use Rattle.std.proofs.Common.{◌++◌, map}
use Rattle.std.specs.Prelude.{flat_map}
use Rattle.net_text.specs.Texts.{spell}
use Rattle.ios_print.specs.Print.{host_row, interface_rows, route_row, rule_row, list_rows}
use Rattle.ios_print.proofs.Appends.{text_after, rows_after}
use Rattle.ios_print.proofs.print.append_config.Goals as goal

pub returns : goal.returns
returns c =
    let config = c.args.config.now in
    let interfaces = flat_map interface_rows config.interfaces in
    let routes = map route_row config.routes in
    let rules = map rule_row config.nat in
    let lists = flat_map list_rows config.lists in
    let from_rules = rules ++ lists in
    let from_routes = routes ++ from_rules in
    text_after _ _ _ _ (spell (host_row config.hostname)) (flat_map spell (interfaces ++ from_routes)) c.in_ok-append_hostname.ensures
    (rows_after _ _ _ _ interfaces from_routes (rw c.as_slice.ensures at c.in_ok-append_interfaces.ensures)
    (rows_after _ _ _ _ routes from_rules (rw c.as_slice-2.ensures at c.in_ok-append_routes.ensures)
    (rows_after _ _ _ _ rules lists (rw c.as_slice-3.ensures at c.in_ok-append_rules.ensures) (rw c.as_slice-4.ensures at c.append_lists.ensures))))
