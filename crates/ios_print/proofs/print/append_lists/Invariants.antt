use Rattle.std.proofs.Common.{◌≡◌, ◌++◌, drop}
use Rattle.std.specs.Prelude.{flat_map}
use Rattle.net_text.specs.Texts.{spell}
use Rattle.ios_print.specs.Print.{list_rows}
use Rattle.ios_print.proofs.print.append_lists.Given as goal

abbrev pub invariant-loop-list : goal.invariant-loop-list
invariant-loop-list l = l.out.items ++ flat_map spell (flat_map list_rows (drop l.list-index l.lists)) ≡ l.initial.out.items ++ flat_map spell (flat_map list_rows l.lists)
