use Rattle.std.proofs.Common.{◌≡◌, ◌++◌, drop}
use Rattle.std.specs.Prelude.{flat_map}
use Rattle.net_text.specs.Texts.{spell}
use Rattle.ios_print.specs.Print.{interface_rows}
use Rattle.ios_print.proofs.print.append_interfaces.Given as goal

abbrev pub invariant-loop-interface : goal.invariant-loop-interface
invariant-loop-interface l = l.out.items ++ flat_map spell (flat_map interface_rows (drop l.interface-index l.interfaces)) ≡ l.initial.out.items ++ flat_map spell (flat_map interface_rows l.interfaces)
