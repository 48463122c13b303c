use Rattle.std.proofs.Common.{◌≡◌, ◌++◌, map, drop}
use Rattle.std.specs.Prelude.{flat_map}
use Rattle.net_text.specs.Texts.{spell}
use Rattle.ios_print.specs.Print.{secondary_row}
use Rattle.ios_print.proofs.interfaces.append_secondaries.Given as goal

abbrev pub invariant-loop-subnet : goal.invariant-loop-subnet
invariant-loop-subnet l = l.out.items ++ flat_map spell (map secondary_row (drop l.subnet-index l.subnets)) ≡ l.initial.out.items ++ flat_map spell (map secondary_row l.subnets)
