use Rattle.std.proofs.Common.{◌≡◌, ◌++◌, map, drop}
use Rattle.std.specs.Prelude.{flat_map}
use Rattle.net_text.specs.Texts.{spell}
use Rattle.ios_print.specs.Print.{entry_row}
use Rattle.ios_print.proofs.entries.append_entries.Given as goal

abbrev pub invariant-loop-entry : goal.invariant-loop-entry
invariant-loop-entry l = l.out.items ++ flat_map spell (map (entry_row l.extended) (drop l.entry-index l.entries)) ≡ l.initial.out.items ++ flat_map spell (map (entry_row l.extended) l.entries)
