use Rattle.std.proofs.Common.{◌≡◌, ◌++◌, drop}
use Rattle.trace_sides.specs.Indented.{indented, indented_from}
use Rattle.trace_sides.proofs.indented.append_indented.Given as goal

-- the text so far and that of the bytes to come are the text of all
abbrev pub invariant-loop-byte : goal.invariant-loop-byte
invariant-loop-byte l = l.out.items ++ indented_from l.begins (drop l.byte-index l.text) ≡ l.initial.out.items ++ indented l.text
