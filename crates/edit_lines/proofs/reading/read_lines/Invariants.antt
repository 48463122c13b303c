use Rattle.std.proofs.Common.{◌≡◌, drop}
use Rattle.edit_lines.specs.Reading.{effects_in, edits_in}
use Rattle.edit_lines.proofs.ReadingLemmas.{behind}
use Rattle.edit_lines.proofs.reading.read_lines.Given as goal

abbrev pub invariant-loop-line : goal.invariant-loop-line
invariant-loop-line l = behind l.edits.items (effects_in l.network l.bytes (drop l.line-index l.lines)) ≡ edits_in (effects_in l.network l.bytes l.lines)
