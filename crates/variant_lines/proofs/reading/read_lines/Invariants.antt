use Rattle.std.proofs.Common.{◌≡◌, ◌≤◌, drop, false, length}
use Rattle.variant_lines.specs.Reading.{effects_in, variants_in, lines_limit}
use Rattle.variant_lines.proofs.ReadingLemmas.{behind}
use Rattle.variant_lines.proofs.reading.read_lines.Given as goal

abbrev pub invariant-loop-line : goal.invariant-loop-line
invariant-loop-line l = (length l.read.items ≤ lines_limit) × (behind l.read.items (effects_in l.began l.bytes (drop l.line-index l.lines)) ≡ variants_in (effects_in false l.bytes l.lines))
