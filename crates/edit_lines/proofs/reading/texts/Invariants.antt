use Rattle.std.proofs.Common.{◌≡◌, map, take}
use Rattle.net_text.specs.Lines.{piece}
use Rattle.edit_lines.proofs.reading.texts.Given as goal

abbrev pub invariant-loop-span : goal.invariant-loop-span
invariant-loop-span l = l.words.items ≡ map (piece l.bytes) (take l.span-index l.spans)
