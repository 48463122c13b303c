use Rattle.std.proofs.Common.{◌≡◌, take}
use Rattle.report_text.specs.Readings.{readings_text}
use Rattle.report_text.proofs.readings.readings_bytes.Given as goal

abbrev pub invariant-loop-loaded : goal.invariant-loop-loaded
invariant-loop-loaded l = l.text.items ≡ readings_text (take l.loaded-index l.devices)
