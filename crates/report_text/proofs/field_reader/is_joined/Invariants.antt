use Rattle.std.proofs.Common.{◌≡◌, drop, flat_map}
use Rattle.std.specs.Str.{bytes_eq}
use Rattle.report_text.specs.Reading.{part_bytes}
use Rattle.report_text.proofs.field_reader.is_joined.Given as goal

abbrev pub invariant-loop-part : goal.invariant-loop-part
invariant-loop-part l = bytes_eq (flat_map part_bytes (drop l.part-index l.parts)) l.rest ≡ bytes_eq (flat_map part_bytes l.parts) l.word
