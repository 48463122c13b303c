-- The bytes of a part of a text.
use Rattle.std.specs.Prelude.{ℕ, List, decimal}
use Rattle.report_text.specs.declared.parts.TextPart.{TextPart}
use Rattle.report_text.specs.declared.parts.TextPart.TheVariants as part

abbrev pub part_bytes : TextPart → List ℕ
part_bytes (part.Bytes bytes) = bytes.now
part_bytes (part.Number number) = decimal number
