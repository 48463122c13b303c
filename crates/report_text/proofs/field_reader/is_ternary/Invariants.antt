use Rattle.std.proofs.Common.{◌≡◌}
use Rattle.std.specs.Str.{bytes_eq}
use Rattle.report_text.specs.FieldText.{ternary_text}
use Rattle.report_text.proofs.field_reader.is_ternary.Given as goal

abbrev pub invariant-loop-k : goal.invariant-loop-k
invariant-loop-k l = bytes_eq (ternary_text l.k l.fixed l.bits) l.rest ≡ bytes_eq (ternary_text l.width l.fixed l.bits) l.word
