use Rattle.std.proofs.Common.{◌≡◌, ◌<◌, ◌^◌, drop}
use Rattle.report_text.specs.Reading.{binary_from, known_digit, one_digit}
use Rattle.report_text.proofs.field_reader.ternary.Given as goal

abbrev pub invariant-loop-b : goal.invariant-loop-b
invariant-loop-b l = record {
  fixed : binary_from known_digit l.fixed (drop l.b-index l.word) ≡ binary_from known_digit 0 l.word;
  bits : binary_from one_digit l.bits (drop l.b-index l.word) ≡ binary_from one_digit 0 l.word;
  fixed_below : l.fixed < 2 ^ l.b-index;
  bits_below : l.bits < 2 ^ l.b-index;
}
