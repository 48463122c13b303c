use Rattle.std.proofs.Common.{◌≡◌, take, drop}
use Rattle.std.specs.Str.{all_ascii_digits}
use Rattle.ios_words.specs.Steps.{capped_value}
use Rattle.ios_words.proofs.capped.Given as goal

abbrev pub invariant-loop-b : goal.invariant-loop-b
invariant-loop-b l = record {
  digits : all_ascii_digits (drop l.b-index l.word) ≡ all_ascii_digits l.word;
  value : l.value ≡ capped_value (take l.b-index l.word);
}
