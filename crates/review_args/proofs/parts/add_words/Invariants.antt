use Rattle.std.proofs.Common.{◌≡◌, ◌++◌, map, take}
use Rattle.std.specs.Prelude.{string_bytes}
use Rattle.review_args.specs.Parts.{texts}
use Rattle.review_args.proofs.parts.add_words.Given as goal

abbrev pub invariant-loop-word : goal.invariant-loop-word
invariant-loop-word l = texts l.found ≡ texts l.initial.found ++ map string_bytes (take l.word-index l.words)
