use Rattle.std.proofs.Common.{◌≡◌, ◌++◌, ◌||◌, map, length}
use Rattle.std.specs.Prelude.{string_bytes}
use Rattle.review_args.specs.Words.{workers, ttl, values, positional, has_stray}
use Rattle.review_args.specs.Parts.{texts}
use Rattle.review_args.proofs.parts.Parts.of.Given as goal

abbrev pub invariant-loop-word : goal.invariant-loop-word
invariant-loop-word l = record {
  positional : texts l.parts.positional ++ positional l.previous (map string_bytes l.rest) ≡ positional l.command (map string_bytes l.words);
  workers : texts l.parts.workers ++ values workers l.previous (map string_bytes l.rest) ≡ values workers l.command (map string_bytes l.words);
  ttl : texts l.parts.ttl ++ values ttl l.previous (map string_bytes l.rest) ≡ values ttl l.command (map string_bytes l.words);
  stray : (l.parts.stray || has_stray l.previous (map string_bytes l.rest)) ≡ has_stray l.command (map string_bytes l.words);
}

abbrev pub decreases-loop-word : goal.decreases-loop-word
decreases-loop-word l = length l.rest
