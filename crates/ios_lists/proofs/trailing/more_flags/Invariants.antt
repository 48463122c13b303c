use Rattle.std.proofs.Common.{◌≡◌, ◌+◌, drop, length}
use Rattle.std.specs.Prelude.{fold}
use Rattle.ios_lists.specs.Entries.{add_flag, leading_flags}
use Rattle.ios_lists.proofs.trailing.more_flags.Given as goal

abbrev pub invariant-loop-word : goal.invariant-loop-word
invariant-loop-word l = record {
  at : l.count ≡ l.word-index;
  masks : fold add_flag l.masks (leading_flags (drop l.word-index l.words)) ≡ fold add_flag l.fn.start (leading_flags l.words);
  count : l.count + length (leading_flags (drop l.word-index l.words)) ≡ length (leading_flags l.words);
}
