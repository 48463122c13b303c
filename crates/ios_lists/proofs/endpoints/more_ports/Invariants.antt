use Rattle.std.proofs.Common.{◌≡◌, ◌+◌, ◌-◌, ◌≤◌, ◌++◌, drop, take, length}
use Rattle.ios_lists.specs.Entries.{leading}
use Rattle.ios_lists.proofs.endpoints.more_ports.Given as goal

abbrev pub invariant-loop-word : goal.invariant-loop-word
invariant-loop-word l = record {
  at : l.count ≡ l.word-index;
  most : l.count ≤ 9;
  ports : l.ports.items ++ take (9 - l.count) (leading l.proto (drop l.word-index l.words)) ≡ l.initial.ports.items ++ take 9 (leading l.proto l.words);
  count : l.count + length (take (9 - l.count) (leading l.proto (drop l.word-index l.words))) ≡ length (take 9 (leading l.proto l.words));
}
