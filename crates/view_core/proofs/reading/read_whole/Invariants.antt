use Rattle.std.proofs.Common.{◌≡◌, ◌-◌, ◌≤◌, length, take, vec_len}
use Rattle.std.specs.Prelude.{IfSome, MatchOption, []}
use Rattle.net_io.specs.Files.{content}
use Rattle.view_core.proofs.reading.read_whole.Given as goal

-- what was read is a front of the file
abbrev pub invariant-loop-room : goal.invariant-loop-room
invariant-loop-room g l = record {
  same : g.F.Files.told l.files ≡ g.F.Files.told l.initial.files;
  later : g.F.Files.faults l.initial.files ≤ g.F.Files.faults l.files;
  front : IfSome (g.F.Files.told l.initial.files) (λ t. MatchOption (content t l.path) (l.bytes.items ≡ []) (λ bytes. l.bytes.items ≡ take (length l.bytes.items) bytes));
}

abbrev pub decreases-loop-room : goal.decreases-loop-room
decreases-loop-room g l = 268435457 - vec_len l.bytes
