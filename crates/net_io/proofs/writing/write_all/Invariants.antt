use Rattle.std.proofs.Common.{◌≡◌, ◌++◌, ◌-◌, ◌≤◌, length, take}
use Rattle.std.specs.Prelude.{option_map}
use Rattle.net_io.proofs.writing.write_all.Given as goal

-- the front was taken
abbrev pub invariant-loop-at : goal.invariant-loop-at
invariant-loop-at g l = record {
  fits : l.at ≤ length l.bytes;
  took : g.O.Sink.taken l.sink ≡ option_map (λ taken. taken ++ take l.at l.bytes) (g.O.Sink.taken l.initial.sink);
  later : g.O.Sink.faults l.initial.sink ≤ g.O.Sink.faults l.sink;
}

abbrev pub decreases-loop-at : goal.decreases-loop-at
decreases-loop-at g l = length l.bytes - l.at
