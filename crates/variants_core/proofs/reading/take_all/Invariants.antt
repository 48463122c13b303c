use Rattle.std.proofs.Common.{◌≡◌, ◌≤◌, drop}
use Rattle.variants_core.specs.Taking.{IsReading, so_far}
use Rattle.variants_core.proofs.TakingLemmas.{GoesOn}
use Rattle.variants_core.proofs.reading.take_all.Given as goal

abbrev pub invariant-loop-line : goal.invariant-loop-line
invariant-loop-line g l = record {
  reading : IsReading l.base l.reading;
  same : g.F.Files.told l.files ≡ g.F.Files.told l.initial.files;
  later : g.F.Files.faults l.initial.files ≤ g.F.Files.faults l.files;
  goes : GoesOn l.path l.base l.lines (g.F.Files.told l.initial.files) (so_far l.reading) (drop l.line-index l.lines);
}
