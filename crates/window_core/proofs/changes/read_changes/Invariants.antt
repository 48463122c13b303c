use Rattle.std.proofs.Common.{◌≡◌, ◌≤◌, drop}
use Rattle.window_core.specs.Window.{IsWindow}
use Rattle.window_core.proofs.ChangeLemmas.{GoesOn}
use Rattle.window_core.proofs.changes.read_changes.Given as goal

abbrev pub invariant-loop-step : goal.invariant-loop-step
invariant-loop-step g l = record {
  window : IsWindow l.base l.window;
  same : g.F.Files.told l.files ≡ g.F.Files.told l.initial.files;
  later : g.F.Files.faults l.initial.files ≤ g.F.Files.faults l.files;
  goes : GoesOn l.path l.base l.steps (g.F.Files.told l.initial.files) l.window.changes l.window.total (drop l.step-index l.steps);
}
