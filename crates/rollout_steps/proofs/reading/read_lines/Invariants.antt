use Rattle.std.proofs.Common.{◌≡◌, ◌≤◌, drop, length}
use Rattle.rollout_steps.specs.Reading.{effects_in, steps_in, steps_limit}
use Rattle.rollout_steps.proofs.ReadingLemmas.{behind}
use Rattle.rollout_steps.proofs.reading.read_lines.Given as goal

abbrev pub invariant-loop-line : goal.invariant-loop-line
invariant-loop-line l = (length l.steps.items ≤ steps_limit) × (behind l.steps.items (effects_in l.bytes (drop l.line-index l.lines)) ≡ steps_in (effects_in l.bytes l.lines))
