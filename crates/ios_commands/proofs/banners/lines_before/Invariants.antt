use Rattle.std.proofs.Common.{◌≡◌, ◌+◌, ◌≤◌, ◌-◌, drop, length}
use Rattle.std.specs.Prelude.{option_map}
use Rattle.ios_commands.specs.Banners.{lines_before}
use Rattle.ios_commands.proofs.banners.lines_before.Given as goal

abbrev pub invariant-loop-at : goal.invariant-loop-at
invariant-loop-at l = record {
  within : l.lines ≤ l.at;
  value : option_map (λ n. l.lines + n) (lines_before l.mark (drop l.at l.text)) ≡ lines_before l.mark l.text;
}

abbrev pub decreases-loop-at : goal.decreases-loop-at
decreases-loop-at l = length l.text - l.at
