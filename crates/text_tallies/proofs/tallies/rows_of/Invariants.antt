use Rattle.std.proofs.Common.{◌≡◌, map, take}
use Rattle.text_tallies.specs.Tallies.{row}
use Rattle.text_tallies.proofs.tallies.rows_of.Given as goal

abbrev pub invariant-loop-place : goal.invariant-loop-place
invariant-loop-place l = l.found.items ≡ map (λ e. row (e.0.items, e.1)) (take l.place l.tallies.seen.entries)
