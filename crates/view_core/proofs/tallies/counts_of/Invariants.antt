use Rattle.std.proofs.Common.{◌≡◌, ◌++◌, ◌≤◌, ◌*◌, ◌^◌, [], codes, take, map, flat_map, All}
use Rattle.view_core.specs.Tallies.{mention_in}
use Rattle.view_core.specs.Counts.{AreCounts}
use Rattle.view_core.proofs.tallies.counts_of.Given as goal

abbrev pub invariant-loop-mention : goal.invariant-loop-mention
invariant-loop-mention l = AreCounts (map mention_in (take l.mention-index l.mentioned)) l.counts
