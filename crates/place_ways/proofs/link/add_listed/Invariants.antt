use Rattle.std.proofs.Common.{take}
use Rattle.cube_alg.specs.Stamps.{applied}
use Rattle.cube_diagram.specs.Functions.{Keeps}
use Rattle.net_types.specs.Moves.{send}
use Rattle.net_types.specs.World.{segment_of}
use Rattle.place_ways.specs.Adding.{AddsWays, ByOne, HasValue, Makes}
use Rattle.place_ways.proofs.link.add_listed.Given as goal

abbrev pub invariant-loop-address : goal.invariant-loop-address
invariant-loop-address l = record {
  kept : Keeps l.fn.table l.table;
  added : AddsWays l.fn.table l.table (λ h m. ByOne (λ d. HasValue l.fn.table l.function d h × Makes l.fn.table l.given (λ q. send l.link.wiring.now l.link.place q.dst (applied l.link.stamp q) (segment_of l.link.wiring.now l.link.place)) h m) (take l.address-index l.addresses)) l.fn.ways.ways.items l.ways.ways.items;
}
