use Rattle.std.proofs.Common.{map}
use Rattle.std.proofs.lemmas.Result.{on_ok_weaker}
use Rattle.net_types.specs.declared.network.Place.{Place}
use Rattle.net_view.specs.Borrowed.{world_of}
use Rattle.incr_review.specs.Again.{as_region}
use Rattle.incr_review.proofs.RegionLemmas.{walked_regions, at_default}
use Rattle.incr_review.proofs.regions.add_regions.Goals as goal

pub returns-clause-added : goal.returns-clause-added
returns-clause-added c =
    let walk = c.args.walk in
    let walking = c.args.walking in
    let none : Place = record { device = 0; interface = 0 } in
    on_ok_weaker c.add_parts.result (λ added. record {
      more = map (as_region walking) c.in_ok-parts.parts.items;
      added = added;
      are = walked_regions (world_of walk.net.now.world) walk.ttl _ walk.ingress.now c.walked_parts.new.table walking c.in_ok-parts.parts.items (at_default walk.ingress.now walking.slot none c.requires.slot) c.in_ok-parts.ensures.walked;
    }) c.add_parts.ensures
