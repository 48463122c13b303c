use Rattle.std.proofs.Common.{List, slice_get, sym, subst}
use Rattle.std.specs.Prelude.{option_and_then}
use Rattle.indexmap.specs.IndexMap.{get}
use Rattle.net_types.specs.World.{same_place}
use Rattle.net_view.specs.Borrowed.{world_of}
use Rattle.set_walk.specs.declared.net.PlaceWays.{PlaceWays}
use Rattle.set_walk.specs.Nets.{AreWays}
use Rattle.net_compare.proofs.comparison.sections_by.Goals as goal

pub compare_in-requires-clause-old : goal.compare_in-requires-clause-old
compare_in-requires-clause-old g c κs within = subst (λ (ls : List PlaceWays). AreWays (world_of c.args.walked.networks.old) c.args.table c.args.walked.scoped.now.scope (λ p. option_and_then (slice_get ls) (get same_place c.args.walked.scoped.now.ways.old p))) (sym c.deref.ensures.value) c.requires.old

pub compare_in-requires-clause-new : goal.compare_in-requires-clause-new
compare_in-requires-clause-new g c κs within = subst (λ (ls : List PlaceWays). AreWays (world_of c.args.walked.networks.new) c.args.table c.args.walked.scoped.now.scope (λ p. option_and_then (slice_get ls) (get same_place c.args.walked.scoped.now.ways.new p))) (sym c.deref-2.ensures.value) c.requires.new
