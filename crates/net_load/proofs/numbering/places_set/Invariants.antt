use Rattle.std.proofs.Common.{◌≡◌, take}
use Rattle.std.specs.List.{list_any}
use Rattle.net_types.specs.declared.network.Place.{Place}
use Rattle.net_types.specs.World.{same_place}
use Rattle.net_load.proofs.numbering.places_set.Given as goal

abbrev pub invariant-loop-place : goal.invariant-loop-place
invariant-loop-place l = (p : Place) → list_any (same_place p) l.named.keys ≡ list_any (same_place p) (take l.place-index l.places)
