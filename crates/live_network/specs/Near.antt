-- The segments over which devices send.
use Rattle.std.specs.Prelude.{ℕ, ◌==◌, Bool, List, Contains}
use Rattle.std.specs.List.{list_any}
use Rattle.link_sends.specs.Sending.{SendAlike}
use Rattle.net_types.specs.declared.network.Place.{Place}
use Rattle.net_types.specs.declared.network.Segment.{Segment}
use Rattle.net_types.specs.World.{World}

abbrev pub is_named : List ℕ → Place → Bool
is_named names p = list_any (λ n. n == p.device) names

-- an end of the segment is one of a device of one of these names
abbrev pub touches : List ℕ → Segment → Bool
touches names s = list_any (is_named names) s.ends

-- devices of these names send alike in both worlds
abbrev pub SendFor : World → World → List ℕ → Type 0
SendFor u w names = (e : Place) → Contains names e.device → SendAlike u w e
