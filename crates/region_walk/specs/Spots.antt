-- Where the headers of a region are, told once for all of them against one header of the region.
use Rattle.std.specs.Prelude.{◌≡◌, ℕ, Bool, true, false, ◌==◌, Option, Some, None}
use Rattle.hdr_bits.specs.declared.header.Header.{Header}
use Rattle.hdr_bits.specs.declared.cube.Cube.{Cube}
use Rattle.hdr_bits.specs.HeaderBits.{number, IsHeader}
use Rattle.hdr_bits.specs.CubeBits.{IsIn}
use Rattle.net_types.specs.declared.label.Outcome.{Outcome}
use Rattle.net_types.specs.declared.label.Outcome.TheVariants as outcome
use Rattle.net_types.specs.declared.network.Place.{Place}
use Rattle.net_types.specs.declared.network.State.{State}
use Rattle.cube_alg.specs.declared.stamp.Stamp.{Stamp}
use Rattle.cube_alg.specs.Stamps.{applied, followed, changed_fields}
use Rattle.transfer_rel.specs.declared.moves.StampMove.{StampMove}
use Rattle.transfer_rel.specs.declared.moves.StampMove.TheVariants as stamped
use Rattle.transfer_rel.specs.CubeMoves.{IsStamp}
use Rattle.region_walk.specs.declared.spot.Spot.{Spot}

-- what was replaced on the way to a spot
abbrev pub stamp_of : Spot → Stamp
stamp_of s = record { src = s.src; dst = s.dst; sport = s.sport; dport = s.dport }

abbrev pub spot_at : Place → Stamp → Spot
spot_at p t = record { place = p; src = t.src; dst = t.dst; sport = t.sport; dport = t.dport }

-- where a header of the region is
abbrev pub state_of : Header → Spot → State
state_of h s = record { place = s.place; header = applied (stamp_of s) h }

-- the header against which a region is told
pub record IsBase (c : Cube) (g : Header) : Type 0 where
  pub fits : IsHeader g
  pub inside : IsIn c (number g)

-- a field that is replaced is alike in both headers, x in the base and y in another, and gets another value
abbrev pub FieldFits : ℕ → ℕ → Option ℕ → Type 0
FieldFits x y None = x ≡ x
FieldFits x y (Some v) = (y ≡ x) × ((v == x) ≡ false)

pub record StampFits (g h : Header) (s : Stamp) : Type 0 where
  pub src : FieldFits g.src h.src s.src
  pub dst : FieldFits g.dst h.dst s.dst
  pub sport : FieldFits g.sport h.sport s.sport
  pub dport : FieldFits g.dport h.dport s.dport

-- the stamp changes what it replaces, and alike in all headers of the region
pub record IsSpot (c : Cube) (g : Header) (s : Spot) : Type 0 where
  pub stamp : (h : Header) → IsHeader h → IsIn c (number h) → StampFits g h (stamp_of s)
  pub fits : IsStamp (stamp_of s)

-- the stamp told from the start of the walk, where an earlier stamp led to the spot
abbrev pub since_start : Header → Stamp → Stamp → Stamp
since_start g before s = changed_fields (followed before s) g

-- the move with its stamp told from the start of the walk
abbrev pub relative : Header → Stamp → StampMove → StampMove
relative g before stamped.Drop = stamped.Drop
relative g before (stamped.Local p) = stamped.Local p
relative g before stamped.Lost = stamped.Lost
relative g before (stamped.Exit p s) = stamped.Exit p (since_start g before s)
relative g before (stamped.Go p s) = stamped.Go p (since_start g before s)

-- where a move goes on to
abbrev pub next_spot : StampMove → Option Spot
next_spot stamped.Drop = None
next_spot (stamped.Local p) = None
next_spot stamped.Lost = None
next_spot (stamped.Exit p s) = None
next_spot (stamped.Go p s) = Some (spot_at p s)

-- how a move told from the start ends a walk where the TTL on arrival is above 1
abbrev pub outcome_by : StampMove → Option Outcome
outcome_by stamped.Drop = Some outcome.Dropped
outcome_by (stamped.Local p) = Some (outcome.Local p)
outcome_by stamped.Lost = Some outcome.Dropped
outcome_by (stamped.Exit p s) = Some (outcome.Exit p s.src s.dst s.sport s.dport)
outcome_by (stamped.Go p s) = None

-- and where it is 1: what would be sent on expires (RFC 1812, 5.3.1)
abbrev pub last_outcome_by : StampMove → Option Outcome
last_outcome_by stamped.Drop = Some outcome.Dropped
last_outcome_by (stamped.Local p) = Some (outcome.Local p)
last_outcome_by stamped.Lost = Some outcome.Expired
last_outcome_by (stamped.Exit p s) = Some outcome.Expired
last_outcome_by (stamped.Go p s) = Some outcome.Expired

abbrev pub outcome_of_move : Bool → StampMove → Option Outcome
outcome_of_move true = last_outcome_by
outcome_of_move false = outcome_by
