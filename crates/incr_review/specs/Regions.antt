-- Regions: what a review knows of the headers at each ingress.
use Rattle.std.specs.Prelude.{ℕ, ◌≡◌, ◌<◌, ◌==◌, ◌&&◌, Bool, not, List, ◌++◌, Some, Contains, count_by, length, slice_get}
use Rattle.std.specs.List.{list_any}
use Rattle.hdr_bits.specs.declared.header.Header.{Header}
use Rattle.hdr_bits.specs.HeaderBits.{IsHeader}
use Rattle.cube_diagram.specs.Functions.{Functions, count_of}
use Rattle.net_types.specs.declared.network.Place.{Place}
use Rattle.net_types.specs.World.{World}
use Rattle.net_types.specs.Walks.{label}
use Rattle.set_walk.specs.Sets.{InSet}
use Rattle.incr_review.specs.declared.regions.Region.{Region}
use Rattle.incr_review.specs.Parts.{IsFilled, has_header}
use Rattle.incr_review.specs.Walked.{WalksSo}

-- none of its headers visits the device
abbrev pub stays : ℕ → Region → Bool
stays device r = not (list_any (λ d. d == device) r.devices)

-- the header is one of the region's at the ingress of this position
abbrev pub in_region : Functions → ℕ → Header → Region → Bool
in_region fs slot h r = r.slot == slot && has_header fs r.headers h

-- the header walks as the region says: with its old label in the old world, and in the edited one with its new label and to
-- exactly its devices
pub record IsRight (old new : World) (t : ℕ) (p : Place) (h : Header) (r : Region) : Type 0 where
  pub before : label old t p h ≡ r.old
  pub after : WalksSo new t p h r.new r.devices

-- so each header of each region does, and a region has a header
pub record AreRight (old new : World) (t : ℕ) (ingress : List Place) (fs : Functions) (regions : List Region) : Type 0 where
  pub below : (r : Region) → Contains regions r → r.headers < count_of fs
  pub placed : (r : Region) → Contains regions r → r.slot < length ingress
  pub some : (r : Region) → Contains regions r → IsFilled fs r.headers
  pub right : (r : Region) (p : Place) (h : Header) → Contains regions r → slice_get ingress r.slot ≡ Some p → IsHeader h → InSet fs r.headers h → IsRight old new t p h r

-- a review: each header is at each ingress in exactly one region, which says what is so in the old and in the edited world
pub record AreReviewed (old new : World) (t : ℕ) (ingress : List Place) (fs : Functions) (regions : List Region) : Type 0 where
  pub right : AreRight old new t ingress fs regions
  pub one : (slot : ℕ) (h : Header) → slot < length ingress → IsHeader h → count_by (in_region fs slot h) regions ≡ 1

-- no two regions of one ingress say the same of their headers
pub record StandApart (regions : List Region) : Type 0 where
  pub apart : (i j : ℕ) (q r : Region) → slice_get regions i ≡ Some q → slice_get regions j ≡ Some r → q.slot ≡ r.slot → q.old ≡ r.old → q.new ≡ r.new → q.devices ≡ r.devices → i ≡ j

-- the list goes on behind these
pub record StartsWith (front all : List Region) : Type 0 where
  pub rest : List Region
  pub are : all ≡ front ++ rest
