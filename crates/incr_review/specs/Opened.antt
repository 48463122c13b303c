-- The regions of a review in which nothing was edited yet.
use Rattle.std.specs.Prelude.{ℕ, ◌≡◌, ◌<◌, ◌≤◌, List, Some, Contains, count_by, length, slice_get}
use Rattle.hdr_bits.specs.declared.header.Header.{Header}
use Rattle.hdr_bits.specs.HeaderBits.{IsHeader}
use Rattle.cube_diagram.specs.Functions.{Functions, count_of}
use Rattle.net_types.specs.declared.network.Place.{Place}
use Rattle.net_types.specs.World.{World}
use Rattle.set_walk.specs.Sets.{InSet}
use Rattle.incr_review.specs.declared.regions.Region.{Region}
use Rattle.incr_review.specs.Parts.{IsFilled}
use Rattle.incr_review.specs.Walked.{WalksSo}
use Rattle.incr_review.specs.Regions.{StandApart, in_region}

-- each header is at each of the first ingresses in one region, and at no other; no two regions of one ingress say the same
pub record AreOpened (w : World) (t : ℕ) (ingress : List Place) (fs : Functions) (slots : ℕ) (regions : List Region) : Type 0 where
  pub below : (r : Region) → Contains regions r → r.headers < count_of fs
  pub early : (r : Region) → Contains regions r → r.slot < slots
  pub placed : (r : Region) → Contains regions r → r.slot < length ingress
  pub some : (r : Region) → Contains regions r → IsFilled fs r.headers
  pub one : (s : ℕ) (h : Header) → s < slots → IsHeader h → count_by (in_region fs s h) regions ≡ 1
  pub none : (s : ℕ) (h : Header) → slots ≤ s → IsHeader h → count_by (in_region fs s h) regions ≡ 0
  pub right : (r : Region) (p : Place) (h : Header) → Contains regions r → slice_get ingress r.slot ≡ Some p → IsHeader h → InSet fs r.headers h → (r.old ≡ r.new) × WalksSo w t p h r.new r.devices
  pub apart : StandApart regions
