-- Regions that come of walking headers.
use Rattle.std.specs.Prelude.{ℕ, ◌≡◌, ◌<◌, ◌≤◌, Bool, not, List, ◌++◌, Option, Some, None, Contains, count_by, length, option_copied, slice_get}
use Rattle.hdr_bits.specs.declared.header.Header.{Header}
use Rattle.hdr_bits.specs.HeaderBits.{number, IsHeader}
use Rattle.cube_diagram.specs.Functions.{Functions, count_of, value_at}
use Rattle.net_types.specs.declared.label.Outcome.{Outcome}
use Rattle.net_types.specs.declared.network.Place.{Place}
use Rattle.net_types.specs.World.{World}
use Rattle.net_view.specs.Borrowed.{world_of}
use Rattle.set_walk.specs.Nets.{IsNet}
use Rattle.set_walk.specs.Sets.{InSet}
use Rattle.incr_review.specs.declared.regions.Region.{Region}
use Rattle.incr_review.specs.declared.regions.Walk.{Walk}
use Rattle.incr_review.specs.declared.regions.Walking.{Walking}
use Rattle.incr_review.specs.declared.walked.WalkedPart.{WalkedPart}
use Rattle.incr_review.specs.Parts.{IsFilled, ones}
use Rattle.incr_review.specs.Walked.{WalksSo}
use Rattle.incr_review.specs.Regions.{stays, in_region}

-- some of its headers visit the device
abbrev pub leaves : ℕ → Region → Bool
leaves device r = not (stays device r)

-- the network has its ways in the table, for all headers
pub record IsWalkIn (fs : Functions) (walk : Walk) : Type 0 where
  pub net : IsNet fs walk.net.now
  pub all : (h : Header) → InSet fs walk.net.now.scope h
  pub least : 1 ≤ walk.ttl

abbrev pub ArePlaced : List Place → Functions → List Region → Type 0
ArePlaced ingress fs regions = (r : Region) → Contains regions r → (r.slot < length ingress) × (r.headers < count_of fs)

abbrev pub old_or : Option (List Outcome) → List Outcome → List Outcome
old_or None new = new
old_or (Some old) new = old

abbrev pub as_region : Walking → WalkedPart → Region
as_region walking q = record { slot = walking.slot; headers = q.headers; old = old_or (option_copied walking.old) q.label; new = q.label; devices = q.devices }

-- the regions of the headers of a set at an ingress: each of the headers is in one, and no other header; no two have the same new
-- label and the same devices
pub record AreRegionsOf (w : World) (t : ℕ) (ingress : List Place) (slot : ℕ) (old : Option (List Outcome)) (fs : Functions) (set : ℕ) (regions : List Region) : Type 0 where
  pub below : (r : Region) → Contains regions r → r.headers < count_of fs
  pub slot_is : (r : Region) → Contains regions r → r.slot ≡ slot
  pub some : (r : Region) → Contains regions r → IsFilled fs r.headers
  pub one : (h : Header) → IsHeader h → count_by (in_region fs slot h) regions ≡ ones (value_at fs set (number h))
  pub other : (s : ℕ) (h : Header) → (s ≡ slot → ⊥) → count_by (in_region fs s h) regions ≡ 0
  pub old_is : (r : Region) → Contains regions r → r.old ≡ old_or old r.new
  pub right : (r : Region) (p : Place) (h : Header) → Contains regions r → slice_get ingress slot ≡ Some p → IsHeader h → InSet fs r.headers h → InSet fs set h × WalksSo w t p h r.new r.devices
  pub apart : (i j : ℕ) (q r : Region) → slice_get regions i ≡ Some q → slice_get regions j ≡ Some r → q.new ≡ r.new → q.devices ≡ r.devices → i ≡ j

pub record AddsRegions (walk : Walk) (walking : Walking) (fs : Functions) (before after : List Region) : Type 0 where
  pub more : List Region
  pub added : after ≡ before ++ more
  pub are : AreRegionsOf (world_of walk.net.now.world) walk.ttl walk.ingress.now walking.slot (option_copied walking.old) fs walking.headers more

-- the header was in a region of the same ingress with the same old label
pub record WasIn (f : Functions) (befores : List Region) (h : Header) (r : Region) : Type 0 where
  pub region : Region
  pub among : Contains befores region
  pub inside : InSet f region.headers h
  pub slot : region.slot ≡ r.slot
  pub old : region.old ≡ r.old

-- the headers of some regions, walked again
pub record AreAgain (w : World) (t : ℕ) (ingress : List Place) (f : Functions) (befores : List Region) (g : Functions) (afters : List Region) : Type 0 where
  pub below : (r : Region) → Contains afters r → r.headers < count_of g
  pub placed : (r : Region) → Contains afters r → r.slot < length ingress
  pub some : (r : Region) → Contains afters r → IsFilled g r.headers
  pub one : (slot : ℕ) (h : Header) → IsHeader h → count_by (in_region g slot h) afters ≡ count_by (in_region f slot h) befores
  pub was : (r : Region) (p : Place) (h : Header) → Contains afters r → slice_get ingress r.slot ≡ Some p → IsHeader h → InSet g r.headers h → WasIn f befores h r × WalksSo w t p h r.new r.devices

pub record AddsAgain (w : World) (t : ℕ) (ingress : List Place) (f : Functions) (befores : List Region) (g : Functions) (before after : List Region) : Type 0 where
  pub more : List Region
  pub added : after ≡ before ++ more
  pub are : AreAgain w t ingress f befores g more
