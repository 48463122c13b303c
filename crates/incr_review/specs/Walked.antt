-- Sets of headers with their labels and the devices that they visit.
use Rattle.std.specs.Prelude.{ℕ, ◌≡◌, ◌≢◌, ◌<◌, ◌↔◌, Bool, List, [], Option, Some, None, Contains, count_by, filter_map, slice_get}
use Rattle.std.specs.List.{AllZip}
use Rattle.hdr_bits.specs.declared.header.Header.{Header}
use Rattle.hdr_bits.specs.HeaderBits.{number, IsHeader}
use Rattle.cube_diagram.specs.Functions.{Functions, count_of, value_at}
use Rattle.net_types.specs.declared.label.Outcome.{Outcome}
use Rattle.net_types.specs.declared.network.Place.{Place}
use Rattle.net_types.specs.World.{World}
use Rattle.net_types.specs.Order.{in_order, outcome_cmp}
use Rattle.net_types.specs.Walks.{label}
use Rattle.net_types.specs.Visits as visiting
use Rattle.set_walk.specs.Sets.{InSet}
use Rattle.incr_review.specs.declared.facts.WalkFact.{WalkFact}
use Rattle.incr_review.specs.declared.facts.WalkFact.TheVariants.{Ends, Visits}
use Rattle.incr_review.specs.declared.parts.Part.{Part}
use Rattle.incr_review.specs.declared.walked.WalkedPart.{WalkedPart}
use Rattle.incr_review.specs.Parts.{ones, IsFilled, has_header}

-- the header has this label and visits exactly these devices
pub record WalksSo (w : World) (t : ℕ) (p : Place) (h : Header) (outcomes : List Outcome) (devices : List ℕ) : Type 0 where
  pub label_is : label w t p h ≡ outcomes
  pub visits : (d : ℕ) → Contains devices d ↔ visiting.Visits w t p h d

abbrev pub in_walked : Functions → Header → WalkedPart → Bool
in_walked fs h q = has_header fs q.headers h

-- each header of the domain is in one part, and no other header is in one; all headers of a part walk as it says, and no two
-- parts say the same
pub record AreWalked (w : World) (t : ℕ) (p : Place) (fs : Functions) (domain : ℕ) (parts : List WalkedPart) : Type 0 where
  pub below : (q : WalkedPart) → Contains parts q → q.headers < count_of fs
  pub some : (q : WalkedPart) → Contains parts q → IsFilled fs q.headers
  pub one : (h : Header) → IsHeader h → count_by (in_walked fs h) parts ≡ ones (value_at fs domain (number h))
  pub right : (q : WalkedPart) (h : Header) → Contains parts q → IsHeader h → InSet fs q.headers h → WalksSo w t p h q.label q.devices
  pub apart : (i j : ℕ) (q r : WalkedPart) → slice_get parts i ≡ Some q → slice_get parts j ≡ Some r → q.label ≡ r.label → q.devices ≡ r.devices → i ≡ j

-- ---- by facts

abbrev pub outcome_in : WalkFact → Option Outcome
outcome_in (Ends o) = Some o
outcome_in (Visits d) = None

abbrev pub device_in : WalkFact → Option ℕ
device_in (Ends o) = None
device_in (Visits d) = Some d

abbrev pub outcomes_of : Part → List Outcome
outcomes_of q = filter_map outcome_in q.facts.items

abbrev pub HaveOutcomes : List Part → Type 0
HaveOutcomes parts = (q : Part) → Contains parts q → outcomes_of q ≢ []

-- the same headers, with the label and the devices of the facts
pub record IsLabelled (q : Part) (x : WalkedPart) : Type 0 where
  pub headers : x.headers ≡ q.headers
  pub label_is : x.label ≡ in_order outcome_cmp (outcomes_of q)
  pub devices : x.devices ≡ filter_map device_in q.facts.items

abbrev pub AreLabelled : List Part → List WalkedPart → Type 0
AreLabelled parts all = AllZip IsLabelled parts all
