-- Headers that are walked again together: those of one ingress and one old label.
use Rattle.std.specs.Prelude.{ℕ, ◌≡◌, ◌<◌, ◌≤◌, ◌⊎◌, Bool, List, [], ◌∷◌, ◌++◌, Some, Contains, count_by, length, slice_get, slice_set}
use Rattle.hdr_bits.specs.declared.header.Header.{Header}
use Rattle.hdr_bits.specs.HeaderBits.{IsHeader}
use Rattle.cube_diagram.specs.Functions.{Functions, count_of}
use Rattle.set_walk.specs.Sets.{InSet, IsSetOf}
use Rattle.incr_review.specs.declared.groups.Group.{Group}
use Rattle.incr_review.specs.declared.regions.Region.{Region}
use Rattle.incr_review.specs.Regions.{in_region}
use Rattle.incr_review.specs.Again.{WasIn}

-- a group as a region of which only the headers, their ingress and their old label are known
abbrev pub as_known : Group → Region
as_known q = record { slot = q.slot; headers = q.headers; old = q.old; new = []; devices = [] }

abbrev pub in_group : Functions → ℕ → Header → Group → Bool
in_group fs slot h q = in_region fs slot h (as_known q)

abbrev pub AreGroupsBelow : Functions → List Group → Type 0
AreGroupsBelow fs groups = (q : Group) → Contains groups q → q.headers < count_of fs

-- no header is at an ingress in two of the regions
abbrev pub IsDisjoint : Functions → List Region → Type 0
IsDisjoint fs regions = (slot : ℕ) (h : Header) → IsHeader h → count_by (in_region fs slot h) regions ≤ 1

-- one of the regions is at this ingress
pub record HasRegionAt (regions : List Region) (n : ℕ) : Type 0 where
  pub region : Region
  pub among : Contains regions region
  pub slot : region.slot ≡ n

-- the groups have the headers of the regions, each at its ingress and with its old label
pub record AreJoined (f : Functions) (regions : List Region) (g : Functions) (groups : List Group) : Type 0 where
  pub below : AreGroupsBelow g groups
  pub from : (q : Group) → Contains groups q → HasRegionAt regions q.slot
  pub one : (slot : ℕ) (h : Header) → IsHeader h → count_by (in_group g slot h) groups ≡ count_by (in_region f slot h) regions
  pub was : (q : Group) (h : Header) → Contains groups q → IsHeader h → InSet g q.headers h → WasIn f regions h (as_known q)

-- the group at this index has the region's ingress and old label
pub record IsGroupOf (r : Region) (groups : List Group) (index : ℕ) : Type 0 where
  pub group : Group
  pub within : index < length groups
  pub there : slice_get groups index ≡ Some group
  pub slot : group.slot ≡ r.slot
  pub old : group.old ≡ r.old

-- the region's headers are a group more
abbrev pub AddsGroup : Region → List Group → List Group → Type 0
AddsGroup r olds news = news ≡ olds ++ record { slot = r.slot; headers = r.headers; old = r.old } ∷ []

-- a group of the region's ingress and old label has the region's headers besides
pub record WidensGroup (f : Functions) (r : Region) (g : Functions) (olds news : List Group) : Type 0 where
  pub index : ℕ
  pub of : IsGroupOf r olds index
  pub headers : ℕ
  pub below : headers < count_of g
  pub exact : IsSetOf g headers (λ h. InSet f of.group.headers h ⊎ InSet f r.headers h)
  pub set_is : news ≡ slice_set olds index (record { slot = of.group.slot; headers = headers; old = of.group.old })

abbrev pub JoinsRegion : Functions → Region → Functions → List Group → List Group → Type 0
JoinsRegion f r g olds news = AddsGroup r olds news ⊎ WidensGroup f r g olds news
