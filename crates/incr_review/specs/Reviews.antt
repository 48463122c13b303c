-- A review.
use Rattle.std.specs.Prelude.{ℕ, ◌≡◌, ◌≤◌, Bool, true, List, length}
use Rattle.std.specs.List.{sum_by}
use Rattle.cube_diagram.specs.Functions.{Functions}
use Rattle.live_network.specs.declared.live.LiveWays.{LiveWays}
use Rattle.live_network.specs.Live.{IsLive}
use Rattle.net_types.specs.declared.network.Network.{Network}
use Rattle.net_types.specs.declared.network.Place.{Place}
use Rattle.net_types.specs.declared.network.Section.{Section}
use Rattle.net_types.specs.World.{World}
use Rattle.net_types.specs.Report.{IsReport}
use Rattle.incr_review.specs.declared.regions.Region.{Region}
use Rattle.incr_review.specs.Live.{HaveNoRules}
use Rattle.incr_review.specs.Regions.{AreReviewed}

-- the old network with the links, the edited network, the TTL, and the regions, whose sets are functions of the table
pub record ReviewState : Type 0 where
  pub baseline : World
  pub edited : Network
  pub ttl : ℕ
  pub table : Functions
  pub regions : List Region

-- the edited network with the same links
abbrev pub edited_world : ReviewState → World
edited_world r = record { network = r.edited; links = r.baseline.links }

-- each header at each ingress is in exactly one region, which says what is so of it in both worlds
pub record IsReview (r : ReviewState) : Type 0 where
  pub least : 1 ≤ r.ttl
  pub reviewed : AreReviewed r.baseline (edited_world r) r.ttl r.baseline.links.ingress r.table r.regions

-- all rows of the sections
abbrev pub row_total : List Section → ℕ
row_total sections = sum_by (λ s. length s.rows) sections

-- the report on two worlds has so many rows
pub record HasRowsOf (ingress : List Place) (old new : World) (t count : ℕ) : Type 0 where
  pub sections : List Section
  pub report : IsReport ingress old new t sections
  pub count_is : count ≡ row_total sections

-- so has that of the review
pub record HasRows (r : ReviewState) (count : ℕ) : Type 0 where
  pub sections : List Section
  pub report : IsReport r.baseline.links.ingress r.baseline (edited_world r) r.ttl sections
  pub count_is : count ≡ row_total sections

-- all that is kept: the review, the ways of the edited network, and whether it is known that no device translates
pub record IsKept (baseline : World) (edited : Network) (t : ℕ) (live : LiveWays) (plain : Bool) (regions : List Region) : Type 0 where
  pub review : IsReview (record { baseline = baseline; edited = edited; ttl = t; table = live.tables.diagrams; regions = regions })
  pub live_is : IsLive (record { network = edited; links = baseline.links }) live
  pub plain_is : plain ≡ true → HaveNoRules edited.devices
