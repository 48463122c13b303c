-- The devices to which the walks of a region come.
use Rattle.std.specs.Prelude.{ℕ, ◌≡◌, ◌<◌, List, Contains}
use Rattle.region_walk.specs.declared.visit.Visit.{Visit}
use Rattle.region_walk.specs.declared.level.Level.{Level}
use Rattle.region_walk.specs.Visits.{visits_at}

-- one of the visits is at a place of the device
pub record IsAmong (device : ℕ) (visits : List Visit) : Type 0 where
  pub visit : Visit
  pub among : Contains visits visit
  pub there : visit.spot.place.device ≡ device

-- one of those at the first levels, so many, is
pub record IsMet (visits : List Visit) (levels : List Level) (limit device : ℕ) : Type 0 where
  pub count : ℕ
  pub within : count < limit
  pub met : IsAmong device (visits_at visits levels count)
