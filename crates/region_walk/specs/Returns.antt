-- Loops among the visits of a region.
use Rattle.std.specs.Prelude.{ℕ, zero, suc, ◌-◌, ◌<◌, ◌≤◌, List, [], ◌∷◌, flat_map, Contains}
use Rattle.region_walk.specs.declared.visit.Visit.{Visit}
use Rattle.region_walk.specs.declared.level.Level.{Level}
use Rattle.region_walk.specs.Lists.{items_at}
use Rattle.region_walk.specs.Visits.{next_numbers, states_at}

-- the numbers of the visits to which walks of n moves lead from the one with this number
abbrev pub numbers_after : List Visit → ℕ → ℕ → List ℕ
numbers_after visits zero state = state ∷ []
numbers_after visits (suc n) state = flat_map next_numbers (items_at visits (numbers_after visits n state))

-- a walk of at most so many moves leads back
pub record ComesBack (visits : List Visit) (limit state : ℕ) : Type 0 where
  pub around : ℕ
  pub moves : 1 ≤ around
  pub within : around ≤ limit
  pub again : Contains (numbers_after visits around state) state

pub record SomeComesBack (visits : List Visit) (limit : ℕ) (states : List ℕ) : Type 0 where
  pub state : ℕ
  pub among : Contains states state
  pub back : ComesBack visits limit state

-- a walk of at most so many moves leads to a visit and back to it
pub record HasLoop (visits : List Visit) (levels : List Level) (limit : ℕ) : Type 0 where
  pub before : ℕ
  pub within : before < limit
  pub back : SomeComesBack visits (limit - before) (states_at levels before)
