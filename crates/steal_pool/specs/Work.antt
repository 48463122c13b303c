-- What work on a region tells.
use Rattle.std.specs.Prelude.{ℕ, ◌≡◌, ◌<◌, ◌≤◌, ◌^◌, List, length, Option, None, IsSome, All, AllPairs, Any}
use Rattle.hdr_bits.specs.CubeBits.{IsStar, digit_at}
use Rattle.cube_alg.specs.declared.Region.{Region}
use Rattle.task_board.specs.Regions.{Holds, LieApart, LiesWithin}
use Rattle.task_board.specs.Stands.{IsRight}
use Rattle.steal_pool.specs.declared.splitter.Worked.{Worked}
use Rattle.steal_pool.specs.declared.splitter.Worked.TheVariants.{Nothing, Whole, Parts}

-- the second has a digit at a bit where the first has `*`, and has no `*` where the first has none
pub record FixesMore (r s : Region) : Type 0 where
  pub at : ℕ
  pub within : at < 112
  pub star : IsStar r.cube at
  pub digit : IsSome (digit_at s.cube at)
  pub others : (k : ℕ) → k < 112 → IsStar s.cube k → IsStar r.cube k

-- The parts are 2 to 113 regions, pairwise disjoint, and they cover the region exactly. Each has more fixed bits
-- than the region
pub record Divide (region : Region) (parts : List Region) : Type 0 where
  pub several : 2 ≤ length parts
  pub few : length parts ≤ 113
  pub apart : AllPairs LieApart parts
  pub inside : All (λ p. LiesWithin p region) parts
  pub covers : (slot h : ℕ) → Holds slot h region → Any (Holds slot h) parts
  pub finer : All (FixesMore region) parts

-- no header of the region has a value
pub record HasNone {V : Type 0} (gives : ℕ → ℕ → Option V) (region : Region) : Type 0 where
  pub none : (slot h : ℕ) → h < 2 ^ 112 → Holds slot h region → gives slot h ≡ None

-- what came of the work is so: no header has a value, each has this one, or the parts divide the region
abbrev pub IsWorkOf : {V : Type 0} → (ℕ → ℕ → Option V) → Region → Worked V → Type 0
IsWorkOf gives region Nothing = HasNone gives region
IsWorkOf gives region (Whole value) = IsRight gives (record { region = region; value = value })
IsWorkOf gives region (Parts parts) = Divide region parts.items
