-- The pieces of a region: what was added by the work on one part of it.
use Rattle.std.specs.Prelude.{ℕ, ◌≡◌, ◌+◌, ◌≤◌, List, ◌++◌, length, map, Option, All}
use Rattle.chunk_rope.specs.Shown.{Shown}
use Rattle.cube_alg.specs.declared.Region.{Region}
use Rattle.task_board.specs.declared.leaf.Leaf.{Leaf}
use Rattle.task_board.specs.declared.leaf.Part.{Part}
use Rattle.task_board.specs.Stands.{IsWorked}
use Rattle.steal_pool.specs.Work.{FixesMore}

-- each part has more fixed bits than the region
abbrev pub AreFiner : Region → List Part → Type 0
AreFiner region parts = All (FixesMore region) (map (λ (p : Part). p.region) parts)

-- so many leaves and parts were added, which the region was worked to, each part with more fixed bits, and the rope has
-- room for all but those leaves
pub record AddsWork {V : Type 0} (gives : ℕ → ℕ → Option V) (region : Region) (old new : Shown (Leaf V)) (open_before open_after : List Part) (count : ℕ) : Type 0 where
  pub leaves : List (Leaf V)
  pub parts : List Part
  pub worked : IsWorked gives region leaves parts
  pub finer : AreFiner region parts
  pub finished : new.items ≡ old.items ++ leaves
  pub rest : open_after ≡ open_before ++ parts
  pub counted : count ≡ length leaves + length parts
  pub few : count ≤ 113
  pub room : old.spare ≤ new.spare + length leaves
