-- The rule of a lane. A seat is the owner, at port 0 of the deque, or a thief, which has a port for each extension of its
-- path to six digits.
use Rattle.std.specs.Prelude.{◌≡◌, ◌≢◌, ℕ, zero, suc, ◌+◌, List, [], ◌∷◌, ◌++◌, slice_set}
use mathlib.Core.Option.{some}
use lib.ListN.{get_elem?}
use Rattle.steal_pool.specs.declared.rule.View.{View}
use Rattle.steal_pool.specs.declared.rule.Task.{Task}
use Rattle.steal_pool.specs.Paths.{Path, Word, total, begins, MakeWhole}

abbrev pub seat : List Task → List Task → List Path → View
seat pushed taken paths = record { pushed = pushed; taken = taken; paths = paths }

-- the places count from k
abbrev pub Numbered : ℕ → List Task → Type 0
Numbered k [] = Unit {0}
Numbered k (t ∷ ts) = (t.place ≡ k) × Numbered (k + 1) ts

-- What holds of a lane between any two steps, with these tasks in it and these views of its ports
pub record IsLane (items : List Task) (views : List View) : Type 0 where
  -- all tasks that were pushed, and those that are gone from the lane; the front is how many are gone
  pub pushed : List Task
  pub gone : List Task
  -- the tasks from the front on are in the lane, in order
  pub order : pushed ≡ gone ++ items
  -- places count the pushes from 0
  pub places : Numbered 0 pushed
  -- the owner knows all tasks that were pushed
  pub owner : (v : View) → get_elem? views 0 ≡ some v → v.pushed ≡ pushed
  -- The tasks that are gone stand in the lists of the ports, each as often, and nothing else does: whatever number each
  -- task is given, the sums agree
  pub seats : (h : Task → ℕ) → total (λ v. total h v.taken) views ≡ total h gone
  -- the paths of all ports make the whole
  pub shares : (w : Word) → total (λ v. total (begins w) v.paths) views ≡ 1
  -- a port but the owner's without a path has taken nothing
  pub spent : (port : ℕ) (v : View) → get_elem? views port ≡ some v → port ≢ 0 → v.paths ≡ [] → v.taken ≡ []

-- the task of least place moved from the lane into this port's list
abbrev pub TakesFirst : View → List Task → View → Type 0
TakesFirst v xs w = (port : ℕ) × (items : List Task) × (views : List View) × IsLane (xs ++ items) views × (get_elem? views port ≡ some v) × IsLane items (slice_set views port w) × (w ≡ seat v.pushed (v.taken ++ xs) v.paths)

-- the lane was empty at a moment
abbrev pub WasEmpty : View → Type 0
WasEmpty v = (port : ℕ) × (views : List View) × IsLane [] views × (get_elem? views port ≡ some v)

-- what a gathered lane's owner knows: what was pushed is what it took and what is left, each task as often
abbrev pub Gathers : View → List Task → Type 0
Gathers v items = MakeWhole v.paths → (h : Task → ℕ) → total h v.pushed ≡ total h v.taken + total h items

-- 1 for equal numbers, else 0
abbrev pub same : ℕ → ℕ → ℕ
same zero zero = 1
same zero (suc j) = 0
same (suc i) zero = 0
same (suc i) (suc j) = same i j

-- how often a place stands in the lists of all ports
abbrev pub times : ℕ → List View → ℕ
times k views = total (λ (v : View). total (λ (t : Task). same t.place k) v.taken) views
