-- What a contract sees of the two ends of a lane.
use Rattle.std.specs.Prelude.{◌≡◌, ℕ, ◌-◌, List, [], ◌∷◌, length, take, map}
use Rattle.std.specs.declared.alloc.Global.{Global}
use Rattle.atomic_blocks.specs.Lent.{RowsId}
use Rattle.crossbeam_deque.specs.Handles.{Pass, view}
use Rattle.steal_pool.specs.declared.rule.Task.{Task}
use Rattle.steal_pool.specs.declared.rule.View.{View}
use Rattle.steal_pool.specs.Paths.{Path}
use Rattle.steal_pool.specs.Lane.{TakesFirst, WasEmpty}

pub record OwnerSeat : Type 0 where
  pub lane : RowsId × Global
  pub capacity : ℕ
  pub pushed : List Task
  pub taken : List Task
  pub paths : List Path

pub record ThiefSeat : Type 0 where
  pub lane : RowsId × Global
  pub taken : List Task
  pub path : Path
  -- how many tasks it knows to have left the lane
  pub gone : ℕ

abbrev pub owner_of : RowsId × Global → ℕ → View → OwnerSeat
owner_of lane capacity v = record { lane = lane; capacity = capacity; pushed = v.pushed; taken = v.taken; paths = v.paths }

-- the paths of each port
abbrev pub port_paths : List (Pass Task View Global) → List (List Path)
port_paths ps = map (λ (p : Pass Task View Global). (view p).paths) ps

-- each path as a port's only one
abbrev pub singles : List Path → List (List Path)
singles ls = map (λ l. l ∷ []) ls

-- what the first port's path was k splits before
abbrev pub path_before : ℕ → List Path → Path
path_before k [] = []
path_before k (l ∷ ls) = take (length l - k) l

-- the seat with this list got the task of least place that was in the lane
abbrev pub Takes : List Task → Task → Type 0
Takes taken t = (v : View) × (w : View) × (v.taken ≡ taken) × TakesFirst v (t ∷ []) w

-- some lane under the rule, with a port that has this list, was empty
abbrev pub Finds : List Task → Type 0
Finds taken = (v : View) × (v.taken ≡ taken) × WasEmpty v

abbrev pub thief_of : RowsId × Global → ℕ → ℕ → View → ThiefSeat
thief_of lane k gone v = record { lane = lane; taken = v.taken; path = path_before k v.paths; gone = gone }
