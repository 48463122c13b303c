-- The leaves of slots, and rows by them.
use Rattle.std.specs.Prelude.{ℕ, ⊤, ◌≡◌, ◌==◌, ◌<◌, ◌^◌, List, Vec, Option, Some, IfSome, Any, filter, slice_get}
use Rattle.task_board.specs.declared.leaf.Leaf.{Leaf}
use Rattle.task_board.specs.Regions.{Holds}
use Rattle.net_types.specs.declared.network.Row.{Row}
use Rattle.pair_rows.specs.declared.leaves.SlotLeaves.{SlotLeaves}
use Rattle.pair_rows.specs.Pairs.{Pair, AreRowsWithPairs}

-- the header is in a leaf of the slot
abbrev pub HoldsHeader : ℕ → List (Leaf ⊤) → ℕ → Type 0
HoldsHeader slot leaves h = Any (λ l. Holds slot h l.region) leaves

-- the slot's leaves, in order
abbrev pub leaves_of : List (Leaf ⊤) → ℕ → List (Leaf ⊤)
leaves_of leaves slot = filter (λ l. l.region.slot == slot) leaves

-- each slot has its leaves
abbrev pub AreSorted : {K : Type 0} → List (Leaf ⊤) → List (SlotLeaves K) → Type 0
AreSorted {K} leaves lists = (slot : ℕ) (s : SlotLeaves K) → slice_get lists slot ≡ Some s → s.leaves.items ≡ leaves_of leaves slot

-- where there are rows, they are the function's, if the leaves hold all headers of the slot
abbrev pub MakesRows : {A : Type 0} → (ℕ → Option Pair) → ℕ → List (Leaf ⊤) → Option (Vec Row A) → Type 0
MakesRows labels slot leaves made = ((h : ℕ) → h < 2 ^ 112 → HoldsHeader slot leaves h) → IfSome made (λ rows. AreRowsWithPairs labels rows.items)

-- the rows of a slot after its leaves before
abbrev pub IsMade : {K : Type 0} → (ℕ → Option Pair) → ℕ → SlotLeaves K → SlotLeaves K → Type 0
IsMade labels slot old new = MakesRows labels slot old.leaves.items new.rows
