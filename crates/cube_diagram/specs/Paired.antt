-- Two functions as one whose values number the pairs of theirs.
use Rattle.std.specs.Prelude.{ℕ, Option, Some, None, ◌≡◌, ◌<◌, ◌≤◌, min, List, length, slice_get}
use Rattle.cube_diagram.specs.declared.table.Node.{Node}
use Rattle.cube_diagram.specs.declared.memo.Combination.{Combination}
use Rattle.cube_diagram.specs.declared.paired.ValuePair.{ValuePair}
use Rattle.cube_diagram.specs.Nodes.{IsModel, tested_at}

-- the number of the pair of x and y in the list; nothing where both are nothing
abbrev pub IsPairAt : List ValuePair → Option ℕ → Option ℕ → Option ℕ → Type 0
IsPairAt pairs x y None = (x ≡ None) × (y ≡ None)
IsPairAt pairs x y (Some n) = (slice_get pairs n ≡ Some (record { first = x; second = y })) × ((x ≡ None) → (y ≡ None) → ⊥)

-- r gives the number of the pair of what a and b give, and tests no bit before theirs
pub record IsPaired (nodes : List Node) (pairs : List ValuePair) (a b r : ℕ) : Type 0 where
  pub first : a < length nodes
  pub second : b < length nodes
  pub below : r < length nodes
  pub value : (val : ℕ → ℕ → Option ℕ) → IsModel nodes val → (h : ℕ) → IsPairAt pairs (val a h) (val b h) (val r h)
  pub order : min (tested_at nodes a) (tested_at nodes b) ≤ tested_at nodes r

-- what is remembered is so
abbrev pub IsPairedBy : List Node → List ValuePair → Combination → Type 0
IsPairedBy nodes pairs m = IsPaired nodes pairs m.first m.second m.result
