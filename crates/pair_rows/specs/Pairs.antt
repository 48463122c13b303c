-- Pairs of labels, by numbers in a list and in rows.
use Rattle.std.specs.Prelude.{ℕ, ◌≡◌, ◌<◌, ◌^◌, List, Option, Some, None, IsSome, All, AllPairs, Any, slice_get, option_map, map}
use Rattle.std.specs.List.{AllByRecursion}
use Rattle.hdr_bits.specs.declared.cube.Cube.{Cube}
use Rattle.hdr_bits.specs.CubeBits.{IsIn}
use Rattle.hdr_bits.specs.Rows.{IsRow, ComesBefore, AreRows}
use Rattle.cube_alg.specs.declared.cut.Piece.{Piece}
use Rattle.net_types.specs.declared.label.Outcome.{Outcome}
use Rattle.net_types.specs.declared.network.Row.{Row}
use Rattle.net_types.specs.Order.{IsLabel}

-- an old and a new label
abbrev pub Pair : Type 0
Pair = List Outcome × List Outcome

-- both are labels
abbrev pub AreLabels : Pair → Type 0
AreLabels pair = IsLabel pair.0 × IsLabel pair.1

-- no item has two numbers
pub record AreDistinct {A : Type 0} (items : List A) : Type 0 where
  pub apart : (i j : ℕ) (x : A) → slice_get items i ≡ Some x → slice_get items j ≡ Some x → i ≡ j

-- the number of the pair in the list; none where there is no pair
abbrev pub IsNumberOf : List Pair → Option ℕ → Option Pair → Type 0
IsNumberOf pairs None pair = pair ≡ None
IsNumberOf pairs (Some n) pair = (pair ≡ slice_get pairs n) × IsSome pair

-- each header of the row has the row's two labels
abbrev pub HasLabelPair : (ℕ → Option Pair) → Row → Type 0
HasLabelPair labels r = (h : ℕ) → h < 2 ^ 112 → IsIn r.cube h → labels h ≡ Some (r.old, r.new)

abbrev pub cubes_of : List Row → List Cube
cubes_of rows = map (λ r. r.cube) rows

-- the canonical rows of the function, in order, each with its pair
pub record AreRowsWithPairs (labels : ℕ → Option Pair) (rows : List Row) : Type 0 where
  pub cubes : AreRows labels (map (λ r. r.cube) rows)
  pub pairs : AllByRecursion (HasLabelPair labels) rows

-- some of the canonical rows of the function, in order, each with its pair: of these headers each that has a pair is in one
pub record AreRowsFor (labels : ℕ → Option Pair) (headers : ℕ → Type 0) (rows : List Row) : Type 0 where
  pub each : All (IsRow labels) (cubes_of rows)
  pub covers : (h : ℕ) → h < 2 ^ 112 → headers h → IsSome (labels h) → Any (λ c. IsIn c h) (cubes_of rows)
  pub ordered : AllPairs ComesBefore (cubes_of rows)
  pub pairs : AllByRecursion (HasLabelPair labels) rows

abbrev pub shown : Row → Cube × Pair
shown r = (r.cube, (r.old, r.new))

-- the row of a piece whose number is in the list
abbrev pub shown_by : List Pair → Piece → Option (Cube × Pair)
shown_by pairs p = option_map (λ pair. (p.cube, pair)) (slice_get pairs p.value)
