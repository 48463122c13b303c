-- the table of functions: which rows the function with a number has
use Rattle.std.specs.Prelude.{ℕ, ◌≡◌, ◌≢◌, ◌<◌, ◌+◌, ◌^◌, ◌⊎◌, List, [], ◌∷◌, Option, Some, slice_get}
use Rattle.std.proofs.Common.{zero, suc}
use Rattle.canon_rows.specs.declared.table.Node.{Node}
use Rattle.canon_rows.specs.declared.table.Node.TheVariants.{NoRow, OneRow, Halves}
use Rattle.canon_rows.specs.PlainRows.{Plain, whole, IsRowsOf, IsWellFormed, Each}

abbrev pub one_row : Plain → Node
one_row t = OneRow t.fixed t.bits t.value

-- the node tells these rows: none, one, or more, which are cut into halves
abbrev pub Tells : (Node → List Plain → Type 0) → Node → List Plain → Type 0
Tells IsCutInto x [] = x ≡ NoRow
Tells IsCutInto x (t ∷ []) = x ≡ one_row t
Tells IsCutInto x (t ∷ u ∷ ts) = IsCutInto x (t ∷ u ∷ ts)

-- the node with this number tells these rows
pub record HasEntry (nodes : List Node) (IsCutInto : Node → List Plain → Type 0) (id : ℕ) (rows : List Plain) : Type 0 where
  pub node : Node
  pub entry : slice_get nodes id ≡ Some node
  pub tells : Tells IsCutInto node rows

-- the node is cut at the bit of weight 2 ^ m, and its halves stand for the halves of the rows
pub record IsCutAt (StandsFor : ℕ → List Plain → Type 0) (m : ℕ) (x : Node) (rows : List Plain) : Type 0 where
  pub low : ℕ
  pub high : ℕ
  pub zeros : List Plain
  pub ones : List Plain
  pub is : x ≡ Halves m low high
  pub both : rows ≡ whole m zeros ones
  pub low_stands : StandsFor low zeros
  pub high_stands : StandsFor high ones
  pub low_fits : Each (IsWellFormed m) zeros
  pub high_fits : Each (IsWellFormed m) ones

-- the node is cut at one of the last bits
unfoldable pub IsCut : List Node → ℕ → Node → List Plain → Type 0
IsCut nodes zero x rows = ⊥
IsCut nodes (suc m) x rows = IsCut nodes m x rows ⊎ IsCutAt (HasEntry nodes (IsCut nodes m)) m x rows

-- the number stands for the function with these rows on the numbers below 2 ^ width
abbrev pub StandsFor : List Node → ℕ → ℕ → List Plain → Type 0
StandsFor nodes width id rows = HasEntry nodes (IsCut nodes width) id rows

-- the number stands for f on the numbers below 2 ^ width
pub record IsNumberOf (nodes : List Node) (width id : ℕ) (f : ℕ → Option ℕ) : Type 0 where
  pub rows : List Plain
  pub of : IsRowsOf width f rows
  pub stands : StandsFor nodes width id rows

-- g and h are f where the bit of weight 2 ^ m is 0, and where it is 1
abbrev pub AreHalvesOf : ℕ → (ℕ → Option ℕ) → (ℕ → Option ℕ) → (ℕ → Option ℕ) → Type 0
AreHalvesOf m f g h = (n : ℕ) → n < 2 ^ m → (g n ≡ f n) × (h n ≡ f (n + 2 ^ m))

-- the node is that of the function whose two halves these numbers stand for, where they differ
abbrev pub IsOfHalves : List Node → ℕ → ℕ → ℕ → Node → Type 0
IsOfHalves nodes m low high x =
    (zeros ones : List Plain) → StandsFor nodes m low zeros → StandsFor nodes m high ones → Each (IsWellFormed m) zeros → Each (IsWellFormed m) ones → zeros ≢ ones → Tells (IsCut nodes (suc m)) x (whole m zeros ones)

-- no node has two numbers
pub record AreDistinct (nodes : List Node) : Type 0 where
  pub apart : (i j : ℕ) (x : Node) → slice_get nodes i ≡ Some x → slice_get nodes j ≡ Some x → i ≡ j
