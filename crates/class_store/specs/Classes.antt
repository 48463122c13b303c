-- The class of a label in a store, by what is known of the cells of the label's window. What a `Known` says holds for good,
-- since a cell is set at most once.
use Rattle.std.specs.Prelude.{◌≡◌, ◌≢◌, ℕ, List, [], ◌∷◌, length, Some, slice_get}
use Rattle.net_types.specs.declared.label.Outcome.{Outcome}
use Rattle.class_store.specs.declared.known.Known.{Known}
use Rattle.class_store.specs.declared.class.Class.{Class}
use Rattle.class_store.specs.declared.class.Held.{Held}
use Rattle.class_store.specs.declared.class.Held.TheVariants.{Cell, Alone}
use Rattle.class_store.specs.Windows.{window, window_start}

-- the label of a class: the one that its cell is known to hold, or where it stands alone its own
abbrev pub label_held : Held → List Outcome
label_held (Cell known) = known.value
label_held (Alone label) = label

abbrev pub label_of : Class → List Outcome
label_of class = label_held class.held

-- the first cells of a window are known, one after the other, to hold other labels
abbrev pub HoldOthers : List ℕ → List Outcome → List (Known (List Outcome)) → Type 0
HoldOthers cells label [] = Unit {0}
HoldOthers [] label (known ∷ passed) = ⊥
HoldOthers (cell ∷ cells) label (known ∷ passed) = (known.cell ≡ cell) × (known.value ≢ label) × HoldOthers cells label passed

-- the cell is the one that follows in the window on those that were passed; a class stands alone only where all 32 were
abbrev pub Follows : List ℕ → ℕ → Held → Type 0
Follows cells passed (Cell known) = slice_get cells passed ≡ Some known.cell
Follows cells passed (Alone label) = passed ≡ 32

-- a class, in a store with these cells: of the window of its label the first cells are known to hold other labels, and
-- the next one to hold this label; or all 32 are known to hold others
pub record IsClass (cells : List ℕ) (class : Class) : Type 0 where
  pub start : class.start ≡ window_start (label_of class) (length cells)
  pub passed : HoldOthers (window cells class.start) (label_of class) class.passed.items
  pub held : Follows (window cells class.start) (length class.passed.items) class.held

-- two classes stand at one offset: in one cell, or both alone with one window
pub record IsSameCell (one other : Class) : Type 0 where
  pub start : one.start ≡ other.start
  pub passed : length one.passed.items ≡ length other.passed.items
