-- What a cell is known to hold once a label was offered to it.
use Rattle.std.specs.Prelude.{◌≡◌, ◌≢◌, ℕ, List}
use Rattle.net_types.specs.declared.label.Outcome.{Outcome}
use Rattle.class_store.specs.declared.cell.Offered.{Offered}
use Rattle.class_store.specs.declared.cell.Offered.TheVariants.{Holds, Other}

-- the cell of this name holds the label, or it holds another and the label comes back
abbrev pub Answers : ℕ → List Outcome → Offered → Type 0
Answers cell label (Holds known) = (known.cell ≡ cell) × (known.value ≡ label)
Answers cell label (Other known back) = (known.cell ≡ cell) × (known.value ≢ label) × (back ≡ label)
