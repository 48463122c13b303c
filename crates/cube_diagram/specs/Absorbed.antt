-- The functions of another table, all of them, with other numbers as values.
use Rattle.std.specs.Prelude.{ℕ, ◌≡◌, ◌<◌, ◌≤◌, List, Option, Some, length, slice_get}
use Rattle.std.specs.Option.{option_map, unwrap_or}
use Rattle.cube_diagram.specs.declared.table.Node.{Node}
use Rattle.cube_diagram.specs.Functions.{Functions, count_of, value_at}
use Rattle.cube_diagram.specs.Nodes.{IsModel, tested_at}

-- the number that stands at the value, and the value itself where none does
abbrev pub renumbered : List ℕ → ℕ → ℕ
renumbered told v = unwrap_or (slice_get told v) v

-- r gives the other number of each value that a gives in the other table, and tests no bit before that of a
pub record IsAbsorbed (source : List Node) (told : List ℕ) (nodes : List Node) (a r : ℕ) : Type 0 where
  pub below : r < length nodes
  pub value : (old val : ℕ → ℕ → Option ℕ) → IsModel source old → IsModel nodes val → (h : ℕ) → val r h ≡ option_map (renumbered told) (old a h)
  pub order : tested_at source a ≤ tested_at nodes r

-- so does the number at each position of the list
pub record AreAbsorbed (source : List Node) (told : List ℕ) (nodes : List Node) (numbers : List ℕ) : Type 0 where
  pub each : (a r : ℕ) → slice_get numbers a ≡ Some r → IsAbsorbed source told nodes a r

-- n gives a header the other number of the value that a gives it in the other table
pub record TellsOthers (source : Functions) (told : List ℕ) (fs : Functions) (a n : ℕ) : Type 0 where
  pub below : n < count_of fs
  pub exact : (h : ℕ) → value_at fs n h ≡ option_map (renumbered told) (value_at source a h)
