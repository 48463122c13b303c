-- Functions that are made of one other function: where it has a value, with digits written into the headers, from another
-- table, with values told anew, by destinations alone; and the least header that has a value.
use Rattle.std.specs.Prelude.{ℕ, Option, Some, None, IsSome, ◌≡◌, ◌<◌, ◌≤◌, ◌-◌, ◌^◌, List, length, slice_index_or, if◌then◌else◌, ◌==◌}
use Rattle.hdr_bits.specs.Bits.{bit_of}
use Rattle.hdr_bits.specs.declared.cube.Cube.{Cube}
use Rattle.cube_diagram.specs.declared.table.Node.{Node}
use Rattle.cube_diagram.specs.declared.memo.Combination.{Combination}
use Rattle.cube_diagram.specs.Functions.{IsByDestination}
use Rattle.cube_diagram.specs.Nodes.{IsModel, meaning, tested_at}

-- 1 where it is this value, else nothing
abbrev pub if_value : ℕ → Option ℕ → Option ℕ
if_value v None = None
if_value v (Some x) = if x == v then Some 1 else None

-- r gives 1 where a gives the value v, and tests no bit before that of a
pub record IsPicked (nodes : List Node) (a v r : ℕ) : Type 0 where
  pub from : a < length nodes
  pub below : r < length nodes
  pub value : (val : ℕ → ℕ → Option ℕ) → IsModel nodes val → (h : ℕ) → val r h ≡ if_value v (val a h)
  pub order : tested_at nodes a ≤ tested_at nodes r

-- what is remembered is so
abbrev pub IsPickedBy : List Node → Combination → Type 0
IsPickedBy nodes m = IsPicked nodes m.first m.second m.result

-- g is h with the cube's digits written into it
abbrev pub IsOverwritten : Cube → ℕ → ℕ → Type 0
IsOverwritten c h g = (k : ℕ) → k < 112 → (bit_of c.fixed k ≡ 1 → bit_of g k ≡ bit_of c.bits k) × (bit_of c.fixed k ≡ 0 → bit_of g k ≡ bit_of h k)

-- r gives a header what a gives it with the cube's digits, and tests no bit before that of a
pub record IsWritten (nodes : List Node) (c : Cube) (a r : ℕ) : Type 0 where
  pub from : a < length nodes
  pub below : r < length nodes
  pub value : (val : ℕ → ℕ → Option ℕ) → IsModel nodes val → (h g : ℕ) → IsOverwritten c h g → val r h ≡ val a g
  pub order : tested_at nodes a ≤ tested_at nodes r

-- what is known of numbers is so
pub record AreWritten (nodes : List Node) (c : Cube) (known : ℕ → Option ℕ) : Type 0 where
  pub each : (a r : ℕ) → known a ≡ Some r → IsWritten nodes c a r

-- r gives what a gives in the other table, and tests no bit before that of a
pub record IsCopied (source nodes : List Node) (a r : ℕ) : Type 0 where
  pub below : r < length nodes
  pub value : (old val : ℕ → ℕ → Option ℕ) → IsModel source old → IsModel nodes val → (h : ℕ) → val r h ≡ old a h
  pub order : tested_at source a ≤ tested_at nodes r

pub record AreCopied (source nodes : List Node) (known : ℕ → Option ℕ) : Type 0 where
  pub each : (a r : ℕ) → known a ≡ Some r → IsCopied source nodes a r

-- what the list tells of a value: nothing where it tells nothing of it, or ends before it
abbrev pub retold : List (Option ℕ) → Option ℕ → Option ℕ
retold told None = None
retold told (Some v) = slice_index_or told v None

-- r gives what the list tells of the values that a gives, and tests no bit before that of a
pub record IsRetold (nodes : List Node) (told : List (Option ℕ)) (a r : ℕ) : Type 0 where
  pub from : a < length nodes
  pub below : r < length nodes
  pub value : (val : ℕ → ℕ → Option ℕ) → IsModel nodes val → (h : ℕ) → val r h ≡ retold told (val a h)
  pub order : tested_at nodes a ≤ tested_at nodes r

pub record AreRetold (nodes : List Node) (told : List (Option ℕ)) (known : ℕ → Option ℕ) : Type 0 where
  pub each : (a r : ℕ) → known a ≡ Some r → IsRetold nodes told a r

-- r gives this to all headers
pub record IsConstant (nodes : List Node) (v : Option ℕ) (r : ℕ) : Type 0 where
  pub below : r < length nodes
  pub value : (val : ℕ → ℕ → Option ℕ) → IsModel nodes val → (h : ℕ) → val r h ≡ v
  pub order : 112 ≤ tested_at nodes r

-- r gives 1 to the headers with the destination of one that a gives a value, and tests no bit before that of a
pub record HasDestinations (nodes : List Node) (a r : ℕ) : Type 0 where
  pub from : a < length nodes
  pub below : r < length nodes
  pub told : (val : ℕ → ℕ → Option ℕ) → IsModel nodes val → IsByDestination (val a) (val r)
  pub order : tested_at nodes a ≤ tested_at nodes r

pub record AreByDestination (nodes : List Node) (known : ℕ → Option ℕ) : Type 0 where
  pub each : (a r : ℕ) → known a ≡ Some r → HasDestinations nodes a r

-- no header before this one has a value, and this one has: a number that is 0 before the bit that id tests
pub record IsLeast (nodes : List Node) (id r : ℕ) : Type 0 where
  pub below : r < 2 ^ (112 - tested_at nodes id)
  pub there : IsSome (meaning nodes id r)
  pub before : (n : ℕ) → n < r → meaning nodes id n ≡ None
