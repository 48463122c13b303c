-- Lists of items that are each a key and the set of the headers of it.
use Rattle.std.specs.Prelude.{ℕ, ◌≡◌, ◌⊎◌, ◌↔◌, List, Some, slice_get}
use Rattle.hdr_bits.specs.declared.header.Header.{Header}
use Rattle.hdr_bits.specs.HeaderBits.{IsHeader}
use Rattle.cube_diagram.specs.Functions.{Functions}

-- each key stands once
pub record StandOnceBy {X K : Type 0} (key : X → K) (items : List X) : Type 0 where
  pub once : (i j : ℕ) (x y : X) → slice_get items i ≡ Some x → slice_get items j ≡ Some y → key x ≡ key y → i ≡ j

-- more was added to what headers have by the items, and nothing was lost; `are` is told of the items as the table stands
pub record Adds {X A : Type 0} (are : Functions → List X → Type 0) (has : Functions → List X → Header → A → Type 0) (old_fs new_fs : Functions) (more : Header → A → Type 0) (old new : List X) : Type 0 where
  pub told : are new_fs new
  pub exact : (h : Header) → IsHeader h → (a : A) → has new_fs new h a ↔ (has old_fs old h a ⊎ more h a)
