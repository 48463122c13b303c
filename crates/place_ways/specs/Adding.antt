-- Ways that are added stage by stage, each with the set of the headers of which its move is made.
use Rattle.std.specs.Prelude.{ℕ, ◌≡◌, ◌<◌, ◌⊎◌, ◌↔◌, ◌==◌, List, Some, None, Contains, if◌then◌else◌}
use Rattle.std.specs.List.{list_any}
use Rattle.hdr_bits.specs.declared.header.Header.{Header}
use Rattle.hdr_bits.specs.HeaderBits.{number, IsHeader}
use Rattle.cube_alg.specs.declared.stamp.Stamp.{Stamp}
use Rattle.cube_alg.specs.Stamps.{applied}
use Rattle.cube_diagram.specs.Functions.{Functions, count_of, value_at}
use Rattle.link_sends.specs.declared.sent.Sent.{Sent}
use Rattle.link_sends.specs.declared.sent.Sent.TheVariants as sent
use Rattle.net_types.specs.declared.network.Move.{Move}
use Rattle.net_types.specs.declared.network.Place.{Place}
use Rattle.set_walk.specs.declared.step.Step.{Step}
use Rattle.set_walk.specs.declared.step.Step.TheVariants as step
use Rattle.set_walk.specs.declared.step.Way.{Way}
use Rattle.set_walk.specs.Sets.{InSet}
use Rattle.set_walk.specs.Ways.{HasMove, IsGiven}

-- the ways' sets are in the table, and their stamps fit
abbrev pub AreGiven : Functions → List Way → Type 0
AreGiven fs ways = (x : Way) → Contains ways x → IsGiven fs x

-- by the ways each header of the scope has exactly these moves
abbrev pub HasMoves : (Header → List Move) → Functions → ℕ → List Way → Type 0
HasMoves moves fs scope ways = (h : Header) → IsHeader h → InSet fs scope h → (m : Move) → Contains (moves h) m ↔ HasMove fs ways h m

-- moves were added to those that headers have by the ways, and none was lost
pub record AddsWays (old_fs new_fs : Functions) (more : Header → Move → Type 0) (old new : List Way) : Type 0 where
  pub given : AreGiven new_fs new
  pub exact : (h : Header) → IsHeader h → (m : Move) → HasMove new_fs new h m ↔ (HasMove old_fs old h m ⊎ more h m)

-- headers of the set make this move
abbrev pub Makes : Functions → ℕ → (Header → Move) → Header → Move → Type 0
Makes fs set move h m = InSet fs set h × (move h ≡ m)

-- headers of the set make these moves
abbrev pub MakesAny : Functions → ℕ → (Header → List Move) → Header → Move → Type 0
MakesAny fs set moves h m = InSet fs set h × Contains (moves h) m

-- headers of the set make the moves that others have by the ways, once the stamp was applied
abbrev pub MakesBehind : Functions → ℕ → Stamp → List Way → Header → Move → Type 0
MakesBehind fs set s ways h m = InSet fs set h × HasMove fs ways (applied s h) m

-- the function gives the header this value
abbrev pub HasValue : Functions → ℕ → ℕ → Header → Type 0
HasValue fs function v h = value_at fs function (number h) ≡ Some v

-- one of the list is so
pub record ByOne {A : Type 0} (P : A → Type 0) (xs : List A) : Type 0 where
  pub one : A
  pub among : Contains xs one
  pub is : P one

-- the function gives a header its destination where it is one of the addresses, else nothing
pub record TellsAddresses (fs : Functions) (addresses : List ℕ) (function : ℕ) : Type 0 where
  pub below : function < count_of fs
  pub exact : (h : Header) → IsHeader h → value_at fs function (number h) ≡ (if list_any (λ a. h.dst == a) addresses then Some h.dst else None)

-- the step of packets that are sent with the stamp
abbrev pub stamped_step : Place → Stamp → Sent → Step
stamped_step e s sent.Exit = step.Exit e s
stamped_step e s (sent.Go q) = step.Go q s
stamped_step e s sent.Lost = step.Lost
