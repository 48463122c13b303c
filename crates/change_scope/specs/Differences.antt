-- Sets that have whatever two functions tell otherwise.
use Rattle.std.specs.Prelude.{ℕ, ◌≡◌, ◌<◌, List, Some, slice_get, length}
use Rattle.hdr_bits.specs.declared.header.Header.{Header}
use Rattle.hdr_bits.specs.HeaderBits.{number}
use Rattle.cube_diagram.specs.Functions.{Functions, count_of, value_at}
use Rattle.net_forms.specs.declared.forms.DeviceForm.{DeviceForm}
use Rattle.net_forms.specs.declared.forms.SeatForm.{SeatForm}
use Rattle.set_walk.specs.Sets.{InSet}

-- the second set has all headers of the first
abbrev pub HasAll : Functions → ℕ → Functions → ℕ → Type 0
HasAll f a g b = (h : Header) → InSet f a h → InSet g b h

-- both functions give each header outside the set the same
abbrev pub AgreeBeyond : Functions → ℕ → ℕ → Functions → ℕ → Type 0
AgreeBeyond f a b g set = (h : Header) → (InSet g set h → ⊥) → value_at f a (number h) ≡ value_at f b (number h)

-- so do the functions of two interfaces
pub record SeatsAgree (f : Functions) (x y : SeatForm) (g : Functions) (set : ℕ) : Type 0 where
  pub input : AgreeBeyond f x.input y.input g set
  pub output : AgreeBeyond f x.output y.output g set

-- of each two at one position below n
abbrev pub SeatsAgreeBelow : Functions → List SeatForm → List SeatForm → ℕ → Functions → ℕ → Type 0
SeatsAgreeBelow f xs ys n g set = (i : ℕ) → i < n → (x y : SeatForm) → slice_get xs i ≡ Some x → slice_get ys i ≡ Some y → SeatsAgree f x y g set

-- so do the functions of two devices with the same translation rules
pub record FormsAgree (f : Functions) (a b : DeviceForm) (g : Functions) (set : ℕ) : Type 0 where
  pub fates : AgreeBeyond f a.fates b.fates g set
  pub seats : SeatsAgreeBelow f a.seats.items b.seats.items (length a.seats.items) g set

-- the functions of an interface are in the table
pub record IsBelow (fs : Functions) (x : SeatForm) : Type 0 where
  pub input : x.input < count_of fs
  pub output : x.output < count_of fs

abbrev pub AreBelow : Functions → List SeatForm → Type 0
AreBelow fs xs = (i : ℕ) (x : SeatForm) → slice_get xs i ≡ Some x → IsBelow fs x
