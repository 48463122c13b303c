-- What the splitters of the tests give.
use Rattle.std.specs.Prelude.{ℕ, ◌≡◌, Option, Some, None, Bool, true, refl}

-- each header has the number of its slot
abbrev pub slot_of : {S : Type 0} → S → ℕ → ℕ → Option ℕ
slot_of s slot h = Some slot

-- no header has a value
abbrev pub none_of : {S : Type 0} → S → ℕ → ℕ → Option ℕ
none_of s slot h = None

abbrev pub slots_same : {S : Type 0} (eq : S → S → Bool) (a b : S) → eq a b ≡ true → (slot h : ℕ) → slot_of a slot h ≡ slot_of b slot h
slots_same eq a b e slot h = refl

abbrev pub nones_same : {S : Type 0} (eq : S → S → Bool) (a b : S) → eq a b ≡ true → (slot h : ℕ) → none_of a slot h ≡ none_of b slot h
nones_same eq a b e slot h = refl
