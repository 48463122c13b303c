-- Lists that grow, and lists of numbers that stand for items of another list.
use Rattle.std.specs.Prelude.{◌≡◌, ℕ, List, ◌++◌, Some, map, filter_map, slice_get, Contains}

-- each item stands at one position
pub record AreOnce {A : Type 0} (xs : List A) : Type 0 where
  pub one : (i j : ℕ) (x : A) → slice_get xs i ≡ Some x → slice_get xs j ≡ Some x → i ≡ j

-- only items of a list were added at the end, and none twice
pub record AddsFrom {A : Type 0} (items old new : List A) : Type 0 where
  pub more : List A
  pub added : new ≡ old ++ more
  pub among : (x : A) → Contains more x → Contains items x
  pub once : AreOnce old → AreOnce new

-- the items with these numbers, which are their positions
abbrev pub items_at : {A : Type 0} → List A → List ℕ → List A
items_at xs numbers = filter_map (slice_get xs) numbers

-- the numbers are those of these items
abbrev pub AreNumbersOf : {A : Type 0} → List A → List ℕ → List A → Type 0
AreNumbersOf xs numbers ys = map (slice_get xs) numbers ≡ map Some ys
