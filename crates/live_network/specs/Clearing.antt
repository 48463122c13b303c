-- Places that lose their positions.
use Rattle.std.specs.Prelude.{ℕ, ◌≡◌, ◌⊎◌, Bool, true, false, List, Option, None}
use Rattle.net_types.specs.declared.network.Place.{Place}
use Rattle.net_types.specs.World.{same_place}
use Rattle.place_ways.specs.Places.{IsNumbered}

abbrev pub none_if : Bool → Option ℕ → Option ℕ
none_if true before = None
none_if false before = before

-- the place has no position, and any other keeps its own
abbrev pub IsCleared : Place → (Place → Option ℕ) → (Place → Option ℕ) → Type 0
IsCleared q old new = (p : Place) → new p ≡ none_if (same_place q p) (old p)

-- the places of the device of this name with these numbers have none, and any other place its own
pub record Clears (name : ℕ) (numbers : List ℕ) (old new : Place → Option ℕ) : Type 0 where
  pub each : (p : Place) → (new p ≡ None) ⊎ (new p ≡ old p)
  pub gone : (p : Place) → IsNumbered name numbers p → new p ≡ None
  pub others : (p : Place) → (p.device ≡ name → ⊥) → new p ≡ old p
