-- The outcomes of the moves of states, as they are gathered for a label.
use Rattle.std.specs.Prelude.{◌↔◌, ◌<◌, ℕ, Bool, List, Contains, filter_map}
use Rattle.hdr_bits.specs.declared.header.Header.{Header}
use Rattle.net_types.specs.declared.label.Outcome.{Outcome}
use Rattle.net_types.specs.declared.network.State.{State}
use Rattle.net_types.specs.World.{World}
use Rattle.net_types.specs.Walks.{IsWalk}
use Rattle.header_rules.specs.Outcomes.{outcome_by}
use Rattle.walk_trace.specs.Numbered.{ordered_moves}

-- the outcomes of the ends by the moves of a state
abbrev pub outcomes_at : World → Bool → Header → State → List Outcome
outcomes_at w last g u = filter_map (outcome_by g last) (ordered_moves w u)

-- two lists have the same items
abbrev pub SameSet : {A : Type 0} → List A → List A → Type 0
SameSet {A} xs ys = (x : A) → Contains xs x ↔ Contains ys x

-- a walk of fewer than t moves leads from one state to the other
pub record HasWalkBelow (w : World) (t : ℕ) (s u : State) : Type 0 where
  pub count : ℕ
  pub within : count < t
  pub walk : IsWalk w count s u
