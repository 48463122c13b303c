-- The headers that may end at a place, by the ends of their walks.
use Rattle.std.specs.Prelude.{ℕ, ◌≡◌, ◌↔◌, List, Option, Some, Contains}
use Rattle.hdr_bits.specs.declared.header.Header.{Header}
use Rattle.hdr_bits.specs.HeaderBits.{IsHeader}
use Rattle.cube_diagram.specs.Functions.{Functions}
use Rattle.net_types.specs.declared.label.Outcome.{Outcome}
use Rattle.net_types.specs.declared.network.Place.{Place}
use Rattle.net_types.specs.World.{World}
use Rattle.net_types.specs.Walks.{label}
use Rattle.set_walk.specs.declared.ends.OutcomeSet.{OutcomeSet}
use Rattle.set_walk.specs.Sets.{InSet}
use Rattle.set_walk.specs.Outcomes.{AreEndsBelow, HasOutcome}
use Rattle.net_types.specs.Questions.{IsAt}

-- the header has an outcome at the place, by one of the ends
pub record EndsAt (fs : Functions) (ends : List OutcomeSet) (q : Place) (h : Header) : Type 0 where
  pub end : OutcomeSet
  pub among : Contains ends end
  pub inside : InSet fs end.headers h
  pub there : IsAt q end.outcome

-- at the place that is named, if one is
pub record EndsNamed (fs : Functions) (ends : List OutcomeSet) (to : Option Place) (h : Header) : Type 0 where
  pub place : Place
  pub named : to ≡ Some place
  pub there : EndsAt fs ends place h

-- for each of these headers that enters at p with the TTL t an outcome is in its label exactly where the header is in one of
-- the outcome's sets
pub record AreEndsFor (w : World) (t : ℕ) (p : Place) (P : Header → Type 0) (fs : Functions) (ends : List OutcomeSet) : Type 0 where
  pub below : AreEndsBelow fs ends
  pub exact : (h : Header) → IsHeader h → P h → (o : Outcome) → HasOutcome fs ends h o ↔ Contains (label w t p h) o
