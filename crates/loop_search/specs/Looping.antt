-- The headers that loop, by the levels of their walks.
use Rattle.std.specs.Prelude.{ℕ, ◌≡◌, ◌≤◌, List, Some, None, Contains, slice_get}
use Rattle.hdr_bits.specs.declared.header.Header.{Header}
use Rattle.cube_alg.specs.Stamps.{applied}
use Rattle.cube_diagram.specs.Functions.{Functions}
use Rattle.net_types.specs.declared.network.Place.{Place}
use Rattle.net_types.specs.declared.network.State.{State}
use Rattle.net_types.specs.World.{World}
use Rattle.net_types.specs.Walks.{IsWalk, state_at}
use Rattle.set_walk.specs.declared.step.Step.{Step}
use Rattle.set_walk.specs.declared.step.Step.TheVariants as step
use Rattle.set_walk.specs.declared.step.Way.{Way}
use Rattle.set_walk.specs.Sets.{InSet}
use Rattle.set_walk.specs.Levels.{IsLevel}
use Rattle.loop_search.specs.declared.search.Level.{Level}
use Rattle.net_types.specs.Questions.{Loops}

-- each is the level after as many moves as levels stand before it
abbrev pub AreLevels : World → Functions → ℕ → Place → Functions → List Level → Type 0
AreLevels w start domain p fs levels = (n : ℕ) (l : Level) → slice_get levels n ≡ Some l → IsLevel w start domain p n fs l.groups.items

-- the step leads to a further place
abbrev pub GoesOn : Step → Type 0
GoesOn step.Drop = ⊥
GoesOn (step.Local p) = ⊥
GoesOn step.Lost = ⊥
GoesOn (step.Exit p s) = ⊥
GoesOn (step.Go p s) = Unit {0}

-- one of the ways has the header, and this holds of its step and the header
pub record ByWay (fs : Functions) (ways : List Way) (Q : Step → Header → Type 0) (h : Header) : Type 0 where
  pub way : Way
  pub among : Contains ways way
  pub inside : InSet fs way.headers h
  pub holds : Q way.step h

-- at the place, with nothing changed
abbrev pub unchanged_at : Place → Step
unchanged_at p = step.Go p (record { src = None; dst = None; sport = None; dport = None })

-- a walk of one move or more, at most so many, leads from the state to itself
pub record Returns (w : World) (room : ℕ) (u : State) : Type 0 where
  pub around : ℕ
  pub moves : 1 ≤ around
  pub within : around ≤ room
  pub again : IsWalk w around u u

-- the step leads the header to a state of which this holds
abbrev pub LeadsTo : (State → Type 0) → Step → Header → Type 0
LeadsTo P step.Drop h = ⊥
LeadsTo P (step.Local p) h = ⊥
LeadsTo P step.Lost h = ⊥
LeadsTo P (step.Exit p s) h = ⊥
LeadsTo P (step.Go p s) h = P (state_at p (applied s h))

-- a walk leads from there to there again
abbrev pub IsBack : World → ℕ → Step → Header → Type 0
IsBack w room = LeadsTo (Returns w room)

-- the header loops, and comes to the state of the loop after n moves or more
pub record LoopsFrom (w : World) (t : ℕ) (p : Place) (n : ℕ) (h : Header) : Type 0 where
  pub loop : Loops w t p h
  pub late : n ≤ loop.before
