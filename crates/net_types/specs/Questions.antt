-- Questions on a network: which headers break one, and what it is answered.
use Rattle.std.specs.Prelude.{ℕ, ◌≡◌, ◌≤◌, ◌<◌, ◌+◌, List, Option, Some, Contains}
use Rattle.std.specs.List.{AllZip}
use Rattle.hdr_bits.specs.declared.header.Header.{Header}
use Rattle.hdr_bits.specs.HeaderBits.{number, IsHeader}
use Rattle.hdr_bits.specs.CubeBits.{IsIn}
use Rattle.net_types.specs.declared.label.Outcome.{Outcome}
use Rattle.net_types.specs.declared.label.Outcome.TheVariants as outcome
use Rattle.net_types.specs.declared.network.Place.{Place}
use Rattle.net_types.specs.declared.network.State.{State}
use Rattle.net_types.specs.declared.question.Answer.{Answer}
use Rattle.net_types.specs.declared.question.Answer.TheVariants as answer
use Rattle.net_types.specs.declared.question.Question.{Question}
use Rattle.net_types.specs.declared.question.QuestionKind.{QuestionKind}
use Rattle.net_types.specs.declared.question.QuestionKind.TheVariants as kind
use Rattle.net_types.specs.World.{World}
use Rattle.net_types.specs.Walks.{IsWalk, IsEnd, End, dropped, expired, local, exit, state_at}

-- a packet that ends so is taken by the device at the place, or leaves the network there
abbrev pub IsEndAt : Place → End → Type 0
IsEndAt q dropped = ⊥
IsEndAt q expired = ⊥
IsEndAt q (local p) = p ≡ q
IsEndAt q (exit p h) = p ≡ q

-- a header that enters at p with the TTL t may end at q
pub record Reaches (w : World) (t : ℕ) (p q : Place) (h : Header) : Type 0 where
  pub end : End
  pub is : IsEnd w t (state_at p h) end
  pub there : IsEndAt q end

-- a packet with the outcome is taken by the device at the place, or leaves the network there
abbrev pub IsAt : Place → Outcome → Type 0
IsAt q outcome.Dropped = ⊥
IsAt q outcome.Expired = ⊥
IsAt q (outcome.Local p) = p ≡ q
IsAt q (outcome.Exit p src dst sport dport) = p ≡ q

-- one of the outcomes is at the place
pub record HasOutcomeAt (q : Place) (outcomes : List Outcome) : Type 0 where
  pub outcome : Outcome
  pub among : Contains outcomes outcome
  pub there : IsAt q outcome

-- a walk of the header is twice at one place with one header: it comes to a state and, after one move or more, to the same
-- state again. Under the TTL t a walk has at most t - 1 moves
pub record Loops (w : World) (t : ℕ) (p : Place) (h : Header) : Type 0 where
  pub before : ℕ
  pub around : ℕ
  pub moves : 1 ≤ around
  pub within : before + around < t
  pub state : State
  pub comes : IsWalk w before (state_at p h) state
  pub again : IsWalk w around state state

-- it reaches the place that is named, if one is
pub record ReachesNamed (w : World) (t : ℕ) (p : Place) (to : Option Place) (h : Header) : Type 0 where
  pub place : Place
  pub named : to ≡ Some place
  pub reaches : Reaches w t p place h

-- a reach is broken by a header that doesn't reach the place, an isolate by one that does, and a noloop by one that loops
abbrev pub BreaksKind : World → ℕ → QuestionKind → Place → Option Place → Header → Type 0
BreaksKind w t kind.Reach p to h = ReachesNamed w t p to h → ⊥
BreaksKind w t kind.Isolate p to h = ReachesNamed w t p to h
BreaksKind w t kind.NoLoop p to h = Loops w t p h

-- a header of the filter that breaks the question
pub record Breaks (w : World) (t : ℕ) (q : Question) (h : Header) : Type 0 where
  pub fits : IsHeader h
  pub filtered : IsIn q.filter (number h)
  pub breaks : BreaksKind w t q.kind q.from q.to h

-- the least of the headers of which this holds, by their numbers
pub record IsLeastOf (P : Header → Type 0) (h : Header) : Type 0 where
  pub is : P h
  pub least : (g : Header) → P g → number h ≤ number g

-- a question holds where no header of its filter breaks it, and else it fails with the least one that does
abbrev pub IsAnswer : World → ℕ → Question → Answer → Type 0
IsAnswer w t q answer.Holds = (h : Header) → Breaks w t q h → ⊥
IsAnswer w t q (answer.Fails h) = IsLeastOf (Breaks w t q) h

-- the answers to several questions, in their order
abbrev pub AreAnswers : World → ℕ → List Question → List Answer → Type 0
AreAnswers w t questions answers = AllZip (IsAnswer w t) questions answers
