-- What workers share when they answer.
use Rattle.std.specs.Prelude.{ℕ, ◌≡◌, ◌≤◌, ◌<◌, ◌^◌, List, length}
use Rattle.cube_diagram.specs.Functions.{Functions, count_of}
use Rattle.net_types.specs.declared.question.Question.{Question}
use Rattle.net_types.specs.World.{World}
use Rattle.net_view.specs.Borrowed.{world_of}
use Rattle.ask_query.specs.declared.shared.Asked.{Asked}
use Rattle.ask_query.specs.declared.slots.Slot.{Slot}
use Rattle.loop_search.specs.Bounds.{AreInTable, AreBounds}
use Rattle.ask_query.specs.Breaking.{HaveFilters}
use Rattle.ask_query.specs.Slots.{AreBelow, HaveSlots}
use Rattle.loop_search.specs.WholeNets.{IsWholeNet}

-- questions on a whole network, of whose filters the domain has all headers and of whose loops the bounds have all that enter one, each
-- in one of few slots of their numbers
pub record IsAsked (fs : Functions) (a : Asked) : Type 0 where
  pub net : IsWholeNet fs a.net.now
  pub domain : a.domain < count_of fs
  pub filters : HaveFilters fs a.domain a.questions.now
  pub sets : AreInTable fs a.bounds.now
  pub bounds : AreBounds fs a.net.now a.bounds.now
  pub ttl : 1 ≤ a.ttl
  pub below : AreBelow (length a.questions.now) a.slots.now
  pub each : HaveSlots (length a.questions.now) a.slots.now
  pub few : length a.slots.now < 2 ^ 32

-- these are what is asked
pub record IsNamed (w : World) (t : ℕ) (questions : List Question) (slots : List Slot) (a : Asked) : Type 0 where
  pub of_world : w ≡ world_of a.net.now.world
  pub of_ttl : t ≡ a.ttl
  pub of_questions : questions ≡ a.questions.now
  pub of_slots : slots ≡ a.slots.now
