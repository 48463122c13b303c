-- Questions divided among slots by their numbers, and answers to them.
use Rattle.std.specs.Prelude.{ℕ, ◌≡◌, ◌<◌, List, [], Option, Some, None, All, Contains, length, slice_get}
use Rattle.std.specs.List.{AllZip}
use Rattle.net_types.specs.declared.question.Answer.{Answer}
use Rattle.net_types.specs.declared.question.Question.{Question}
use Rattle.net_types.specs.Questions.{IsAnswer}
use Rattle.net_types.specs.World.{World}
use Rattle.ask_query.specs.declared.slots.Slot.{Slot}

abbrev pub numbers_at : Option Slot → List ℕ
numbers_at None = []
numbers_at (Some s) = s.numbers.items

-- the numbers of the questions of a slot; none where there is no such slot
abbrev pub numbers_of : List Slot → ℕ → List ℕ
numbers_of slots k = numbers_at (slice_get slots k)

-- the numbers in the slots are those of questions, of so many
abbrev pub AreBelow : ℕ → List Slot → Type 0
AreBelow count slots = (k : ℕ) → All (λ n. n < count) (numbers_of slots k)

-- the number is in one of the slots
pub record IsInSlot (slots : List Slot) (n : ℕ) : Type 0 where
  pub slot : ℕ
  pub within : slot < length slots
  pub among : Contains (numbers_of slots slot) n

-- each of so many questions has a slot
abbrev pub HaveSlots : ℕ → List Slot → Type 0
HaveSlots count slots = (n : ℕ) → n < count → IsInSlot slots n

-- the answer to the question of this number
abbrev pub AnswersNumber : World → ℕ → List Question → ℕ → Answer → Type 0
AnswersNumber w t questions n a = (q : Question) → slice_get questions n ≡ Some q → IsAnswer w t q a

-- the answers to the questions of these numbers, in their order
abbrev pub AnswerNumbers : World → ℕ → List Question → List ℕ → List Answer → Type 0
AnswerNumbers w t questions numbers answers = AllZip (AnswersNumber w t questions) numbers answers

-- what is known of the questions, in their order, is right
abbrev pub AreRight : World → ℕ → List Question → List (Option Answer) → Type 0
AreRight w t questions known = (n : ℕ) (a : Answer) → slice_get known n ≡ Some (Some a) → AnswersNumber w t questions n a

-- an answer is known to the question of this number
pub record IsKnown (known : List (Option Answer)) (n : ℕ) : Type 0 where
  pub answer : Answer
  pub there : slice_get known n ≡ Some (Some answer)
