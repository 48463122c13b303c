-- Which texts are answers.
use Rattle.std.specs.Prelude.{ℕ, ◌≡◌, List}
use Rattle.std.specs.List.{AllByRecursion}
use Rattle.hdr_bits.specs.HeaderBits.{IsHeader}
use Rattle.net_types.specs.declared.question.Answer.{Answer}
use Rattle.net_types.specs.declared.question.Answer.TheVariants.{Holds, Fails}
use Rattle.result_text.specs.AnswerText.{answers_text}

-- the packet of an answer fits its fields
abbrev pub HasPacket : Answer → Type 0
HasPacket Holds = Unit {0}
HasPacket (Fails h) = IsHeader h

-- the bytes are what `ask` writes of these answers
pub record AreAnswers (answers : List Answer) (bytes : List ℕ) : Type 0 where
  pub packets : AllByRecursion HasPacket answers
  pub written : answers_text answers ≡ bytes
