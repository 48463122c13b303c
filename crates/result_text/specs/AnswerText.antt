-- How answers are written.
use Rattle.std.specs.Prelude.{ℕ, ◌+◌, Bool, true, false, List, [], ◌∷◌, ◌++◌, length, filter, codes, decimal}
use Rattle.hdr_bits.specs.declared.header.Header.{Header}
use Rattle.report_text.specs.FieldText.{header_text}
use Rattle.net_types.specs.declared.question.Answer.{Answer}
use Rattle.net_types.specs.declared.question.Answer.TheVariants.{Holds, Fails}

abbrev pub fails_text : Header → List ℕ
fails_text h = codes " fails " ++ header_text h ++ codes "\n"

-- answer number k
abbrev pub answer_text : ℕ → Answer → List ℕ
answer_text k Holds = decimal k ++ codes " holds\n"
answer_text k (Fails h) = decimal k ++ fails_text h

-- answers in their order, numbered from k on
abbrev pub answers_from : ℕ → List Answer → List ℕ
answers_from k [] = []
answers_from k (a ∷ rest) = answer_text k a ++ answers_from (k + 1) rest

abbrev pub fails : Answer → Bool
fails Holds = false
fails (Fails h) = true

abbrev pub failed_count : List Answer → ℕ
failed_count answers = length (filter fails answers)

unfoldable pub failed_text : List Answer → List ℕ
failed_text answers = codes "failed " ++ decimal (failed_count answers) ++ codes "\n"

-- numbered from 1, and last how many fail
unfoldable pub answers_text : List Answer → List ℕ
answers_text answers = answers_from 1 answers ++ failed_text answers
