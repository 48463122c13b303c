-- What the program does.
use Rattle.std.specs.Prelude.{ℕ, ◌+◌, Bool, true, false, ◌≡◌, ◌≢◌, ◌⊎◌, ◌≤◌, List, [], Option, None, Some, Result, Ok, Err, length, map, min, codes}
use Rattle.net_io.specs.Files.{Told, content}
use Rattle.net_types.specs.declared.question.Answer.{Answer}
use Rattle.job_core.specs.declared.report.Report.{Report}
use Rattle.job_core.specs.declared.stop.Stop.{Stop}
use Rattle.job_core.specs.declared.stop.Stop.TheVariants as stop
use Rattle.job_core.specs.Accepted.{AcceptedFile}
use Rattle.job_core.specs.Steps.{Then, OrNoMemory, GivesBytes}
use Rattle.view_core.specs.Names.{text_lines}
use Rattle.view_core.specs.Reports.{report_limit, UnreadReport}
use Rattle.answer_view.specs.declared.asked.Asked.{Asked}
use Rattle.answer_view.specs.declared.answered.Answered.{Answered}
use Rattle.view_core.specs.declared.words.Format.{Format}
use Rattle.view_core.specs.declared.words.Format.TheVariants as format
use Rattle.answer_view.specs.Asked.{asked_in}
use Rattle.answer_view.specs.AnswerText.{AreAnswers}
use Rattle.result_text.specs.AnswerText.{answers_text}
use Rattle.answer_view.specs.Said.{said_in}
use Rattle.view_core.specs.Differing.{same_lines}
use Rattle.answer_view.specs.Answered.{answered_from}
use Rattle.answer_view.specs.ShownText.{view_text}
use Rattle.answer_view.specs.ShownJson.{answers_json}
use Rattle.answer_view.specs.Words.{paths_of, before_of, format_of}

-- ---- what is shown

-- the text and the document are exactly those of the answers
abbrev pub IsView : Format → Bool → List Answered → List ℕ → Type 0
IsView format.Text compared answered text = text ≡ view_text compared answered
IsView format.Json compared answered text = text ≡ answers_json compared answered

-- the view, which has nothing that status 1 tells; or that there was no memory for it
abbrev pub Views : Format → Bool → List Answered → Result Report Stop → Type 0
Views f compared answered = OrNoMemory (λ r. IsView f compared answered r.text.items × (r.affected ≡ false))

-- ---- files of answers

-- the bytes are no answers: this is the first line, from 1, that `ask` writes otherwise of what they say
pub record IsOther (bytes : List ℕ) (line : ℕ) : Type 0 where
  pub none : (answers : List Answer) → AreAnswers answers bytes → ⊥
  pub place : line ≡ same_lines (text_lines bytes) (text_lines (answers_text (said_in bytes))) + 1

-- they are answers, and not to so many questions: this is the line, from 1, behind the last one that both have
pub record IsMiscounted (count : ℕ) (bytes : List ℕ) (line : ℕ) : Type 0 where
  pub answers : List Answer
  pub written : AreAnswers answers bytes
  pub other : length answers ≢ count
  pub place : line ≡ min (length answers) count + 1

-- the kind of a refusal
abbrev pub IsRefused : ℕ → List ℕ → ℕ → List ℕ → Type 0
IsRefused count bytes line kind = (IsOther bytes line × (kind ≡ codes "NotAnswers")) ⊎ (IsMiscounted count bytes line × (kind ≡ codes "OtherCount"))

abbrev pub AnswersFail : List ℕ → ℕ → List ℕ → Stop → Type 0
AnswersFail path count bytes (stop.Refused p line kind word) = (p ≡ path) × IsRefused count bytes line kind × (word ≡ [])
AnswersFail path count bytes stop.NoMemory = Unit {0}
AnswersFail path count bytes _ = ⊥

-- the answers to so many questions that a text has; or why it has none
abbrev pub SaysAnswers : {T : Type 0} → (T → List Answer) → List ℕ → ℕ → List ℕ → Result T Stop → Type 0
SaysAnswers view path count bytes (Ok x) = AreAnswers (view x) bytes × (length (view x) ≡ count)
SaysAnswers view path count bytes (Err s) = AnswersFail path count bytes s

-- the first line, from 1, at which the text of these answers differs from the bytes, if there is one
abbrev pub IsFault : List Answer → List ℕ → Option ℕ → Type 0
IsFault answers bytes None = answers_text answers ≡ bytes
IsFault answers bytes (Some line) = (answers_text answers ≢ bytes) × (line ≡ same_lines (text_lines bytes) (text_lines (answers_text answers)) + 1)

-- the same answers, where there are so many; or that there are not
abbrev pub IsCounted : {T : Type 0} → (T → List Answer) → List ℕ → ℕ → List Answer → Result T Stop → Type 0
IsCounted view path count answers (Ok x) = (view x ≡ answers) × (length answers ≡ count)
IsCounted view path count answers (Err (stop.Refused p line kind word)) =
    (p ≡ path) × (length answers ≢ count) × (line ≡ min (length answers) count + 1) × (kind ≡ codes "OtherCount") × (word ≡ [])
IsCounted view path count answers (Err stop.NoMemory) = Unit {0}
IsCounted view path count answers (Err _) = ⊥

-- those of a file; or why there are none
abbrev pub GivesAnswers : {T : Type 0} → (T → List Answer) → Told → List ℕ → ℕ → Result T Stop → Type 0
GivesAnswers view t path count (Ok x) =
    (bytes : List ℕ) × (content t path ≡ Some bytes) × (length bytes ≤ report_limit) × AreAnswers (view x) bytes × (length (view x) ≡ count)
GivesAnswers view t path count (Err s) =
    UnreadReport path (content t path) s ⊎ ((bytes : List ℕ) × (content t path ≡ Some bytes) × AnswersFail path count bytes s)

-- ---- the steps, each over what the files tell: what it gives, or why the program stops there

-- the questions with these answers before, and those of a file
abbrev pub ShowsSince : Told → Format → List ℕ → List Asked → List Answer → Result Report Stop → Type 0
ShowsSince t f after asked before =
    Then (GivesAnswers (λ answers. answers) t after (length asked)) (λ answers. Views f true (answered_from 1 asked (map Some before) answers))

-- the questions with the answers of one file, or of two, of which that of the answers before is read first
abbrev pub ShowsFor : Told → Format → Option (List ℕ) → List ℕ → List Asked → Result Report Stop → Type 0
ShowsFor t f None after asked =
    Then (GivesAnswers (λ answers. answers) t after (length asked)) (λ answers. Views f false (answered_from 1 asked (map (λ a. None) answers) answers))
ShowsFor t f (Some before) after asked = Then (GivesAnswers (λ answers. answers) t before (length asked)) (ShowsSince t f after asked)

-- the questions are read first
abbrev pub Shows : Told → Format → List ℕ → Option (List ℕ) → List ℕ → Result Report Stop → Type 0
Shows t f questions before after =
    Then (GivesBytes (λ bytes. bytes) questions (content t questions)) (λ bytes. ShowsFor t f before after (asked_in bytes))

abbrev pub Performs : Option (List ℕ × List ℕ) → Option (List ℕ) → Format → Told → Result Report Stop → Type 0
Performs None before f t result = ⊥
Performs (Some paths) before f t result = Shows t f paths.0 before paths.1 result

-- what the words ask, done; or why it isn't
abbrev pub Does : List (List ℕ) → Told → Result Report Stop → Type 0
Does words t result = Performs (paths_of words) (before_of words) (format_of words) t result

-- ---- what may be shown

-- the file is there, within the limit, and has answers to so many questions
pub record AcceptedAnswers (t : Told) (path : List ℕ) (count : ℕ) : Type 0 where
  pub bytes : List ℕ
  pub there : content t path ≡ Some bytes
  pub within : length bytes ≤ report_limit
  pub answers : List Answer
  pub written : AreAnswers answers bytes
  pub counted : length answers ≡ count

abbrev pub AcceptedBefore : Told → Option (List ℕ) → ℕ → Type 0
AcceptedBefore t None count = Unit {0}
AcceptedBefore t (Some before) count = AcceptedAnswers t before count

-- so are the files of answers, of the questions of a file that is there
pub record AcceptedPaths (t : Told) (questions : List ℕ) (before : Option (List ℕ)) (after : List ℕ) : Type 0 where
  pub asked : AcceptedFile t questions
  pub earlier : AcceptedBefore t before (length (asked_in asked.bytes))
  pub later : AcceptedAnswers t after (length (asked_in asked.bytes))

abbrev pub AcceptedOr : Option (List ℕ × List ℕ) → Option (List ℕ) → Told → Type 0
AcceptedOr None before t = ⊥
AcceptedOr (Some paths) before t = AcceptedPaths t paths.0 before paths.1

-- the words are within the usage, and what they name is accepted
abbrev pub IsAccepted : List (List ℕ) → Told → Type 0
IsAccepted words t = AcceptedOr (paths_of words) (before_of words) t
