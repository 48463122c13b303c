-- A rollout: what the words ask, over what the files tell alone.
use Rattle.std.specs.Prelude.{◌≡◌, ℕ, ◌+◌, List, [], Option, None, Some, Result, Ok, Err, map, length}
use Rattle.net_types.specs.declared.config.Loaded.{Loaded}
use Rattle.net_types.specs.declared.network.Network.{Network}
use Rattle.net_types.specs.declared.question.Question.{Question}
use Rattle.net_io.specs.Files.{Told, content}
use Rattle.net_load.specs.declared.numbering.Numbered.{Numbered}
use Rattle.net_load.specs.Numbering.{numbered_of}
use Rattle.ask_query.specs.declared.refusal.QuestionRefusal.{QuestionRefusal}
use Rattle.ask_query.specs.declared.refusal.QuestionFail.TheVariants as fail
use Rattle.ask_query.specs.Reading.{questions_of, said}
use Rattle.ask_query.specs.Refusals as questions
use Rattle.rollout.specs.declared.steps.RolloutAnswer.{RolloutAnswer}
use Rattle.rollout.specs.Steps.{IsRolloutAnswer, networks, world}
use Rattle.rollout_steps.specs.declared.reading.StepLine.{StepLine}
use Rattle.rollout_steps.specs.declared.refusal.StepRefusal.{StepRefusal}
use Rattle.rollout_steps.specs.declared.refusal.StepsFail.TheVariants as steps
use Rattle.rollout_steps.specs.Reading.{steps_of}
use Rattle.rollout_steps.specs.Refusals.{refusal_text}
use Rattle.job_core.specs.declared.report.Report.{Report}
use Rattle.job_core.specs.declared.table.Wires.TheVariants as wires
use Rattle.job_core.specs.declared.stop.Stop.{Stop}
use Rattle.job_core.specs.declared.stop.Stop.TheVariants as stop
use Rattle.job_core.specs.Steps.{Then, OrNoMemory, GivesBytes, GivesTable}
use Rattle.job_inputs.specs.Folders.{GivesFolder}
use Rattle.window_core.specs.declared.base.Base.{Base}
use Rattle.window_core.specs.Changes.{GivesChanges}
use Rattle.window_core.specs.RolloutText.{rollout_text, fails}
use Rattle.window_core.specs.Words.{Paths, paths_of}

-- ---- the network before all changes, and its link table, which is judged with it as both networks

abbrev pub WithTable : Told → List ℕ → List Loaded → Result Base Stop → Type 0
WithTable t links devices = Then (GivesTable t links wires.Both devices devices) (λ table result. result ≡ Ok (record { devices = devices; table = table }))

abbrev pub GivesBase : Told → Paths → Result Base Stop → Type 0
GivesBase t p = Then (GivesFolder (λ devices. devices) t p.net) (WithTable t p.links)

-- ---- the questions

-- the network before all changes over its own names, and over all names, with the changes beside it
abbrev pub asked_network : Base → Numbered
asked_network base = numbered_of base.devices [] base.table []

abbrev pub window_network : Base → List Loaded → Numbered
window_network base changes = numbered_of base.devices changes base.table []

-- why a text is refused as questions on a network
abbrev pub QuestionsFail : List ℕ → Network → List ℕ → Stop → Type 0
QuestionsFail path net bytes (stop.Refused p n k word) =
    (p ≡ path) × (kind : QuestionRefusal) × (k ≡ questions.refusal_text kind) × (questions_of net bytes ≡ Err (fail.Refused kind n word))
QuestionsFail path net bytes stop.NoMemory = Unit {0}
QuestionsFail path net bytes _ = ⊥

-- the questions that a text asks on a network, or why it asks none
abbrev pub SaysQuestions : List ℕ → Network → List ℕ → Result (List Question) Stop → Type 0
SaysQuestions path net bytes (Ok qs) = questions_of net bytes ≡ Ok (map said qs)
SaysQuestions path net bytes (Err s) = QuestionsFail path net bytes s

-- the bytes of a file that asks questions on the network before all changes
abbrev pub AsksText : List ℕ → Base → List ℕ → Result (List ℕ) Stop → Type 0
AsksText path base bytes = Then (SaysQuestions path (asked_network base).old bytes) (λ qs result. result ≡ Ok bytes)

abbrev pub GivesText : Told → List ℕ → Base → Result (List ℕ) Stop → Type 0
GivesText t path base = Then (GivesBytes (λ bytes. bytes) path (content t path)) (AsksText path base)

-- ---- the steps

-- why a text says no steps
abbrev pub StepsFail : List ℕ → List ℕ → Stop → Type 0
StepsFail path bytes (stop.Refused p n k word) =
    (p ≡ path) × (kind : StepRefusal) × (k ≡ refusal_text kind) × (steps_of bytes ≡ Err (steps.Refused kind n word))
StepsFail path bytes (stop.TooManyFiles p) = (p ≡ path) × (steps_of bytes ≡ Err steps.TooMany)
StepsFail path bytes stop.NoMemory = Unit {0}
StepsFail path bytes _ = ⊥

abbrev pub SaysSteps : List ℕ → List ℕ → Result (List StepLine) Stop → Type 0
SaysSteps path bytes (Ok lines) = steps_of bytes ≡ Ok lines
SaysSteps path bytes (Err s) = StepsFail path bytes s

abbrev pub GivesSteps : Told → List ℕ → Result (List StepLine) Stop → Type 0
GivesSteps t path = Then (GivesBytes (λ bytes. bytes) path (content t path)) (SaysSteps path)

-- the changes of the steps of a file
abbrev pub GivesWindow : Told → List ℕ → Base → Result (List Loaded) Stop → Type 0
GivesWindow t path base = Then (GivesSteps t path) (GivesChanges t path base [] 0)

-- ---- the rollout

-- packets enter with the greatest TTL, since no word names one (RFC 791, 3.1)
abbrev pub first_ttl : ℕ
first_ttl = 255

-- the text of the answer for the network and its changes, and whether a question fails
pub record IsRollout (n : Numbered) (qs : List Question) (r : Report) : Type 0 where
  pub answer : RolloutAnswer
  pub right : IsRolloutAnswer first_ttl qs (map (world n.links) (networks n.old n.new.devices)) answer
  pub text : r.text.items ≡ rollout_text (length n.new.devices + 1) answer
  pub affected : r.affected ≡ fails answer

-- the questions are read again over all names, by which none is refused that was read before, and asked of each network
abbrev pub Asks : List ℕ → Numbered → List ℕ → Result Report Stop → Type 0
Asks path n bytes = Then (SaysQuestions path n.old bytes) (λ qs. OrNoMemory (IsRollout n qs))

-- behind the network and the text of the questions: the steps as a whole, then each step's file, and the answer
abbrev pub RollsWith : Told → Paths → Base → List ℕ → Result Report Stop → Type 0
RollsWith t p base bytes = Then (GivesWindow t p.steps base) (λ changes. Asks p.questions (window_network base changes) bytes)

abbrev pub RollsFrom : Told → Paths → Base → Result Report Stop → Type 0
RollsFrom t p base = Then (GivesText t p.questions base) (RollsWith t p base)

-- the network with its link table, then the questions, then the window, and the answer
abbrev pub Rolls : Told → Paths → Result Report Stop → Type 0
Rolls t p = Then (GivesBase t p) (RollsFrom t p)

abbrev pub Performs : Option Paths → Told → Result Report Stop → Type 0
Performs None t result = ⊥
Performs (Some p) t result = Rolls t p result

-- what the words ask, done
abbrev pub Does : List (List ℕ) → Told → Result Report Stop → Type 0
Does words t result = Performs (paths_of words) t result
