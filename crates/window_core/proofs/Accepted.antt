-- What may stop a rollout of which nothing is refused, too long, too many or absent.
use Rattle.std.proofs.Common.{◌≡◌, inl, inr, ℕ, ◌+◌, ◌≤◌, List, [], ◌∷◌, ◌++◌, length, refl, sym, subst, ◌∙◌, arith}
use Rattle.std.specs.Prelude.{Option, Some, None, Result, Ok, Err, IfSome}
use Rattle.net_types.specs.declared.config.Loaded.{Loaded}
use Rattle.net_types.specs.declared.network.Network.{Network}
use Rattle.net_io.specs.Files.{Told, content}
use Rattle.net_load.specs.declared.numbering.Numbered.{Numbered}
use Rattle.net_load.specs.Limits.{folder_limit}
use Rattle.ask_query.specs.declared.refusal.QuestionFail.TheVariants as fail
use Rattle.ask_query.specs.Reading.{Said, questions_of}
use Rattle.rollout_steps.specs.declared.reading.StepLine.{StepLine}
use Rattle.rollout_steps.specs.declared.refusal.StepsFail.{StepsFail}
use Rattle.rollout_steps.specs.declared.refusal.StepsFail.TheVariants as steps
use Rattle.rollout_steps.specs.Reading.{steps_of}
use Rattle.job_core.specs.declared.report.Report.{Report}
use Rattle.job_core.specs.declared.stop.Stop.{Stop}
use Rattle.job_core.specs.declared.stop.Stop.TheVariants as stop
use Rattle.job_core.specs.declared.table.Wires.TheVariants as wires
use Rattle.job_core.specs.Accepted.{AcceptedFile, MayAlwaysStop}
use Rattle.job_core.specs.Steps.{Then, OrNoMemory, GivesBytes, GivesTable}
use Rattle.job_core.proofs.AcceptedLemmas.{then_may_stop, file_may_stop, bytes_are, table_may_stop, table_is, writing_may_stop}
use Rattle.job_inputs.specs.Configs.{SaysConfig}
use Rattle.job_inputs.specs.Folders.{GivesFolder}
use Rattle.job_inputs.proofs.ConfigLemmas.{config_is, config_may_stop}
use Rattle.job_inputs.proofs.FolderLemmas.{folder_may_stop, folder_is}
use Rattle.window_core.specs.declared.base.Base.{Base}
use Rattle.window_core.specs.declared.change.Change.{Change}
use Rattle.window_core.specs.Accepted.{AcceptedBase, AcceptedSteps, AcceptedRollout, AcceptedPaths, IsAccepted, base_of}
use Rattle.window_core.specs.Changes.{IsWithin, WithTotal, SaysChange, ReadsChange, StepFails, IsJudged, Judges, GivesChange, GivesChanges, AreAll}
use Rattle.window_core.specs.Job.{WithTable, GivesBase, QuestionsFail, SaysQuestions, AsksText, GivesText, StepsFail as TextFail, SaysSteps, GivesSteps, GivesWindow, IsRollout, Asks, RollsWith, RollsFrom, Rolls, Performs, Does, asked_network, window_network}
use Rattle.window_core.specs.Words.{Paths, paths_of}
use Rattle.net_load.specs.Numbering.{names_of}
use Rattle.window_core.proofs.SecondReading.{read_alike, texts_alike}

pub ok_is : {A E : Type 0} (o : Result A E) (x y : A) → o ≡ Ok x → o ≡ Ok y → x ≡ y
ok_is o x y a b = cc

pub ok_err : {A E : Type 0} (o : Result A E) (x : A) (e : E) → o ≡ Ok x → o ≡ Err e → ⊥
ok_err o x e a b = cc

none_some : {A : Type 0} (o : Option A) (x : A) → o ≡ None → o ≡ Some x → ⊥
none_some o x a b = cc

-- a step gives this value and no other, and is stopped by nothing but what may always stop
pub record Given {A : Type 0} (Is : Result A Stop → Type 0) (a : A) : Type 0 where
  pub once : (b : A) → Is (Ok b) → b ≡ a
  pub stops : (s : Stop) → Is (Err s) → MayAlwaysStop s

-- so it is with a step and the next one
pub given_then : {A B : Type 0} (first : Result A Stop → Type 0) (next : A → Result B Stop → Type 0) (a : A) (b : B) → Given first a → Given (next a) b → Given (Then first next) b
given_then {A} {B} first next a b f n = record { once = once; stops = stops } where
  once : (c : B) → Then first next (Ok c) → c ≡ b
  once c (inl (s, h, same)) = absurd (ok_err (Ok c) c s refl same)
  once c (inr (x, h, k)) = n.once c (subst (λ y. next y (Ok c)) (f.once x h) k)

  stops : (s : Stop) → Then first next (Err s) → MayAlwaysStop s
  stops s h = then_may_stop first next s f.stops (λ x g k. n.stops s (subst (λ y. next y (Err s)) (f.once x g) k)) h

pub given_stops : {A B : Type 0} (first : Result A Stop → Type 0) (next : A → Result B Stop → Type 0) (a : A) (s : Stop) → Given first a → (next a (Err s) → MayAlwaysStop s) → Then first next (Err s) → MayAlwaysStop s
given_stops first next a s f n h = then_may_stop first next s f.stops (λ x g k. n (subst (λ y. next y (Err s)) (f.once x g) k)) h

-- a step that can't stop
abbrev pub IsMade : {A : Type 0} → A → Result A Stop → Type 0
IsMade a result = result ≡ Ok a

pub made : {A : Type 0} (a : A) → Given (IsMade a) a
made a = record { once = λ b h. ok_is (Ok b) b a refl h; stops = λ s h. absurd (ok_err (Err s) a s h refl) }

-- ---- files

pub file_given : (t : Told) (path : List ℕ) (a : AcceptedFile t path) → Given (GivesBytes (λ (bytes : List ℕ). bytes) path (content t path)) a.bytes
file_given t path a = record { once = λ b g. bytes_are t path b a g.0; stops = file_may_stop t path a }

-- ---- a change

within_stops : (path : List ℕ) (sum : ℕ) (s : Stop) → sum ≤ folder_limit → IsWithin path sum (Err s) → MayAlwaysStop s
within_stops path sum stop.NoMemory fits h = tt
within_stops path sum (stop.CannotRead p) fits h = tt
within_stops path sum (stop.NotFound p) fits h = h
within_stops path sum (stop.TooLong p) fits h = let long = h.1 in absurd (omega (arith, fits, long))
within_stops path sum (stop.TooManyFiles p) fits h = h
within_stops path sum (stop.HostnameTaken p q) fits h = h
within_stops path sum (stop.Refused p n k w) fits h = h

judged_stops : (path : List ℕ) (fault : Option StepsFail) (s : Stop) → fault ≡ None → StepFails path fault s → MayAlwaysStop s
judged_stops path fault stop.NoMemory fits h = tt
judged_stops path fault (stop.CannotRead p) fits h = tt
judged_stops path fault (stop.NotFound p) fits h = h
judged_stops path fault (stop.TooLong p) fits h = h
judged_stops path fault (stop.TooManyFiles p) fits h = h
judged_stops path fault (stop.HostnameTaken p q) fits h = h
judged_stops path fault (stop.Refused p n k w) fits (same, kind, named, fails) = none_some fault (steps.Refused kind n w) fits fails

-- a step that gives a value gives it alone
abbrev pub Single : {A : Type 0} → (Result A Stop → Type 0) → Type 0
Single {A} Is = (a : A) → Is (Ok a) → Given Is a

pub single_then : {A B : Type 0} (first : Result A Stop → Type 0) (next : A → Result B Stop → Type 0) → Single first → ((a : A) → Single (next a)) → Single (Then first next)
single_then first next f n b (inl (s, h, same)) = absurd (ok_err (Ok b) b s refl same)
single_then first next f n b (inr (x, h, k)) = given_then first next x b (f x h) (n x b k)

pub single_made : {A : Type 0} (a : A) → Single (IsMade a)
single_made a b h = subst (λ x. Given (IsMade a) x) (ok_is (Ok b) a b h refl) (made a)

single_file : (t : Told) (path : List ℕ) → Single (GivesBytes (λ (bytes : List ℕ). bytes) path (content t path))
single_file t path bytes h = file_given t path (record { bytes = bytes; there = h.0; within = h.1 })

single_within : (path : List ℕ) (sum : ℕ) → Single (IsWithin path sum)
single_within path sum total h = record { once = λ b k. k.0 ∙ sym h.0; stops = λ s k. within_stops path sum s h.1 k }

single_config : (file bytes : List ℕ) → Single (SaysConfig file bytes)
single_config file bytes l h = record { once = λ m k. config_is file bytes l m h k; stops = λ s k. config_may_stop file bytes l s h k }

single_judged : (path : List ℕ) (fault : Option StepsFail) (change : Change) → Single (IsJudged path fault (λ x. x ≡ change))
single_judged path fault change x h = record { once = λ b k. k.0 ∙ sym h.0; stops = λ s k. judged_stops path fault s h.1 k }

pub single_change : (t : Told) (path : List ℕ) (base : Base) (before : List Loaded) (sum : ℕ) (step : StepLine) → Single (GivesChange t path base before sum step)
single_change t path base before sum step =
    single_then (ReadsChange t path sum step) (Judges path base before step.line)
    (single_then (GivesBytes (λ (bytes : List ℕ). bytes) step.path (content t step.path)) (SaysChange path sum step.path)
    (single_file t step.path)
    (λ bytes. single_then (IsWithin path (sum + length bytes)) (WithTotal step.path bytes)
    (single_within path (sum + length bytes))
    (λ total. single_then (SaysConfig step.path bytes) (λ l. IsMade (record { device = l; total = total })) (single_config step.path bytes) (λ l. single_made (record { device = l; total = total })))))
    (λ change. single_judged path _ change)

all_stops : (before : List Loaded) (s : Stop) → AreAll before (Err s) → MayAlwaysStop s
all_stops before stop.NoMemory h = tt
all_stops before (stop.CannotRead p) h = tt
all_stops before (stop.NotFound p) h = h
all_stops before (stop.TooLong p) h = h
all_stops before (stop.TooManyFiles p) h = h
all_stops before (stop.HostnameTaken p q) h = h
all_stops before (stop.Refused p n k w) h = h

single_changes : (t : Told) (path : List ℕ) (base : Base) (before : List Loaded) (sum : ℕ) (lines : List StepLine) → Single (GivesChanges t path base before sum lines)
single_changes t path base before sum [] changes h = record { once = λ b k. k ∙ sym h; stops = λ s k. all_stops before s k }
single_changes t path base before sum (step ∷ lines) changes h =
    let both = single_then (GivesChange t path base before sum step) (λ change. GivesChanges t path base (before ++ change.device ∷ []) change.total lines)
    (single_change t path base before sum step) (λ change. single_changes t path base (before ++ change.device ∷ []) change.total lines) changes h in
    record { once = both.once; stops = both.stops }

-- ---- the network, the questions and the steps

module _ (t : Told) (p : Paths) where
  base_given : (a : AcceptedBase t p) → Given (GivesBase t p) (base_of a)
  base_given a =
      let devices = a.folder.devices in
      let table = a.table.links.table in
      given_then (GivesFolder (λ (ds : List Loaded). ds) t p.net) (WithTable t p.links) devices (base_of a)
      (record { once = folder_is t p.net a.folder; stops = folder_may_stop t p.net a.folder })
      (given_then (GivesTable t p.links wires.Both devices devices) (λ x. IsMade (record { devices = devices; table = x })) table (base_of a)
      (record { once = table_is t p.links wires.Both devices devices a.table; stops = table_may_stop t p.links wires.Both devices devices a.table })
      (made (base_of a)))

questions_stop : (path : List ℕ) (net : Network) (bytes : List ℕ) (read : List Said) (s : Stop) → questions_of net bytes ≡ Ok read → QuestionsFail path net bytes s → MayAlwaysStop s
questions_stop path net bytes read stop.NoMemory is h = tt
questions_stop path net bytes read (stop.CannotRead p) is h = tt
questions_stop path net bytes read (stop.NotFound p) is h = h
questions_stop path net bytes read (stop.TooLong p) is h = h
questions_stop path net bytes read (stop.TooManyFiles p) is h = h
questions_stop path net bytes read (stop.HostnameTaken p q) is h = h
questions_stop path net bytes read (stop.Refused p m k w) is (same, kind, named, refused) = ok_err (questions_of net bytes) read (fail.Refused kind m w) is refused

asked_given : (path : List ℕ) (base : Base) (bytes : List ℕ) (read : List Said) → questions_of (asked_network base).old bytes ≡ Ok read → Given (AsksText path base bytes) bytes
asked_given path base bytes read is = record { once = once; stops = stops } where
  once : (b : List ℕ) → AsksText path base bytes (Ok b) → b ≡ bytes
  once b (inl (s, h, same)) = absurd (ok_err (Ok b) b s refl same)
  once b (inr (qs, h, k)) = ok_is (Ok b) b bytes refl k

  stops : (s : Stop) → AsksText path base bytes (Err s) → MayAlwaysStop s
  stops s h =
      then_may_stop (SaysQuestions path (asked_network base).old bytes) (λ qs. IsMade bytes) s
      (λ r k. questions_stop path (asked_network base).old bytes read r is k) (λ qs g k. (made bytes).stops s k) h

text_stops : (path bytes : List ℕ) (lines : List StepLine) (s : Stop) → steps_of bytes ≡ Ok lines → TextFail path bytes s → MayAlwaysStop s
text_stops path bytes lines stop.NoMemory is h = tt
text_stops path bytes lines (stop.CannotRead p) is h = tt
text_stops path bytes lines (stop.NotFound p) is h = h
text_stops path bytes lines (stop.TooLong p) is h = h
text_stops path bytes lines (stop.TooManyFiles p) is h = ok_err (steps_of bytes) lines steps.TooMany is h.1
text_stops path bytes lines (stop.HostnameTaken p q) is h = h
text_stops path bytes lines (stop.Refused p m k w) is (same, kind, named, refused) = ok_err (steps_of bytes) lines (steps.Refused kind m w) is refused

steps_given : (t : Told) (path : List ℕ) (a : AcceptedSteps t path) → Given (GivesSteps t path) a.lines
steps_given t path a =
    given_then (GivesBytes (λ (bytes : List ℕ). bytes) path (content t path)) (SaysSteps path) a.file.bytes a.lines (file_given t path a.file)
    (record { once = λ b h. ok_is (steps_of a.file.bytes) b a.lines h a.read; stops = λ s h. text_stops path a.file.bytes a.lines s a.read h })

-- ---- the whole

asks_stops : (path : List ℕ) (n : Numbered) (bytes : List ℕ) (read : List Said) (s : Stop) → questions_of n.old bytes ≡ Ok read → Asks path n bytes (Err s) → MayAlwaysStop s
asks_stops path n bytes read s is h =
    then_may_stop (SaysQuestions path n.old bytes) (λ qs. OrNoMemory (IsRollout n qs)) s (λ r k. questions_stop path n.old bytes read r is k) (λ qs g written. writing_may_stop (IsRollout n qs) s written) h

rolls_stops : (t : Told) (p : Paths) (a : AcceptedRollout t p) (s : Stop) → Rolls t p (Err s) → MayAlwaysStop s
rolls_stops t p a s h = given_stops (GivesBase t p) (RollsFrom t p) base s (base_given t p a.base) from h where
  base : Base
  base = base_of a.base

  again : (read : List Said) × (questions_of (window_network base a.changes).old a.text.bytes ≡ Ok read)
  again =
      read_alike (questions_of (asked_network base).old a.text.bytes) (questions_of (window_network base a.changes).old a.text.bytes) a.asked
      (texts_alike (names_of base.devices [] base.table []) (names_of base.devices a.changes base.table []) base.devices a.text.bytes) a.read

  by : RollsWith t p base a.text.bytes (Err s) → MayAlwaysStop s
  by k =
      given_stops (GivesWindow t p.steps base) (λ changes. Asks p.questions (window_network base changes) a.text.bytes) a.changes s
      (given_then (GivesSteps t p.steps) (GivesChanges t p.steps base [] 0) a.steps.lines a.changes (steps_given t p.steps a.steps) (single_changes t p.steps base [] 0 a.steps.lines a.changes a.taken))
      (asks_stops p.questions (window_network base a.changes) a.text.bytes again.0 s again.1)
      k

  from : RollsFrom t p base (Err s) → MayAlwaysStop s
  from k =
      given_stops (GivesText t p.questions base) (RollsWith t p base) a.text.bytes s
      (given_then (GivesBytes (λ (bytes : List ℕ). bytes) p.questions (content t p.questions)) (AsksText p.questions base) a.text.bytes a.text.bytes (file_given t p.questions a.text) (asked_given p.questions base a.text.bytes a.asked a.read))
      by k

paths_may_stop : (o : Option Paths) (t : Told) (s : Stop) → AcceptedPaths o t → Performs o t (Err s) → MayAlwaysStop s
paths_may_stop None t s a d = absurd a
paths_may_stop (Some p) t s a d = rolls_stops t p a s d

pub accepted_may_stop : (words : List (List ℕ)) (t : Told) (s : Stop) → IsAccepted words t → Does words t (Err s) → MayAlwaysStop s
accepted_may_stop words t s a d = paths_may_stop (paths_of words) t s a d

-- what is done for the paths that the words name is what they ask
pub does_paths : (words : List (List ℕ)) (told : Option Told) (p : Paths) (result : Result Report Stop) → paths_of words ≡ Some p → IfSome told (λ t. Rolls t p result) → IfSome told (λ t. Does words t result)
does_paths words told p result asked d = subst (λ o. IfSome told (λ t. Performs o t result)) (sym asked) d

-- where the words are outside the usage nothing is accepted
pub none_accepted : (words : List (List ℕ)) → paths_of words ≡ None → (t : Told) → IsAccepted words t → ⊥
none_accepted words none t a = subst (λ o. AcceptedPaths o t) none a
