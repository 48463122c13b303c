-- Texts that are answers, and those that aren't.
use Rattle.std.proofs.Common.{◌≡◌, ◌≢◌, inl, inr, ℕ, ◌+◌, ◌^◌, ◌<◌, List, [], Option, Some, None, Result, Ok, Err, IfSome, length, flat_map, refl, sym, ap, ◌∙◌, subst}
use Rattle.std.specs.Prelude.{codes, min}
use Rattle.std.specs.List.{AllByRecursion}
use Rattle.net_io.specs.Files.{Told, content}
use Rattle.net_types.specs.declared.question.Answer.{Answer}
use Rattle.job_core.specs.declared.stop.Stop.{Stop}
use Rattle.job_core.specs.declared.stop.Stop.TheVariants as stop
use Rattle.view_core.specs.Names.{text_lines}
use Rattle.view_core.specs.Reports.{GivesReport}
use Rattle.answer_view.specs.AnswerText.{HasPacket}
use Rattle.result_text.specs.AnswerText.{answers_text}
use Rattle.answer_view.specs.Said.{said_at, said_in}
use Rattle.answer_view.specs.Views.{IsFault, IsCounted, AnswersFail, SaysAnswers, GivesAnswers}
use Rattle.answer_view.proofs.Answers.{no_list}

-- what the lines of a text say is what it says
pub said_by_lines : (lines : List (List ℕ)) (bytes : List ℕ) (answers : List Answer) → lines ≡ text_lines bytes → answers ≡ flat_map said_at lines → answers ≡ said_in bytes
said_by_lines lines bytes answers l a = a ∙ ap (flat_map said_at) l

-- a line is written otherwise
pub other_says : {T : Type 0} (view : T → List Answer) (path : List ℕ) (count : ℕ) (bytes : List ℕ) (answers : List Answer) (line : ℕ) (s : Stop)
    → answers ≡ said_in bytes → length bytes < 2 ^ 64 → IsFault answers bytes (Some line) → s ≡ stop.Refused path line (codes "NotAnswers") [] → SaysAnswers view path count bytes (Err s)
other_says view path count bytes answers line s a l f e =
    let f' : IsFault (said_in bytes) bytes (Some line) = subst (λ (xs : List Answer). IsFault xs bytes (Some line)) a f in
    subst (AnswersFail path count bytes) (sym e) (refl, inl (record { none = no_list bytes l f'.0; place = f'.1 }, refl), refl)

-- none is
pub counted_says : {T : Type 0} (view : T → List Answer) (path : List ℕ) (count : ℕ) (bytes : List ℕ) (answers : List Answer) (r : Result T Stop)
    → AllByRecursion HasPacket answers → answers_text answers ≡ bytes → IsCounted view path count answers r → SaysAnswers view path count bytes r
counted_says view path count bytes answers (Ok x) p w (same, n) =
    (record { packets = subst (AllByRecursion HasPacket) (sym same) p; written = ap answers_text same ∙ w }, ap (length {A = _}) same ∙ n)
counted_says view path count bytes answers (Err (stop.Refused q line kind word)) p w (same, other, place, name, none) =
    (same, inr (record { answers = answers; written = record { packets = p; written = w }; other = other; place = place }, name), none)
counted_says view path count bytes answers (Err stop.NoMemory) p w h = tt
counted_says view path count bytes answers (Err (stop.CannotRead q)) p w h = h
counted_says view path count bytes answers (Err (stop.TooLong q)) p w h = h
counted_says view path count bytes answers (Err (stop.TooManyFiles q)) p w h = h
counted_says view path count bytes answers (Err (stop.HostnameTaken q d)) p w h = h
counted_says view path count bytes answers (Err (stop.NotFound q)) p w h = h

-- there are more or fewer than so many
pub miscounted : {T : Type 0} (view : T → List Answer) (path : List ℕ) (count : ℕ) (answers : List Answer) (line : ℕ) (s : Stop)
    → length answers ≢ count → line ≡ min (length answers) count + 1 → s ≡ stop.Refused path line (codes "OtherCount") [] → IsCounted view path count answers (Err s)
miscounted view path count answers line s other place e = subst (λ (x : Stop). IsCounted view path count answers (Err x)) (sym e) (refl, other, place, refl, refl)

-- ---- files

pub file_gives : {T : Type 0} (view : T → List Answer) (path : List ℕ) (count : ℕ) (bytes : List ℕ) (told : Option Told) (r : Result T Stop)
    → IfSome told (λ t. GivesReport {T = List ℕ} (λ b. b) path (content t path) (Ok bytes)) → SaysAnswers view path count bytes r → IfSome told (λ t. GivesAnswers view t path count r)
file_gives view path count bytes None r given says = tt
file_gives view path count bytes (Some t) (Ok x) given says = (bytes, given.0, given.1, says.0, says.1)
file_gives view path count bytes (Some t) (Err s) given says = inr (bytes, given.0, says)

pub no_file_gives : {T : Type 0} (view : T → List Answer) (path : List ℕ) (count : ℕ) (told : Option Told) (s : Stop)
    → IfSome told (λ t. GivesReport {T = List ℕ} (λ b. b) path (content t path) (Err s)) → IfSome told (λ t. GivesAnswers view t path count (Err s))
no_file_gives view path count None s h = tt
no_file_gives view path count (Some t) s h = inl h
