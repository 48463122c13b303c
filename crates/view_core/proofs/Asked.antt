-- What the words ask, and what may stop it where it is accepted.
use Rattle.std.proofs.Common.{◌≡◌, ℕ, ◌<◌, List, Option, Some, None, Result, Err, IfSome, length, sym, subst, arith}
use Rattle.std.specs.Prelude.{IsSomeAnd}
use Rattle.net_io.specs.Files.{Told, content}
use Rattle.job_core.specs.declared.report.Report.{Report}
use Rattle.job_core.specs.declared.stop.Stop.{Stop}
use Rattle.job_core.specs.declared.stop.Stop.TheVariants as stop
use Rattle.job_core.specs.Accepted.{MayAlwaysStop}
use Rattle.job_core.proofs.AcceptedLemmas.{then_may_stop}
use Rattle.view_core.specs.declared.words.Manner.{Manner}
use Rattle.view_core.specs.Reports.{IsReport, report_limit, UnreadReport, GivesReport}
use Rattle.view_core.specs.Views.{ReportFails, Views, Shows, Performs, Says, SaysOr, Does, AcceptedReport, AcceptedView, AcceptedOr, IsAccepted}
use Rattle.view_core.specs.Words.{path_of, manner_of, said}

-- what is said is what the words ask
pub does_say : (words : List (List ℕ)) (text : List ℕ) → said words ≡ Some text → (told : Option Told) (r : Result Report Stop) → Says text r → IfSome told (λ t. Does words t r)
does_say words text e None r h = tt
does_say words text e (Some t) r h = subst (λ o. SaysOr o (Performs (path_of words) (manner_of words) t) r) (sym e) h

-- what is shown of the file that the words name is what they ask
module _ (words : List (List ℕ)) (path : List ℕ) (m : Manner) (silent : said words ≡ None) (asked : path_of words ≡ Some path) (formed : m ≡ manner_of words) where
  asks : (t : Told) (r : Result Report Stop) → Shows t m path r → Does words t r
  asks t r h =
      subst (λ o. SaysOr o (Performs (path_of words) (manner_of words) t) r) (sym silent)
      (subst (λ o. Performs o (manner_of words) t r) (sym asked) (subst (λ n. Shows t n path r) formed h))

  pub does_view : (told : Option Told) (r : Result Report Stop) → IfSome told (λ t. Shows t m path r) → IfSome told (λ t. Does words t r)
  does_view None r h = tt
  does_view (Some t) r h = asks t r h

-- want of memory before a file is read is what may come
pub does_stop : (words : List (List ℕ)) → (told : Option Told) → ((t : Told) → Does words t (Err stop.NoMemory)) → IfSome told (λ t. Does words t (Err stop.NoMemory))
does_stop words None h = tt
does_stop words (Some t) h = h t

-- ---- what may stop a view that is accepted

pub some_is : {A : Type 0} (o : Option A) (x y : A) → o ≡ Some x → o ≡ Some y → x ≡ y
some_is o x y a b = cc

none_some : {A : Type 0} (o : Option A) (x : A) → o ≡ None → o ≡ Some x → ⊥
none_some o x a b = cc

pub report_fails : (path bytes : List ℕ) (s : Stop) → IsReport bytes → ReportFails path bytes s → MayAlwaysStop s
report_fails path bytes (stop.Refused p line kind word) is (same, fails, none, silent) = absurd (fails.none is.sections is.report)
report_fails path bytes stop.NoMemory is h = tt
report_fails path bytes (stop.CannotRead p) is h = tt
report_fails path bytes (stop.TooLong p) is h = h
report_fails path bytes (stop.TooManyFiles p) is h = h
report_fails path bytes (stop.HostnameTaken p q) is h = h
report_fails path bytes (stop.NotFound p) is h = h

module _ (t : Told) (path : List ℕ) (a : AcceptedReport t path) where
  pub file_may_stop : (r : Stop) → UnreadReport path (content t path) r → MayAlwaysStop r
  file_may_stop (stop.CannotRead p) h = tt
  file_may_stop stop.NoMemory h = tt
  file_may_stop (stop.NotFound p) h = none_some (content t path) a.bytes h.1 a.there
  file_may_stop (stop.TooLong p) h =
      let long : report_limit < length a.bytes = subst (λ (q : Option (List ℕ)). IsSomeAnd q (λ b. report_limit < length b)) a.there h.1 in
      let within = a.within in
      absurd (omega (arith, long, within))
  file_may_stop (stop.TooManyFiles p) h = h
  file_may_stop (stop.Refused p n k w) h = h
  file_may_stop (stop.HostnameTaken p q) h = h

module _ (t : Told) (m : Manner) (path : List ℕ) (s : Stop) (a : AcceptedReport t path) where
  views_may_stop : (bytes : List ℕ) → content t path ≡ Some bytes → Views m path bytes (Err s) → MayAlwaysStop s
  views_may_stop bytes there fails = report_fails path a.bytes s a.report (subst (λ (b : List ℕ). ReportFails path b s) (some_is (content t path) bytes a.bytes there a.there) fails)

  shows_may_stop : Shows t m path (Err s) → MayAlwaysStop s
  shows_may_stop h =
      then_may_stop (GivesReport (λ (bs : List ℕ). bs) path (content t path)) (Views m path) s (file_may_stop t path a) (λ bytes given fails. views_may_stop bytes given.0 fails) h

view_may_stop : (o : Option (List ℕ)) (m : Manner) (t : Told) (s : Stop) → AcceptedView o t → Performs o m t (Err s) → MayAlwaysStop s
view_may_stop None m t s a d = absurd a
view_may_stop (Some path) m t s a d = shows_may_stop t m path s a d

says_may_stop : (text : List ℕ) (s : Stop) → Says text (Err s) → MayAlwaysStop s
says_may_stop text stop.NoMemory h = tt
says_may_stop text (stop.CannotRead p) h = tt
says_may_stop text (stop.Refused p line kind word) h = h
says_may_stop text (stop.TooLong p) h = h
says_may_stop text (stop.TooManyFiles p) h = h
says_may_stop text (stop.HostnameTaken p q) h = h
says_may_stop text (stop.NotFound p) h = h

some_may_stop : (words : List (List ℕ)) (o : Option (List ℕ)) (t : Told) (s : Stop) → AcceptedOr o (AcceptedView (path_of words) t) → SaysOr o (Performs (path_of words) (manner_of words) t) (Err s) → MayAlwaysStop s
some_may_stop words (Some text) t s a d = says_may_stop text s d
some_may_stop words None t s a d = view_may_stop (path_of words) (manner_of words) t s a d

pub accepted_may_stop : (words : List (List ℕ)) (t : Told) (s : Stop) → IsAccepted words t → Does words t (Err s) → MayAlwaysStop s
accepted_may_stop words t s a d = some_may_stop words (said words) t s a d
