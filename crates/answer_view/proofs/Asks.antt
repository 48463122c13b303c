-- What the words ask, and what may stop it where it is accepted.
use Rattle.std.proofs.Common.{◌≡◌, inl, inr, ℕ, ◌<◌, true, false, List, Option, Some, None, Result, Err, IfSome, length, map, sym, ap, ◌∙◌, subst, arith}
use Rattle.std.specs.Prelude.{IsSomeAnd}
use Rattle.net_io.specs.Files.{Told, content}
use Rattle.net_types.specs.declared.question.Answer.{Answer}
use Rattle.job_core.specs.declared.report.Report.{Report}
use Rattle.job_core.specs.declared.stop.Stop.{Stop}
use Rattle.job_core.specs.declared.stop.Stop.TheVariants as stop
use Rattle.job_core.specs.Accepted.{MayAlwaysStop}
use Rattle.job_core.specs.Steps.{GivesBytes}
use Rattle.job_core.proofs.AcceptedLemmas.{then_may_stop, file_may_stop, bytes_are, writing_may_stop}
use Rattle.view_core.specs.Reports.{report_limit, UnreadReport}
use Rattle.answer_view.specs.declared.asked.Asked.{Asked}
use Rattle.answer_view.specs.declared.answered.Answered.{Answered}
use Rattle.view_core.specs.declared.words.Format.{Format}
use Rattle.answer_view.specs.Asked.{asked_in}
use Rattle.answer_view.specs.Answered.{answered_from}
use Rattle.answer_view.specs.Views.{IsView, Views, IsRefused, AnswersFail, GivesAnswers, ShowsSince, ShowsFor, Shows, Performs, Does, AcceptedAnswers, AcceptedBefore, AcceptedPaths, AcceptedOr, IsAccepted}
use Rattle.answer_view.specs.Words.{paths_of, before_of, format_of}
use Rattle.answer_view.proofs.Answers.{one_list}

-- what is shown of the files that the words name is what they ask
pub does_show : (words : List (List ℕ)) (questions after : List ℕ) (before : Option (List ℕ)) (f : Format) → paths_of words ≡ Some (questions, after) → before ≡ before_of words → f ≡ format_of words
    → (told : Option Told) (r : Result Report Stop) → IfSome told (λ t. Shows t f questions before after r) → IfSome told (λ t. Does words t r)
does_show words questions after before f p b e None r h = tt
does_show words questions after before f p b e (Some t) r h =
    subst (λ o. Performs o (before_of words) (format_of words) t r) (sym p)
    (subst (λ o. Shows t (format_of words) questions o after r) b (subst (λ q. Shows t q questions before after r) e h))

-- ---- what may stop a view that is accepted

some_is : {A : Type 0} (o : Option A) (x y : A) → o ≡ Some x → o ≡ Some y → x ≡ y
some_is o x y a b = cc

none_some : {A : Type 0} (o : Option A) (x : A) → o ≡ None → o ≡ Some x → ⊥
none_some o x a b = cc

module _ (t : Told) (path : List ℕ) (count : ℕ) (a : AcceptedAnswers t path count) where
  unread_may_stop : (s : Stop) → UnreadReport path (content t path) s → MayAlwaysStop s
  unread_may_stop (stop.CannotRead p) h = tt
  unread_may_stop stop.NoMemory h = tt
  unread_may_stop (stop.NotFound p) h = none_some (content t path) a.bytes h.1 a.there
  unread_may_stop (stop.TooLong p) h =
      let long : report_limit < length a.bytes = subst (λ (q : Option (List ℕ)). IsSomeAnd q (λ b. report_limit < length b)) a.there h.1 in
      let within = a.within in
      absurd (omega (arith, long, within))
  unread_may_stop (stop.TooManyFiles p) h = h
  unread_may_stop (stop.Refused p n k w) h = h
  unread_may_stop (stop.HostnameTaken p q) h = h

  not_refused : (line : ℕ) (kind : List ℕ) → IsRefused count a.bytes line kind → ⊥
  not_refused line kind (inl (other, name)) = other.none a.answers a.written
  not_refused line kind (inr (counted, name)) =
      let within = a.within in
      let same : counted.answers ≡ a.answers = one_list counted.answers a.answers a.bytes counted.written a.written (omega (arith, within)) in
      counted.other (ap (length {A = _}) same ∙ a.counted)

  fails_may_stop : (s : Stop) → AnswersFail path count a.bytes s → MayAlwaysStop s
  fails_may_stop (stop.Refused p line kind word) (same, refused, none) = absurd (not_refused line kind refused)
  fails_may_stop stop.NoMemory h = tt
  fails_may_stop (stop.CannotRead p) h = tt
  fails_may_stop (stop.TooLong p) h = h
  fails_may_stop (stop.TooManyFiles p) h = h
  fails_may_stop (stop.HostnameTaken p q) h = h
  fails_may_stop (stop.NotFound p) h = h

  answers_may_stop : (s : Stop) → GivesAnswers {T = List Answer} (λ answers. answers) t path count (Err s) → MayAlwaysStop s
  answers_may_stop s (inl unread) = unread_may_stop s unread
  answers_may_stop s (inr (bytes, there, fails)) = fails_may_stop s (subst (λ (b : List ℕ). AnswersFail path count b s) (some_is (content t path) bytes a.bytes there a.there) fails)

views_may_stop : (f : Format) (answered : List Answered) (s : Stop) → Views f true answered (Err s) → MayAlwaysStop s
views_may_stop f answered s h = writing_may_stop (λ r. IsView f true answered r.text.items × (r.affected ≡ false)) s h

alone_may_stop : (f : Format) (answered : List Answered) (s : Stop) → Views f false answered (Err s) → MayAlwaysStop s
alone_may_stop f answered s h = writing_may_stop (λ r. IsView f false answered r.text.items × (r.affected ≡ false)) s h

module _ (t : Told) (f : Format) (after : List ℕ) (asked : List Asked) (s : Stop) (a : AcceptedAnswers t after (length asked)) where
  since_may_stop : (before : List Answer) → ShowsSince t f after asked before (Err s) → MayAlwaysStop s
  since_may_stop before h =
      then_may_stop (GivesAnswers (λ (xs : List Answer). xs) t after (length asked)) (λ answers. Views f true (answered_from 1 asked (map Some before) answers)) s (answers_may_stop t after (length asked) a)
      (λ answers given fails. views_may_stop f (answered_from 1 asked (map Some before) answers) s fails) h

  for_may_stop : (before : Option (List ℕ)) → AcceptedBefore t before (length asked) → ShowsFor t f before after asked (Err s) → MayAlwaysStop s
  for_may_stop None b h =
      then_may_stop (GivesAnswers (λ (xs : List Answer). xs) t after (length asked)) (λ answers. Views f false (answered_from 1 asked (map (λ x. None) answers) answers)) s (answers_may_stop t after (length asked) a)
      (λ answers given fails. alone_may_stop f (answered_from 1 asked (map (λ x. None) answers) answers) s fails) h
  for_may_stop (Some before) b h =
      then_may_stop (GivesAnswers (λ (xs : List Answer). xs) t before (length asked)) (ShowsSince t f after asked) s (answers_may_stop t before (length asked) b)
      (λ answers given next. since_may_stop answers next) h

shows_may_stop : (t : Told) (f : Format) (questions after : List ℕ) (before : Option (List ℕ)) (s : Stop) → AcceptedPaths t questions before after → Shows t f questions before after (Err s) → MayAlwaysStop s
shows_may_stop t f questions after before s a h =
    then_may_stop (GivesBytes (λ (bs : List ℕ). bs) questions (content t questions)) (λ bytes. ShowsFor t f before after (asked_in bytes)) s (file_may_stop t questions a.asked)
    (λ bytes given next. for_may_stop t f after (asked_in a.asked.bytes) s a.later before a.earlier
    (subst (λ (bs : List ℕ). ShowsFor t f before after (asked_in bs) (Err s)) (bytes_are t questions bytes a.asked given.0) next)) h

named_may_stop : (paths : Option (List ℕ × List ℕ)) (before : Option (List ℕ)) (f : Format) (t : Told) (s : Stop) → AcceptedOr paths before t → Performs paths before f t (Err s) → MayAlwaysStop s
named_may_stop None before f t s a d = absurd a
named_may_stop (Some paths) before f t s a d = shows_may_stop t f paths.0 paths.1 before s a d

pub accepted_may_stop : (words : List (List ℕ)) (t : Told) (s : Stop) → IsAccepted words t → Does words t (Err s) → MayAlwaysStop s
accepted_may_stop words t s a d = named_may_stop (paths_of words) (before_of words) (format_of words) t s a d
