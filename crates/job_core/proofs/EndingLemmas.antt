-- How a run ends: what the report and its status say, and what a stop and its status say.
use Rattle.std.proofs.Common.{◌≡◌, ◌≢◌, ◌⊎◌, inl, inr, ℕ, ◌≤◌, true, false, cond, List, Option, Some, None, Result, Ok, Err, IfSome, refl, sym, ap, subst, ◌∙◌, arith}
use Rattle.std.specs.Prelude.{IfErr, IfOk}
use Rattle.net_io.specs.Faults.{Rose, Faultless, IsLast}
use Rattle.net_io.specs.Files.{Told}
use Rattle.job_core.specs.declared.report.Report.{Report}
use Rattle.job_core.specs.declared.stop.Stop.{Stop}
use Rattle.job_core.specs.declared.stop.Stop.TheVariants as stop
use Rattle.job_core.specs.Accepted.{MayAlwaysStop}
use Rattle.job_core.specs.Causes.{FaultRose, HasCause, NamesLast}
use Rattle.job_core.specs.Endings.{FilesOver, SinkOver, Said, Tells, Wrote, StoppedWith, WritesReport, Finishes, Ends, status_of_report}
use Rattle.job_core.specs.Lines.{no_memory_text}
use Rattle.job_core.specs.Stops.{status_of, line_of, cannot_read_line}

-- a stop has none of the statuses of a report, of words that are no command and of a failed output
stop_status : (s : Stop) → (3 ≤ status_of s) × (status_of s ≤ 8)
stop_status (stop.Refused path line kind word) = (omega arith, omega arith)
stop_status (stop.HostnameTaken first second) = (omega arith, omega arith)
stop_status (stop.CannotRead path) = (omega arith, omega arith)
stop_status (stop.TooLong path) = (omega arith, omega arith)
stop_status (stop.TooManyFiles path) = (omega arith, omega arith)
stop_status (stop.NotFound path) = (omega arith, omega arith)
stop_status stop.NoMemory = (omega arith, omega arith)

not_six : (s : Stop) → status_of s ≡ 6 → ⊥
not_six (stop.Refused path line kind word) e = omega (arith, e)
not_six (stop.HostnameTaken first second) e = omega (arith, e)
not_six (stop.CannotRead path) e = omega (arith, e)
not_six (stop.TooLong path) e = omega (arith, e)
not_six (stop.TooManyFiles path) e = omega (arith, e)
not_six (stop.NotFound path) e = omega (arith, e)
not_six stop.NoMemory e = omega (arith, e)

-- at 4 a file can't be read
four_is_read : (s : Stop) → status_of s ≡ 4 → (path : List ℕ) × (s ≡ stop.CannotRead path)
four_is_read (stop.CannotRead path) e = (path, refl)
four_is_read (stop.Refused path line kind word) e = absurd (omega (arith, e))
four_is_read (stop.HostnameTaken first second) e = absurd (omega (arith, e))
four_is_read (stop.TooLong path) e = absurd (omega (arith, e))
four_is_read (stop.TooManyFiles path) e = absurd (omega (arith, e))
four_is_read (stop.NotFound path) e = absurd (omega (arith, e))
four_is_read stop.NoMemory e = absurd (omega (arith, e))

seven_is_memory : (s : Stop) → status_of s ≡ 7 → line_of s ≡ no_memory_text
seven_is_memory stop.NoMemory e = refl
seven_is_memory (stop.CannotRead path) e = absurd (omega (arith, e))
seven_is_memory (stop.Refused path line kind word) e = absurd (omega (arith, e))
seven_is_memory (stop.HostnameTaken first second) e = absurd (omega (arith, e))
seven_is_memory (stop.TooLong path) e = absurd (omega (arith, e))
seven_is_memory (stop.TooManyFiles path) e = absurd (omega (arith, e))
seven_is_memory (stop.NotFound path) e = absurd (omega (arith, e))

-- an accepted job that stops without a fault ends for want of memory
ends_at_seven : (s : Stop) (before now : ℕ) → MayAlwaysStop s → FaultRose before now s → Faultless before now → status_of s ≡ 7
ends_at_seven (stop.CannotRead p) before now may rose none = absurd (none rose)
ends_at_seven stop.NoMemory before now may rose none = refl
ends_at_seven (stop.Refused p n k w) before now may rose none = absurd may
ends_at_seven (stop.HostnameTaken p q) before now may rose none = absurd may
ends_at_seven (stop.TooLong p) before now may rose none = absurd may
ends_at_seven (stop.TooManyFiles p) before now may rose none = absurd may
ends_at_seven (stop.NotFound p) before now may rose none = absurd may

zero_or_one : (r : Report) (status : ℕ) → status ≡ status_of_report r → (status ≡ 0) ⊎ (status ≡ 1)
zero_or_one r status e = (elim (r.affected) as (λ b. status ≡ cond b 1 0 → (status ≡ 0) ⊎ (status ≡ 1)) [ true ↦ λ k. inr k | false ↦ λ k. inl k ]) e

-- a status that is none of these
not_zero_or_one : {P : Type 0} (status : ℕ) → 2 ≤ status → (status ≡ 0) ⊎ (status ≡ 1) → P
not_zero_or_one status high (inl zero) = absurd (omega (arith, high, zero))
not_zero_or_one status high (inr one) = absurd (omega (arith, high, one))

-- a run with a report ends at 6, 0 or 1
none_other : {P : Type 0} (status k : ℕ) → (status ≡ 6) ⊎ ((status ≡ 0) ⊎ (status ≡ 1)) → status ≡ k → (k ≡ 6 → ⊥) → 2 ≤ k → P
none_other status k (inl six) is other high = absurd (other (sym is ∙ six))
none_other status k (inr (inl zero)) is other high = absurd (omega (arith, zero, is, high))
none_other status k (inr (inr one)) is other high = absurd (omega (arith, one, is, high))

either : {A B P : Type 0} → A ⊎ B → (A → P) → (B → P) → P
either (inl a) f g = f a
either (inr b) f g = g b

-- what holds of all that files may tell, and what follows of what they tell
all_told : {Q : Told → Type 0} (told : Option Told) → ((t : Told) → Q t) → IfSome told Q
all_told None q = tt
all_told (Some t) q = q t

then_told : {P Q : Told → Type 0} (told : Option Told) → ((t : Told) → P t → Q t) → IfSome told P → IfSome told Q
then_told None q p = tt
then_told (Some t) q p = q t p

-- what ends a job has none of the status of words outside the usage
pub finished_not_refused : {P : Type 0} (done : Result Report Stop) (status : ℕ) (out err : SinkOver) → Finishes done status out err → status ≡ 2 → P
finished_not_refused (Ok r) status out err w two =
    elim w.written [ inl six ↦ absurd (omega (arith, six, two)) | inr v ↦ absurd (either (zero_or_one r status v.0) (λ a. omega (arith, a, two)) (λ a. omega (arith, a, two))) ]
finished_not_refused (Err s) status out err w two = let least = (stop_status w.1.0).0 in let is = w.1.2 in absurd (omega (arith, least, is, two))

-- and where a report has nothing to look at, it isn't status 1
pub finished_plainly : {P : Type 0} (done : Result Report Stop) (status : ℕ) (out err : SinkOver) → IfOk done (λ r. r.affected ≡ false) → Finishes done status out err → status ≡ 1 → P
finished_plainly (Ok r) status out err plain w one =
    let zero : status_of_report r ≡ 0 = ap (λ b. cond b 1 0) plain in
    elim w.written [ inl six ↦ absurd (omega (arith, six, one)) | inr v ↦ (let is = v.0 in absurd (omega (arith, is, zero, one))) ]
finished_plainly (Err s) status out err plain w one = let least = (stop_status w.1.0).0 in let is = w.1.2 in absurd (omega (arith, least, is, one))

-- the line of a path that is the last is the line of the last
last_line : (last : Option (List ℕ)) (path : List ℕ) (err : SinkOver) → IsLast path last → Said (cannot_read_line path) err → IfSome last (λ p. Said (cannot_read_line p) err)
last_line None path err is said = tt
last_line (Some p) path err is said = subst (λ (x : List ℕ). Said (cannot_read_line x) err) (sym is) said

-- at 4 the line names the path of the call that failed last
pub names_last : (done : Result Report Stop) (status : ℕ) (last : Option (List ℕ)) (out err : SinkOver) → IfErr done (NamesLast last) → Finishes done status out err → status ≡ 4 → IfSome last (λ p. Said (cannot_read_line p) err)
names_last (Ok r) status last out err named w four =
    elim w.written [ inl six ↦ absurd (omega (arith, six, four)) | inr v ↦ absurd (either (zero_or_one r status v.0) (λ a. omega (arith, a, four)) (λ a. omega (arith, a, four))) ]
names_last (Err s) status last out err named w four =
    let told = w.1 in
    let read = four_is_read told.0 (sym told.2 ∙ four) in
    elim told.1 [
      | inl same ↦ last_line last read.0 err (subst (NamesLast last) (sym same ∙ read.1) named) (subst (λ (x : Stop). Said (line_of x) err) read.1 told.3)
      | inr none ↦ (let seven : status ≡ 7 = told.2 ∙ ap status_of none in absurd (omega (arith, seven, four)))
    ]

module _ (Does : Told → Result Report Stop → Type 0) (Accepts : Told → Type 0) (usage : List ℕ) (status : ℕ) (files : FilesOver) (out err : SinkOver) where
  abbrev Is : Type 0
  Is = Ends Does Accepts usage status files out err

  abbrev Completes : Told → Type 0
  Completes t = Accepts t → Faultless files.faults_before files.faults_now → Faultless out.faults_before out.faults_now → (status ≡ 7) ⊎ ((status ≡ 0) ⊎ (status ≡ 1))

  abbrev IsStopped : Type 0
  IsStopped = (status ≡ 3) ⊎ ((status ≡ 4) ⊎ ((status ≡ 5) ⊎ (status ≡ 8)))

  abbrev IsRefused : Type 0
  IsRefused = (status ≡ 3) ⊎ ((status ≡ 5) ⊎ (status ≡ 8))

  -- ---- a report

  module _ (r : Report) (w : WritesReport r status out err) where
    report_status : (status ≡ 6) ⊎ ((status ≡ 0) ⊎ (status ≡ 1))
    report_status = elim w.written [ inl six ↦ inl six | inr v ↦ inr (zero_or_one r status v.0) ]

    report_wrote : (t : Told) → Does t (Ok r) → (status ≡ 0) ⊎ (status ≡ 1) → Wrote (Does t) status out
    report_wrote t d e = elim w.written [ inl six ↦ not_zero_or_one status (omega (arith, six)) e | inr v ↦ (r, d, v.0, v.1) ]

    report_nothing : status ≢ 0 → status ≢ 1 → status ≢ 6 → out.now ≡ out.before
    report_nothing zero one six = elim report_status [ inl is ↦ absurd (six is) | inr v ↦ elim v [ inl is ↦ absurd (zero is) | inr is ↦ absurd (one is) ] ]

    report_is : {P : Type 0} (k : ℕ) → (k ≡ 6 → ⊥) → 2 ≤ k → status ≡ k → P
    report_is k other high e = none_other status k report_status e other high

    report_refused : {P : Type 0} → IsRefused → P
    report_refused (inl three) = report_is 3 (λ e. omega (arith, e)) (omega arith) three
    report_refused (inr (inl five)) = report_is 5 (λ e. omega (arith, e)) (omega arith) five
    report_refused (inr (inr eight)) = report_is 8 (λ e. omega (arith, e)) (omega arith) eight

    report_stopped : {P : Type 0} → IsStopped → P
    report_stopped (inl three) = report_is 3 (λ e. omega (arith, e)) (omega arith) three
    report_stopped (inr (inl four)) = report_is 4 (λ e. omega (arith, e)) (omega arith) four
    report_stopped (inr (inr (inl five))) = report_is 5 (λ e. omega (arith, e)) (omega arith) five
    report_stopped (inr (inr (inr eight))) = report_is 8 (λ e. omega (arith, e)) (omega arith) eight

    report_most : status ≤ 8
    report_most = elim report_status [ inl is ↦ omega (arith, is) | inr v ↦ elim v [ inl is ↦ omega (arith, is) | inr is ↦ omega (arith, is) ] ]

    report_complete : (t : Told) → Completes t
    report_complete t a none quiet = elim report_status [ inl six ↦ absurd (quiet (w.cause six)) | inr v ↦ inr v ]

    report_quiet : (status ≡ 0) ⊎ (status ≡ 1) → err.now ≡ err.before
    report_quiet e = elim w.quiet [ inl six ↦ not_zero_or_one status (omega (arith, six)) e | inr same ↦ same ]

    report_ends : IfSome files.told (λ t. Does t (Ok r)) → Is
    report_ends d = record {
      written = then_told files.told report_wrote d;
      part = then_told files.told (λ t does six. (r, does, w.part six)) d;
      nothing = report_nothing;
      stopped = all_told files.told (λ t. report_stopped);
      files_failed = report_is 4 (λ e. omega (arith, e)) (omega arith);
      output_failed = w.cause;
      statuses = report_most;
      complete = all_told files.told report_complete;
      quiet = report_quiet;
      usage_line = report_is 2 (λ e. omega (arith, e)) (omega arith);
      cannot_read_line = report_is 4 (λ e. omega (arith, e)) (omega arith);
      cannot_write_line = w.line;
      no_memory_line = report_is 7 (λ e. omega (arith, e)) (omega arith);
      line = report_refused;
    }

  -- ---- a stop

  module _ (s : Stop) (rose : FaultRose files.faults_before files.faults_now s) (w : Tells s status err) where
    high : 3 ≤ status
    high = let most = (stop_status w.0).0 in let is = w.2 in omega (arith, most, is)

    stop_no_report : {P : Type 0} → (status ≡ 0) ⊎ (status ≡ 1) → P
    stop_no_report e = let least = high in not_zero_or_one status (omega (arith, least)) e

    stop_no_part : {P : Type 0} → status ≡ 6 → P
    stop_no_part six = absurd (not_six w.0 (sym w.2 ∙ six))

    stop_told : (t : Told) → Does t (Err s) → IsStopped → StoppedWith (Does t) status err
    stop_told t d e = elim w.1 [
      | inl same ↦ (s, d, w.2 ∙ ap status_of same, subst (λ (x : Stop). Said (line_of x) err) same w.3)
      | inr none ↦ (let seven : status ≡ 7 = w.2 ∙ ap status_of none in not_at_seven seven e)
    ] where
      not_at_seven : {P : Type 0} → status ≡ 7 → IsStopped → P
      not_at_seven seven (inl three) = absurd (omega (arith, seven, three))
      not_at_seven seven (inr (inl four)) = absurd (omega (arith, seven, four))
      not_at_seven seven (inr (inr (inl five))) = absurd (omega (arith, seven, five))
      not_at_seven seven (inr (inr (inr eight))) = absurd (omega (arith, seven, eight))

    stop_failed : status ≡ 4 → Rose files.faults_before files.faults_now
    stop_failed four =
        let read = four_is_read w.0 (sym w.2 ∙ four) in
        elim w.1 [
          | inl same ↦ subst (λ (x : Stop). FaultRose files.faults_before files.faults_now x) (sym same ∙ read.1) rose
          | inr none ↦ (let seven : status ≡ 7 = w.2 ∙ ap status_of none in absurd (omega (arith, seven, four)))
        ]

    stop_read : status ≡ 4 → (path : List ℕ) × Said (cannot_read_line path) err
    stop_read four =
        let read = four_is_read w.0 (sym w.2 ∙ four) in
        (read.0, subst (λ (x : Stop). Said (line_of x) err) read.1 w.3)

    stop_memory : status ≡ 7 → Said no_memory_text err
    stop_memory seven = subst (λ (x : List ℕ). Said x err) (seven_is_memory w.0 (sym w.2 ∙ seven)) w.3

    stop_most : status ≤ 8
    stop_most = let most = (stop_status w.0).1 in let is = w.2 in omega (arith, most, is)

    stop_complete : ((t : Told) → Accepts t → Does t (Err s) → MayAlwaysStop s) → (t : Told) → Does t (Err s) → Completes t
    stop_complete may t d a none quiet = inl (elim w.1 [
      | inl same ↦ w.2 ∙ (ap status_of same ∙ ends_at_seven s files.faults_before files.faults_now (may t a d) rose none)
      | inr memory ↦ w.2 ∙ ap status_of memory
    ])

    stop_ends : ((t : Told) → Accepts t → Does t (Err s) → MayAlwaysStop s) → out.now ≡ out.before → IfSome files.told (λ t. Does t (Err s)) → Is
    stop_ends may same d = record {
      written = all_told files.told (λ t. stop_no_report);
      part = all_told files.told (λ t. stop_no_part);
      nothing = λ zero one six. same;
      stopped = then_told files.told stop_told d;
      files_failed = stop_failed;
      output_failed = stop_no_part;
      statuses = stop_most;
      complete = then_told files.told (stop_complete may) d;
      quiet = stop_no_report;
      usage_line = (λ two. let least = high in absurd (omega (arith, two, least)));
      cannot_read_line = stop_read;
      cannot_write_line = stop_no_part;
      no_memory_line = stop_memory;
      line = λ e. (w.0, w.2, w.3);
    }

  -- ---- the whole: what is done, and finished, is a run of its job

  pub ends : (done : Result Report Stop) → IfSome files.told (λ t. Does t done) → HasCause files.faults_before files.faults_now done → ((t : Told) (s : Stop) → Accepts t → Does t (Err s) → MayAlwaysStop s) → Finishes done status out err → Ends Does Accepts usage status files out err
  ends (Ok r) d cause may w = report_ends r w d
  ends (Err s) d cause may w = stop_ends s cause.fault w.1 (λ t. may t s) w.0 d

  -- ---- words outside the usage, and words for which there was no memory

  pub refused_ends : status ≡ 2 → Said usage err → out.now ≡ out.before → ((t : Told) → Accepts t → ⊥) → Ends Does Accepts usage status files out err
  refused_ends is said same none = record {
    written = all_told files.told (λ t e. absurd (either e (λ a. omega (arith, is, a)) (λ a. omega (arith, is, a))));
    part = all_told files.told (λ t e. absurd (omega (arith, is, e)));
    nothing = λ zero one six. same;
    stopped = all_told files.told (λ t e. absurd (either e (λ a. omega (arith, is, a)) (λ b. either b (λ a. omega (arith, is, a)) (λ d. either d (λ a. omega (arith, is, a)) (λ a. omega (arith, is, a))))));
    files_failed = λ e. absurd (omega (arith, is, e));
    output_failed = λ e. absurd (omega (arith, is, e));
    statuses = omega (arith, is);
    complete = all_told files.told (λ t a. absurd (none t a));
    quiet = λ e. absurd (either e (λ a. omega (arith, is, a)) (λ a. omega (arith, is, a)));
    usage_line = λ e. said;
    cannot_read_line = λ e. absurd (omega (arith, is, e));
    cannot_write_line = λ e. absurd (omega (arith, is, e));
    no_memory_line = λ e. absurd (omega (arith, is, e));
    line = λ e. absurd (either e (λ a. omega (arith, is, a)) (λ b. either b (λ a. omega (arith, is, a)) (λ a. omega (arith, is, a))));
  }

  pub memory_ends : status ≡ 7 → Said no_memory_text err → out.now ≡ out.before → Ends Does Accepts usage status files out err
  memory_ends is said same = record {
    written = all_told files.told (λ t e. absurd (either e (λ a. omega (arith, is, a)) (λ a. omega (arith, is, a))));
    part = all_told files.told (λ t e. absurd (omega (arith, is, e)));
    nothing = λ zero one six. same;
    stopped = all_told files.told (λ t e. absurd (either e (λ a. omega (arith, is, a)) (λ b. either b (λ a. omega (arith, is, a)) (λ d. either d (λ a. omega (arith, is, a)) (λ a. omega (arith, is, a))))));
    files_failed = λ e. absurd (omega (arith, is, e));
    output_failed = λ e. absurd (omega (arith, is, e));
    statuses = omega (arith, is);
    complete = all_told files.told (λ t a none quiet. inl is);
    quiet = λ e. absurd (either e (λ a. omega (arith, is, a)) (λ a. omega (arith, is, a)));
    usage_line = λ e. absurd (omega (arith, is, e));
    cannot_read_line = λ e. absurd (omega (arith, is, e));
    cannot_write_line = λ e. absurd (omega (arith, is, e));
    no_memory_line = λ e. said;
    line = λ e. absurd (either e (λ a. omega (arith, is, a)) (λ b. either b (λ a. omega (arith, is, a)) (λ a. omega (arith, is, a))));
  }
