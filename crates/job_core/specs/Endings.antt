-- What a run of a program leaves behind, whatever its job is.
use Rattle.std.specs.Prelude.{◌≡◌, ◌≢◌, ◌⊎◌, ℕ, ◌≤◌, List, ◌++◌, Option, Result, Ok, Err, IfSome, option_map, if◌then◌else◌}
use Rattle.net_io.specs.Faults.{Rose, Faultless}
use Rattle.net_io.specs.Files.{Told}
use Rattle.net_io.specs.Sink.{TookPrefix}
use Rattle.job_core.specs.declared.report.Report.{Report}
use Rattle.job_core.specs.declared.stop.Stop.{Stop}
use Rattle.job_core.specs.declared.stop.Stop.TheVariants as stop
use Rattle.job_core.specs.Lines.{cannot_write_text, no_memory_text}
use Rattle.job_core.specs.Stops.{status_of, line_of, cannot_read_line}

-- the files of a run: what they tell, where they do, and their faults before it and after it
pub record FilesOver : Type 0 where
  pub told : Option Told
  pub faults_before : ℕ
  pub faults_now : ℕ

-- an output of a run: what it took, where it tells that, and its faults, before it and after it
pub record SinkOver : Type 0 where
  pub before : Option (List ℕ)
  pub now : Option (List ℕ)
  pub faults_before : ℕ
  pub faults_now : ℕ

-- ---- what the outputs took

abbrev pub status_of_report : Report → ℕ
status_of_report r = if r.affected then 1 else 0

-- the output took the whole report of the job, behind what it took before, and the status says whether there is something to
-- look at
abbrev pub Wrote : (Result Report Stop → Type 0) → ℕ → SinkOver → Type 0
Wrote Does status out =
    (r : Report) × Does (Ok r) × (status ≡ status_of_report r) × (out.now ≡ option_map (λ taken. taken ++ r.text.items) out.before)

-- the output took a prefix of the report
abbrev pub WrotePart : (Result Report Stop → Type 0) → SinkOver → Type 0
WrotePart Does out = (r : Report) × Does (Ok r) × TookPrefix out.before r.text.items out.now

-- a line on the error output, whole where that didn't fail
pub record Said (line : List ℕ) (err : SinkOver) : Type 0 where
  pub taken : Faultless err.faults_before err.faults_now → err.now ≡ option_map (λ taken. taken ++ line) err.before

-- why there is no report, or that there was no memory to say it
abbrev pub Tells : Stop → ℕ → SinkOver → Type 0
Tells s status err = (told : Stop) × ((told ≡ s) ⊎ (told ≡ stop.NoMemory)) × (status ≡ status_of told) × Said (line_of told) err

-- the first cause of the job, with its line
abbrev pub StoppedWith : (Result Report Stop → Type 0) → ℕ → SinkOver → Type 0
StoppedWith Does status err = (s : Stop) × Does (Err s) × (status ≡ status_of s) × Said (line_of s) err

-- ---- the clauses of a run

-- A job is what is done over what the files tell, with a report or a stop; it is accepted where nothing of it is refused, too
-- long or absent. Where the words are outside the usage no report and no stop are the job's, and nothing is accepted.
pub record Ends (Does : Told → Result Report Stop → Type 0) (Accepts : Told → Type 0) (usage : List ℕ) (status : ℕ) (files : FilesOver) (out err : SinkOver) : Type 0 where
  -- Statuses 0 and 1 come with exactly the report of the job, 1 exactly where it has something to look at.
  pub written : IfSome files.told (λ t. (status ≡ 0) ⊎ (status ≡ 1) → Wrote (Does t) status out)
  -- At 6 a prefix of it was taken, and at all others nothing.
  pub part : IfSome files.told (λ t. status ≡ 6 → WrotePart (Does t) out)
  pub nothing : status ≢ 0 → status ≢ 1 → status ≢ 6 → out.now ≡ out.before
  -- Statuses 3, 4, 5 and 8 come by the first cause of the job, with its line; at 4 its path is one that the job reads.
  pub stopped : IfSome files.told (λ t. (status ≡ 3) ⊎ ((status ≡ 4) ⊎ ((status ≡ 5) ⊎ (status ≡ 8))) → StoppedWith (Does t) status err)
  -- Faults are blamed only where they were counted.
  pub files_failed : status ≡ 4 → Rose files.faults_before files.faults_now
  pub output_failed : status ≡ 6 → Rose out.faults_before out.faults_now
  pub statuses : status ≤ 8
  -- A job of which nothing is refused, too long or absent gives its report, where no fault was counted, but for want of memory.
  pub complete : IfSome files.told (λ t. Accepts t → Faultless files.faults_before files.faults_now → Faultless out.faults_before out.faults_now
      → (status ≡ 7) ⊎ ((status ≡ 0) ⊎ (status ≡ 1)))
  -- The error output takes nothing at 0 and 1, and the line of the status at each other, where it doesn't fail.
  pub quiet : (status ≡ 0) ⊎ (status ≡ 1) → err.now ≡ err.before
  pub usage_line : status ≡ 2 → Said usage err
  pub cannot_read_line : status ≡ 4 → (path : List ℕ) × Said (cannot_read_line path) err
  pub cannot_write_line : status ≡ 6 → Said cannot_write_text err
  pub no_memory_line : status ≡ 7 → Said no_memory_text err
  -- So it is at 3, 5 and 8 also where the files aren't told.
  pub line : (status ≡ 3) ⊎ ((status ≡ 5) ⊎ (status ≡ 8)) → (s : Stop) × (status ≡ status_of s) × Said (line_of s) err

-- ---- its steps

-- a report was written whole, or the output took no more
pub record WritesReport (r : Report) (status : ℕ) (out err : SinkOver) : Type 0 where
  pub written : (status ≡ 6) ⊎ ((status ≡ status_of_report r) × (out.now ≡ option_map (λ taken. taken ++ r.text.items) out.before))
  pub part : status ≡ 6 → TookPrefix out.before r.text.items out.now
  pub cause : status ≡ 6 → Rose out.faults_before out.faults_now
  pub quiet : (status ≡ 6) ⊎ (err.now ≡ err.before)
  pub line : status ≡ 6 → Said cannot_write_text err

-- what was done is written, or it is told why there is nothing to write
abbrev pub Finishes : Result Report Stop → ℕ → SinkOver → SinkOver → Type 0
Finishes (Ok r) status out err = WritesReport r status out err
Finishes (Err s) status out err = (out.now ≡ out.before) × Tells s status err
