-- Reports, and the files that hold them.
use Rattle.std.specs.Prelude.{ℕ, ◌≡◌, ◌<◌, ◌≤◌, List, Option, Some, None, Result, Ok, Err, IsSomeAnd, length}
use Rattle.net_types.specs.declared.network.Names.{Names}
use Rattle.net_types.specs.declared.network.Section.{Section}
use Rattle.report_text.specs.Reports.{AreNames, IsReportOf}
use Rattle.job_core.specs.declared.stop.Stop.{Stop}
use Rattle.job_core.specs.declared.stop.Stop.TheVariants as stop
use Rattle.view_core.specs.Names.{names_of, text_lines}

-- ---- reports

-- the names that a text's own lines have
abbrev pub own_names : List ℕ → Names
own_names bytes = record { texts = names_of bytes }

-- the bytes are a report: over the names that their own lines have, some sections have these bytes as their report
pub record IsReport (bytes : List ℕ) : Type 0 where
  pub names : AreNames (names_of bytes)
  pub sections : List Section
  pub report : IsReportOf (own_names bytes) sections bytes

-- they are none: over these names no sections have these bytes as their report; the line is one of the text, from 1
pub record IsNoReport (bytes : List ℕ) (line : ℕ) : Type 0 where
  pub none : (sections : List Section) → IsReportOf (own_names bytes) sections bytes → ⊥
  pub low : 1 ≤ line
  pub high : line ≤ length (text_lines bytes)

-- ---- files

-- a report has at most 268,435,456 bytes, 2 ^ 28: a million rows have some 150 million
abbrev pub report_limit : ℕ
report_limit = 268435456

-- why there are no bytes of a report within the limit
abbrev pub UnreadReport : List ℕ → Option (List ℕ) → Stop → Type 0
UnreadReport path told (stop.NotFound p) = (p ≡ path) × (told ≡ None)
UnreadReport path told (stop.TooLong p) = (p ≡ path) × IsSomeAnd told (λ b. report_limit < length b)
UnreadReport path told (stop.CannotRead p) = p ≡ path
UnreadReport path told stop.NoMemory = Unit {0}
UnreadReport path told _ = ⊥

-- the bytes of a report within the limit; or why there are none
abbrev pub GivesReport : {T : Type 0} → (T → List ℕ) → List ℕ → Option (List ℕ) → Result T Stop → Type 0
GivesReport view path told (Ok bytes) = (told ≡ Some (view bytes)) × (length (view bytes) ≤ report_limit)
GivesReport view path told (Err s) = UnreadReport path told s
