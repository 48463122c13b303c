-- Edits that are made one after the other, what is written of them, and why one is refused.
use Rattle.std.specs.Prelude.{ℕ, ◌≡◌, Bool, List, [], ◌∷◌, ◌++◌, length, map, nat_lt, codes, decimal, Result, Ok, Err}
use Rattle.std.specs.List.{flat_map, list_any}
use Rattle.net_types.specs.declared.network.Names.{Names}
use Rattle.net_types.specs.declared.network.Network.{Network}
use Rattle.net_types.specs.declared.network.Section.{Section}
use Rattle.net_types.specs.World.{World}
use Rattle.net_types.specs.Report.{IsReport}
use Rattle.report_text.specs.ReportText.{report_text, row_count}
use Rattle.incr_review.specs.declared.edits.Edit.{Edit}
use Rattle.incr_review.specs.declared.edits.Edit.TheVariants as edit
use Rattle.incr_review.specs.declared.edits.EditKind.{EditKind}
use Rattle.incr_review.specs.declared.edits.EditKind.TheVariants as kind
use Rattle.incr_review.specs.Edited.{edited}
use Rattle.edit_lines.specs.declared.reading.EditLine.{EditLine}
use Rattle.edit_lines.specs.declared.refusal.EditsFail.{EditsFail}
use Rattle.edit_lines.specs.declared.refusal.EditsFail.TheVariants as fail
use Rattle.edit_lines.specs.Refusals.{◌>>=◌}
use Rattle.job_core.specs.declared.report.Report.{Report}

-- ---- refusals

-- the sequence of an entry that is added or dropped
abbrev pub sequence_text : Edit → List ℕ
sequence_text (edit.AddEntry device list entry) = decimal entry.sequence
sequence_text (edit.DropEntry device list sequence) = decimal sequence
sequence_text _ = []

-- the word of a refused edit: the sequence that is taken or missing, as a number; else none
abbrev pub word_of : EditKind → Edit → List ℕ
word_of kind.SequenceTaken e = sequence_text e
word_of kind.NoSuchEntry e = sequence_text e
word_of _ e = []

abbrev pub at_line : EditLine → Result Network EditKind → Result Network EditsFail
at_line l (Ok network) = Ok network
at_line l (Err k) = Err (fail.Refused k l.line (word_of k l.edit))

-- the network after an edit, or its refusal at its line
abbrev pub edit_at : Network → EditLine → Result Network EditsFail
edit_at network l = at_line l (edited l.edit network)

-- the network after all edits, or the refusal of the first that is refused
abbrev pub network_after : Network → List EditLine → Result Network EditsFail
network_after network [] = Ok network
network_after network (l ∷ ls) = edit_at network l >>= λ after. network_after after ls

-- ---- edits that are made

-- packets enter with the greatest TTL, since no word names one (RFC 791, 3.1)
abbrev pub first_ttl : ℕ
first_ttl = 255

-- the report on the old world and the one with this network and the same links
abbrev pub IsReportOn : World → Network → List Section → Type 0
IsReportOn old network sections = IsReport old.links.ingress old (record { network = network; links = old.links }) first_ttl sections

-- how many rows it has
pub record HasRows (old : World) (network : Network) (count : ℕ) : Type 0 where
  pub sections : List Section
  pub report : IsReportOn old network sections
  pub count_is : count ≡ row_count sections

-- an edit with the network after it, and how many rows its report has
pub record Done : Type 0 where
  pub of : EditLine
  pub after : Network
  pub count : ℕ

-- one after the other, each in the network after the one before it
abbrev pub AreDone : World → Network → List Done → Type 0
AreDone old network [] = Unit {0}
AreDone old network (d ∷ ds) = (edited d.of.edit network ≡ Ok d.after) × HasRows old d.after d.count × AreDone old d.after ds

abbrev pub last_after : Network → List Done → Network
last_after network [] = network
last_after network (d ∷ ds) = last_after d.after ds

-- ---- what is written

-- `line N affected M`
unfoldable pub count_text : ℕ → ℕ → List ℕ
count_text line count = codes "line " ++ decimal line ++ codes " affected " ++ decimal count ++ codes "\n"

abbrev pub done_text : Done → List ℕ
done_text d = count_text d.of.line d.count

-- the edits of these lines, made, with the network after them and what is written of them behind an old text
pub record Makes (old : World) (before : Network) (lines : List EditLine) (after : Network) (was now : List ℕ) : Type 0 where
  pub done : List Done
  pub every : map (λ d. d.of) done ≡ lines
  pub right : AreDone old before done
  pub last : after ≡ last_after before done
  pub text : now ≡ was ++ flat_map done_text done

abbrev pub has_rows : Section → Bool
has_rows s = nat_lt 0 (length s.rows)

-- a line for each edit, and then the report on the network after all of them; and whether that has a row
pub record IsReview (names : Names) (old : World) (lines : List EditLine) (r : Report) : Type 0 where
  pub done : List Done
  pub every : map (λ d. d.of) done ≡ lines
  pub right : AreDone old old.network done
  pub sections : List Section
  pub report : IsReportOn old (last_after old.network done) sections
  pub text : r.text.items ≡ flat_map done_text done ++ report_text names sections
  pub affected : r.affected ≡ list_any has_rows sections

-- behind an old text the report on this network, and whether it has a row
pub record IsReported (names : Names) (old : World) (network : Network) (was : List ℕ) (r : Report) : Type 0 where
  pub sections : List Section
  pub report : IsReportOn old network sections
  pub text : r.text.items ≡ was ++ report_text names sections
  pub affected : r.affected ≡ list_any has_rows sections
