-- What the words of the command line ask.
use Rattle.std.specs.Prelude.{ℕ, Bool, true, false, List, [], ◌∷◌, Option, Some, None, codes, option_map, if◌then◌else◌}
use Rattle.std.specs.List.{list_all}
use Rattle.std.specs.Str.{bytes_eq}
use Rattle.hdr_bits.specs.declared.header.Header.{Header}
use Rattle.review_args.specs.Numbers.{header_of}
use Rattle.view_words.specs.Usage.{is_operand}
use Rattle.view_core.specs.declared.words.Format.{Format}
use Rattle.view_core.specs.Words.{format_of, behind_format}
use Rattle.why_core.specs.declared.words.Manner.{Manner}
use Rattle.why_core.specs.declared.words.WhyWords.{WhyWords}
use Rattle.why_core.specs.declared.words.TracesWords.{TracesWords}

-- two networks and a report on them, and in which manner it is explained
pub record Why : Type 0 where
  pub old : List ℕ
  pub new : List ℕ
  pub links : List ℕ
  pub report : List ℕ
  pub manner : Manner

abbrev pub why_in : WhyWords → Why
why_in w = record { old = w.old.now; new = w.new.now; links = w.links.now; report = w.report.now; manner = w.manner }

-- OLD NEW LINKS REPORT
abbrev pub why_over : Manner → List (List ℕ) → Option Why
why_over manner (old ∷ new ∷ links ∷ report ∷ []) =
    if list_all is_operand (old ∷ new ∷ links ∷ report ∷ [])
    then Some (record { old = old; new = new; links = links; report = report; manner = manner }) else None
why_over manner _ = None

-- the same behind a format
abbrev pub why_with : Bool → List (List ℕ) → Option Why
why_with all words = why_over (record { all = all; format = format_of words }) (behind_format words)

-- `--why [--json] OLD NEW LINKS REPORT` and `--why-all [--json] OLD NEW LINKS REPORT`
abbrev pub why_of : List (List ℕ) → Option Why
why_of [] = None
why_of (word ∷ words) =
    if bytes_eq word (codes "--why") then why_with false words
    else (if bytes_eq word (codes "--why-all") then why_with true words else None)

-- two networks, a packet by its header and the place where it enters, and in which format its traces are shown
pub record Traces : Type 0 where
  pub old : List ℕ
  pub new : List ℕ
  pub links : List ℕ
  pub device : List ℕ
  pub interface : List ℕ
  pub header : Header
  pub format : Format

abbrev pub traces_in : TracesWords → Traces
traces_in w =
    record { old = w.old.now; new = w.new.now; links = w.links.now; device = w.device.now; interface = w.interface.now; header = w.header; format = w.format }

-- OLD NEW LINKS DEVICE INTERFACE HEADER
abbrev pub traces_over : Format → List (List ℕ) → Option Traces
traces_over f (old ∷ new ∷ links ∷ device ∷ interface ∷ header ∷ []) =
    if list_all is_operand (old ∷ new ∷ links ∷ device ∷ interface ∷ [])
    then option_map (λ h. record { old = old; new = new; links = links; device = device; interface = interface; header = h; format = f }) (header_of header)
    else None
traces_over f _ = None

-- the same behind a format
abbrev pub traces_with : List (List ℕ) → Option Traces
traces_with words = traces_over (format_of words) (behind_format words)

-- `--traces [--json] OLD NEW LINKS DEVICE INTERFACE HEADER`
abbrev pub traces_of : List (List ℕ) → Option Traces
traces_of [] = None
traces_of (word ∷ words) = if bytes_eq word (codes "--traces") then traces_with words else None
