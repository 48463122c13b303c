-- Which texts are reports over some names.
use Rattle.std.specs.Prelude.{ℕ, ◌<◌, ◌^◌, ◌≡◌, List, length, Result, Ok, Err, IfSome}
use Rattle.std.specs.List.{AllByRecursion}
use Rattle.std.specs.List.Sorted.{IsStrictlySortedBy}
use Rattle.net_text.specs.Texts.{IsWord}
use Rattle.net_types.specs.Order.{text_cmp, IsLabel}
use Rattle.net_types.specs.declared.label.Outcome.{Outcome}
use Rattle.net_types.specs.declared.label.Outcome.TheVariants.{Dropped, Expired, Local, Exit}
use Rattle.net_types.specs.declared.network.Names.{Names}
use Rattle.net_types.specs.declared.network.Place.{Place}
use Rattle.net_types.specs.declared.network.Row.{Row}
use Rattle.net_types.specs.declared.network.Section.{Section}
use Rattle.report_text.specs.declared.reader.ReportFail.{ReportFail}
use Rattle.report_text.specs.declared.reader.ReportFail.TheVariants.{NotReport, NoMemory}
use Rattle.report_text.specs.ReportText.{report_text}

-- names in the order of their bytes, each once, and each a word
pub record AreNames (texts : List (List ℕ)) : Type 0 where
  pub order : IsStrictlySortedBy text_cmp texts
  pub words : AllByRecursion IsWord texts

-- the number of a name: its position
abbrev pub IsNumber : List (List ℕ) → ℕ → Type 0
IsNumber texts n = (n < length texts) × (n < 2 ^ 32)

-- a device and an interface that have names
abbrev pub IsPlace : List (List ℕ) → Place → Type 0
IsPlace texts p = IsNumber texts p.device × IsNumber texts p.interface

-- an outcome at a place that has names, where each changed field fits its size
abbrev pub IsOutcome : List (List ℕ) → Outcome → Type 0
IsOutcome texts Dropped = Unit {0}
IsOutcome texts Expired = Unit {0}
IsOutcome texts (Local p) = IsPlace texts p
IsOutcome texts (Exit p src dst sport dport) =
    IsPlace texts p × IfSome src (λ a. a < 2 ^ 32) × IfSome dst (λ a. a < 2 ^ 32) × IfSome sport (λ n. n < 2 ^ 16) × IfSome dport (λ n. n < 2 ^ 16)

-- a label: such outcomes in order, each once, at least one
abbrev pub IsLabelOver : List (List ℕ) → List Outcome → Type 0
IsLabelOver texts outcomes = IsLabel outcomes × AllByRecursion (IsOutcome texts) outcomes

-- a cube with two such labels
abbrev pub IsRowOver : List (List ℕ) → Row → Type 0
IsRowOver texts row = IsLabelOver texts row.old × IsLabelOver texts row.new

-- an ingress that has names, with such rows
abbrev pub IsSectionOver : List (List ℕ) → Section → Type 0
IsSectionOver texts s = IsPlace texts s.place × AllByRecursion (IsRowOver texts) s.rows

-- the bytes are the report of these sections, whose places, those in labels too, have names
pub record IsReportOf (names : Names) (sections : List Section) (bytes : List ℕ) : Type 0 where
  pub over : AllByRecursion (IsSectionOver names.texts) sections
  pub text : report_text names sections ≡ bytes

-- what is read are sections whose report the bytes are; `NotReport` says that there are none
abbrev pub ReadsReport : {X : Type 0} → (X → List Section) → Names → List ℕ → Result X ReportFail → Type 0
ReadsReport view names bytes (Ok x) = IsReportOf names (view x) bytes
ReadsReport view names bytes (Err NotReport) = (sections : List Section) → IsReportOf names sections bytes → ⊥
ReadsReport view names bytes (Err NoMemory) = Unit {0}
