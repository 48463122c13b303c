-- The groups of a report at the ingresses of two networks, and what is said of each.
use Rattle.std.specs.Prelude.{ℕ, ◌≡◌, ◌+◌, suc, Bool, ◌&&◌, List, [], ◌∷◌, ◌++◌, map, take, codes, if◌then◌else◌}
use Rattle.std.specs.List.{AllZip}
use Rattle.std.specs.Str.{bytes_eq}
use Rattle.hdr_bits.specs.declared.header.Header.{Header}
use Rattle.net_types.specs.declared.network.Names.{Names}
use Rattle.net_types.specs.declared.network.Place.{Place}
use Rattle.net_types.specs.declared.network.Section.{Section}
use Rattle.net_types.specs.World.{World}
use Rattle.report_text.specs.FieldText.{header_text}
use Rattle.report_text.specs.ReportText.{label_text, place_text}
use Rattle.report_groups.specs.declared.types.Entry.{Entry}
use Rattle.report_groups.specs.Entries.{AreEntries}
use Rattle.report_groups.specs.Least.{least_of}
use Rattle.walk_trace.specs.declared.types.Trace.{Trace}
use Rattle.walk_trace.specs.Traced.{traced}
use Rattle.trace_sides.specs.Sides.{sides_text}
use Rattle.view_core.specs.Groups.{group_text}
use Rattle.view_core.specs.Kinds.{in_order}
use Rattle.why_core.specs.declared.basis.Basis.{Basis}
use Rattle.why_core.specs.declared.cases.CaseRef.{CaseRef}

-- ---- groups

-- a grouping of the rows of each section
abbrev pub AreGroups : List Section → List (List Entry) → Type 0
AreGroups sections groups = AllZip (λ s entries. AreEntries s.rows entries) sections groups

-- a group of a section of the report, with the section's ingress by its numbers in the networks
pub record Case : Type 0 where
  pub section : Section
  pub place : Place
  pub entry : Entry

abbrev pub case_in : CaseRef → Case
case_in c = record { section = c.section.now; place = c.place; entry = c.entry.now }

abbrev pub cases_at : Section → Place → List Entry → List Case
cases_at s p entries = map (λ e. record { section = s; place = p; entry = e }) entries

-- all groups in the order of the report, those of one ingress as a view shows them
abbrev pub cases : List Section → List Place → List (List Entry) → List Case
cases (s ∷ ss) (p ∷ ps) (es ∷ ess) = cases_at s p (in_order es) ++ cases ss ps ess
cases (s ∷ ss) (p ∷ ps) [] = []
cases (s ∷ ss) [] ess = []
cases [] ps ess = []

-- the groups that are explained: all, or the first hundred
abbrev pub explained : {A : Type 0} → Bool → List A → List A
explained all cs = if all then cs else take 100 cs

-- ---- what stands behind an explanation

-- the names of the report's places, those of the networks, and the networks
pub record Ground : Type 0 where
  pub report : Names
  pub names : Names
  pub old : World
  pub new : World

abbrev pub ground_of : Basis → Ground
ground_of b = record { report = b.report.now; names = b.names.now; old = b.before; new = b.after }

-- packets enter with the greatest TTL (RFC 791, 3.1), as in a comparison whose words name none
abbrev pub first_ttl : ℕ
first_ttl = 255

-- the traces of the group's least header in both networks
abbrev pub old_trace : Ground → Case → Trace
old_trace g c = traced g.old first_ttl c.place (least_of c.entry.group)

abbrev pub new_trace : Ground → Case → Trace
new_trace g c = traced g.new first_ttl c.place (least_of c.entry.group)

-- ---- whether the report is of these networks

-- how many sections, from the first on, are those of the networks' ingresses: in their order, by their names
abbrev pub agreeing : Names → Names → List Section → List Place → ℕ
agreeing report names (s ∷ ss) (p ∷ ps) =
    if bytes_eq (place_text report s.place) (place_text names p) then suc (agreeing report names ss ps) else 0
agreeing report names (s ∷ ss) [] = 0
agreeing report names [] ps = 0

-- the outcomes that the report says are those of the traces
abbrev pub has_outcomes : Names → Names → Entry → Trace → Trace → Bool
has_outcomes report names e old new =
    bytes_eq (label_text report e.group.old) (label_text names old.outcome) && bytes_eq (label_text report e.group.new) (label_text names new.outcome)

-- what the report says of the group is what both networks do with its least header
abbrev pub is_right : Ground → Case → Bool
is_right g c = has_outcomes g.report g.names c.entry (old_trace g c) (new_trace g c)

-- ---- what is said

-- the header, and its traces in both networks
unfoldable pub packet_text : Names → Header → Trace → Trace → List ℕ
packet_text names h old new = codes "packet " ++ header_text h ++ codes "\n" ++ sides_text names old new

-- the ingress and the group's line, and that
unfoldable pub told_text : Names → Names → Case → Header → Trace → Trace → List ℕ
told_text report names c h old new =
    codes "ingress " ++ place_text report c.section.place ++ codes ": " ++ group_text report c.entry
    ++ packet_text names h old new ++ codes "\n"
