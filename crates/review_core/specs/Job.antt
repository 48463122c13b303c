-- A job: what the words ask, over what the files tell alone.
use Rattle.std.specs.Prelude.{◌≡◌, ℕ, ◌≤◌, Bool, false, List, [], ◌∷◌, Option, None, Some, Result, Ok, Err, nat_lt, length, map, unwrap_or}
use Rattle.std.specs.List.{list_any}
use Rattle.net_types.specs.declared.config.Loaded.{Loaded}
use Rattle.net_types.specs.declared.network.Names.{Names}
use Rattle.net_types.specs.declared.network.Network.{Network}
use Rattle.net_types.specs.declared.network.Place.{Place}
use Rattle.net_types.specs.declared.network.Section.{Section}
use Rattle.net_types.specs.declared.question.Answer.{Answer}
use Rattle.net_types.specs.declared.question.Question.{Question}
use Rattle.net_types.specs.Questions.{AreAnswers}
use Rattle.net_types.specs.Report.{IsReport}
use Rattle.net_types.specs.World.{World}
use Rattle.net_io.specs.Limits.{file_limit}
use Rattle.net_io.specs.Files.{Told, content}
use Rattle.topo_links.specs.declared.table.LinkTable.{LinkTable}
use Rattle.topo_links.specs.Table.{table_names}
use Rattle.net_load.specs.declared.numbering.Numbered.{Numbered}
use Rattle.net_load.specs.declared.numbering.NumberedBoth.{NumberedBoth}
use Rattle.net_load.specs.Numbering.{numbered_of, numbered_both, place_of}
use Rattle.net_compare.specs.Networks.{world}
use Rattle.net_gen.specs.Networks.{networks}
use Rattle.report_text.specs.ReportText.{report_text, summary_text}
use Rattle.report_text.specs.Readings.{readings_text}
use Rattle.walk_trace.specs.Traced.{traced}
use Rattle.walk_trace.specs.TraceText.{trace_text}
use Rattle.ask_query.specs.declared.refusal.QuestionRefusal.{QuestionRefusal}
use Rattle.ask_query.specs.declared.refusal.QuestionFail.TheVariants as fail
use Rattle.result_text.specs.AnswerText.{answers_text, failed_count}
use Rattle.ask_query.specs.Reading.{questions_of, said}
use Rattle.ask_query.specs.Refusals.{refusal_text}
use Rattle.job_core.specs.declared.report.Report.{Report}
use Rattle.job_core.specs.declared.table.Wires.TheVariants as wires
use Rattle.job_core.specs.declared.stop.Stop.{Stop}
use Rattle.job_core.specs.declared.stop.Stop.TheVariants as stop
use Rattle.job_core.specs.Steps.{Then, OrNoMemory, GivesBytes, GivesTable}
use Rattle.job_inputs.specs.Folders.{GivesFolder}
use Rattle.review_args.specs.declared.request.Asking.{Asking}
use Rattle.review_args.specs.declared.request.Comparison.{Comparison}
use Rattle.review_args.specs.declared.request.Job.{Job}
use Rattle.review_args.specs.declared.request.Job.TheVariants as job
use Rattle.review_args.specs.declared.request.Packet.{Packet}
use Rattle.review_args.specs.declared.request.Tracing.{Tracing}
use Rattle.review_args.specs.Requests.{job_of}
use Rattle.review_core.specs.declared.tables.Tables.{Tables}

-- ---- `compare OLD NEW LINKS [NEWLINKS]`

abbrev pub has_rows : Section → Bool
has_rows s = nat_lt 0 (length s.rows)

-- the text of the report on two worlds, and whether it has a row
pub record IsReportOn (names : Names) (ingress : List Place) (old new : World) (ttl : ℕ) (r : Report) : Type 0 where
  pub sections : List Section
  pub report : IsReport ingress old new ttl sections
  pub text : r.text.items ≡ report_text names sections
  pub affected : r.affected ≡ list_any has_rows sections

-- each network is wired by its table, and both are walked from the ingresses of either
abbrev pub IsComparison : NumberedBoth → ℕ → Report → Type 0
IsComparison n ttl = IsReportOn n.names n.ingress (world n.old n.old_links) (world n.new n.new_links) ttl

-- the table that wires the new network: its own, or the old one's
abbrev pub new_table : Tables → LinkTable
new_table ts = unwrap_or ts.new ts.old

-- the names in them are no more than bytes may be in a file
pub record AreFew (ts : Tables) : Type 0 where
  pub old : length (table_names ts.old) ≤ file_limit
  pub new : length (table_names (new_table ts)) ≤ file_limit

-- the tables of the old network and of the new one
abbrev pub AreTables : LinkTable → LinkTable → Result Tables Stop → Type 0
AreTables old new (Ok ts) = (ts.old ≡ old) × (new_table ts ≡ new)
AreTables old new (Err s) = ⊥

-- the new network's own table beside the old one's
abbrev pub GivesNewTable : Told → List Loaded → List Loaded → LinkTable → List ℕ → Result Tables Stop → Type 0
GivesNewTable t old new table new_links =
    Then (GivesTable t new_links wires.First new old) (λ other. AreTables table other)

-- one table wires both networks, or each has its own, the old one's first
abbrev pub GivesTables : Told → List Loaded → List Loaded → List ℕ → Option (List ℕ) → Result Tables Stop → Type 0
GivesTables t old new links None = Then (GivesTable t links wires.Both old new) (λ table. AreTables table table)
GivesTables t old new links (Some new_links) =
    Then (GivesTable t links wires.First old new) (λ table. GivesNewTable t old new table new_links)

-- the old folder, then the new one, then the link tables, and the report
abbrev pub ComparesOver : Told → List Loaded → List Loaded → Comparison → Result Report Stop → Type 0
ComparesOver t old new c =
    Then (GivesTables t old new c.links c.new_links) (λ ts. OrNoMemory (IsComparison (numbered_both old new ts.old (new_table ts) []) c.ttl))

abbrev pub ComparesWith : Told → List Loaded → Comparison → Result Report Stop → Type 0
ComparesWith t old c = Then (GivesFolder (λ devices. devices) t c.new) (λ devices. ComparesOver t old devices c)

abbrev pub Compares : Told → Comparison → Result Report Stop → Type 0
Compares t c = Then (GivesFolder (λ devices. devices) t c.old) (λ devices. ComparesWith t devices c)

-- ---- `ask NET LINKS QUESTIONS`

abbrev pub asked_network : List Loaded → LinkTable → Numbered
asked_network devices table = numbered_of devices [] table []

-- the text of the answers to these questions, and whether one fails
pub record IsAnswering (n : Numbered) (questions : List Question) (ttl : ℕ) (r : Report) : Type 0 where
  pub answers : List Answer
  pub right : AreAnswers (world n.old n.links) ttl questions answers
  pub text : r.text.items ≡ answers_text answers
  pub affected : r.affected ≡ nat_lt 0 (failed_count answers)

-- why a text is refused as questions on a network
abbrev pub QuestionsFail : List ℕ → Network → List ℕ → Stop → Type 0
QuestionsFail path net bytes (stop.Refused p n k word) =
    (p ≡ path) × (kind : QuestionRefusal) × (k ≡ refusal_text kind) × (questions_of net bytes ≡ Err (fail.Refused kind n word))
QuestionsFail path net bytes stop.NoMemory = Unit {0}
QuestionsFail path net bytes _ = ⊥

-- the answers to the questions that a text asks, or why there are none
abbrev pub AsksOn : List ℕ → Numbered → ℕ → List ℕ → Result Report Stop → Type 0
AsksOn path n ttl bytes (Ok r) = (questions : List Question) × (questions_of n.old bytes ≡ Ok (map said questions)) × IsAnswering n questions ttl r
AsksOn path n ttl bytes (Err s) = QuestionsFail path n.old bytes s

-- the folder, then the link table, which is judged with the network as both, then the file of questions, and the answers
abbrev pub AsksWith : Told → List Loaded → LinkTable → Asking → Result Report Stop → Type 0
AsksWith t devices table a =
    Then (GivesBytes (λ bytes. bytes) a.questions (content t a.questions)) (λ bytes. AsksOn a.questions (asked_network devices table) a.ttl bytes)

abbrev pub AsksOver : Told → List Loaded → Asking → Result Report Stop → Type 0
AsksOver t devices a = Then (GivesTable t a.links wires.Both devices devices) (λ table. AsksWith t devices table a)

abbrev pub Asks : Told → Asking → Result Report Stop → Type 0
Asks t a = Then (GivesFolder (λ devices. devices) t a.net) (λ devices. AsksOver t devices a)

-- ---- `trace NET LINKS DEVICE INTERFACE HEADER`

-- the network over its names and the two by which the packet's place is named: a place that the network doesn't have is
-- absent, as its names are no device and interface of it
abbrev pub traced_network : List Loaded → LinkTable → Packet → Numbered
traced_network devices table packet = numbered_of devices [] table (packet.device ∷ packet.interface ∷ [])

-- the place where a packet enters
abbrev pub entry : Names → Packet → Place
entry names packet = place_of names.texts (packet.device, packet.interface)

-- the text of the packet's trace, and nothing is affected
pub record IsTraceOn (n : Numbered) (packet : Packet) (ttl : ℕ) (r : Report) : Type 0 where
  pub text : r.text.items ≡ trace_text n.names (traced (world n.old n.links) ttl (entry n.names packet) packet.header)
  pub affected : r.affected ≡ false

abbrev pub IsTrace : List Loaded → LinkTable → Packet → ℕ → Report → Type 0
IsTrace devices table packet ttl = IsTraceOn (traced_network devices table packet) packet ttl

-- the folder, then the link table, which is judged with the network as both, and the trace
abbrev pub TracesOver : Told → List Loaded → Tracing → Result Report Stop → Type 0
TracesOver t devices asked =
    Then (GivesTable t asked.links wires.Both devices devices) (λ table. OrNoMemory (IsTrace devices table asked.packet asked.ttl))

abbrev pub Traces : Told → Tracing → Result Report Stop → Type 0
Traces t asked = Then (GivesFolder (λ devices. devices) t asked.net) (λ devices. TracesOver t devices asked)

-- ---- `read NET`

-- a line for each configuration, and nothing is affected
pub record IsReading (devices : List Loaded) (r : Report) : Type 0 where
  pub text : r.text.items ≡ readings_text devices
  pub affected : r.affected ≡ false

abbrev pub Reads : Told → List ℕ → Result Report Stop → Type 0
Reads t net = Then (GivesFolder (λ devices. devices) t net) (λ devices. OrNoMemory (IsReading devices))

-- ---- `gen NUMBER SIZE`

-- packets enter with the greatest TTL, where the words name none (RFC 791, 3.1)
abbrev pub first_ttl : ℕ
first_ttl = 255

-- the extent of the report on two networks, and whether it has a row
pub record IsSummaryOf (n : Numbered) (r : Report) : Type 0 where
  pub sections : List Section
  pub report : IsReport n.links.ingress (world n.old n.links) (world n.new n.links) first_ttl sections
  pub text : r.text.items ≡ summary_text (length n.old.devices) sections
  pub affected : r.affected ≡ list_any has_rows sections

-- ---- the whole

-- a job, done over what the files tell; or why it isn't
abbrev pub Performs : Option Job → Told → Result Report Stop → Type 0
Performs None t result = ⊥
Performs (Some (job.Compare asked)) t result = Compares t asked result
Performs (Some (job.Ask asked)) t result = Asks t asked result
Performs (Some (job.Trace asked)) t result = Traces t asked result
Performs (Some (job.Read net)) t result = Reads t net result
Performs (Some (job.Gen number size)) t result = OrNoMemory (IsSummaryOf (networks number size)) result

-- *Job*: what the words ask, done
abbrev pub Does : List (List ℕ) → Told → Result Report Stop → Type 0
Does words t result = Performs (job_of words) t result
