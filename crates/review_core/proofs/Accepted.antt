-- What may stop a job of which nothing is refused, too long or absent.
use Rattle.std.proofs.Common.{◌≡◌, ℕ, List, [], sym, subst}
use Rattle.std.specs.Prelude.{Option, Some, None, Result, Ok, Err, IfSome}
use Rattle.job_core.specs.declared.report.Report.{Report}
use Rattle.net_types.specs.declared.config.Loaded.{Loaded}
use Rattle.net_io.specs.Files.{Told, content}
use Rattle.topo_links.specs.declared.table.LinkTable.{LinkTable}
use Rattle.net_load.specs.declared.numbering.Numbered.{Numbered}
use Rattle.net_load.specs.Numbering.{numbered_both}
use Rattle.net_gen.specs.Networks.{networks}
use Rattle.ask_query.specs.declared.refusal.QuestionFail.{QuestionFail}
use Rattle.ask_query.specs.declared.refusal.QuestionFail.TheVariants as fail
use Rattle.ask_query.specs.Reading.{Said, questions_of}
use Rattle.job_core.specs.declared.table.Wires.TheVariants as wires
use Rattle.job_core.specs.declared.stop.Stop.{Stop}
use Rattle.job_core.specs.declared.stop.Stop.TheVariants as stop
use Rattle.job_core.specs.Accepted.{AcceptedTable, MayAlwaysStop}
use Rattle.job_core.specs.Steps.{OrNoMemory, GivesBytes, GivesTable}
use Rattle.job_core.proofs.AcceptedLemmas.{then_may_stop, file_may_stop, bytes_are, table_may_stop, table_is, writing_may_stop}
use Rattle.job_inputs.specs.Folders.{GivesFolder, AcceptedFolder}
use Rattle.job_inputs.proofs.FolderLemmas.{folder_may_stop, folder_is}
use Rattle.review_args.specs.declared.request.Asking.{Asking}
use Rattle.review_args.specs.declared.request.Comparison.{Comparison}
use Rattle.review_args.specs.declared.request.Tracing.{Tracing}
use Rattle.review_args.specs.declared.request.Job.{Job}
use Rattle.review_args.specs.declared.request.Job.TheVariants as job
use Rattle.review_args.specs.Requests.{job_of}
use Rattle.review_core.specs.Accepted.{AcceptedTables, AcceptedComparison, AcceptedQuestions, AcceptedAsking, AcceptedTrace, AcceptedJob, IsAccepted}
use Rattle.review_core.specs.Job.{AreTables, GivesNewTable, GivesTables, IsComparison, IsReading, IsSummaryOf, IsTrace, ComparesOver, ComparesWith, Compares, AsksOn, AsksWith, AsksOver, Asks, asked_network, TracesOver, Traces, Reads, Performs, Does, new_table}

ok_err : {A E : Type 0} (o : Result A E) (x : A) (e : E) → o ≡ Ok x → o ≡ Err e → ⊥
ok_err o x e a b = cc

-- ---- questions

questions_may_stop : (path : List ℕ) (n : Numbered) (ttl : ℕ) (bytes : List ℕ) (read : List Said) (s : Stop) → questions_of n.old bytes ≡ Ok read → AsksOn path n ttl bytes (Err s) → MayAlwaysStop s
questions_may_stop path n ttl bytes read stop.NoMemory is h = tt
questions_may_stop path n ttl bytes read (stop.CannotRead p) is h = tt
questions_may_stop path n ttl bytes read (stop.NotFound p) is h = h
questions_may_stop path n ttl bytes read (stop.TooLong p) is h = h
questions_may_stop path n ttl bytes read (stop.TooManyFiles p) is h = h
questions_may_stop path n ttl bytes read (stop.HostnameTaken p q) is h = h
questions_may_stop path n ttl bytes read (stop.Refused p m k w) is (same, kind, named, refused) = ok_err (questions_of n.old bytes) read (fail.Refused kind m w) is refused

-- ---- one step after the other

module _ (t : Told) where
  tables_may_stop : (old new : List Loaded) (links : List ℕ) (new_links : Option (List ℕ)) → AcceptedTables t old new links new_links → (s : Stop) → GivesTables t old new links new_links (Err s) → MayAlwaysStop s
  tables_may_stop old new links None a s h =
      then_may_stop (GivesTable t links wires.Both old new) (λ table. AreTables table table) s (table_may_stop t links wires.Both old new a) (λ table given none. absurd none) h
  tables_may_stop old new links (Some new_links) a s h =
      then_may_stop (GivesTable t links wires.First old new) (λ table. GivesNewTable t old new table new_links) s (table_may_stop t links wires.First old new a.0)
      (λ table given next. then_may_stop (GivesTable t new_links wires.First new old) (λ other. AreTables table other) s (table_may_stop t new_links wires.First new old a.1) (λ other g none. absurd none) next)
      h

  over_may_stop : (old new : List Loaded) (c : Comparison) → AcceptedTables t old new c.links c.new_links → (s : Stop) → ComparesOver t old new c (Err s) → MayAlwaysStop s
  over_may_stop old new c a s h =
      then_may_stop (GivesTables t old new c.links c.new_links) (λ ts. OrNoMemory (IsComparison (numbered_both old new ts.old (new_table ts) []) c.ttl)) s
      (tables_may_stop old new c.links c.new_links a)
      (λ ts given written. writing_may_stop (IsComparison (numbered_both old new ts.old (new_table ts) []) c.ttl) s written)
      h

  comparison_may_stop : (c : Comparison) → AcceptedComparison t c → (s : Stop) → Compares t c (Err s) → MayAlwaysStop s
  comparison_may_stop c a s h =
      then_may_stop (GivesFolder (λ (ds : List Loaded). ds) t c.old) (λ ds. ComparesWith t ds c) s (folder_may_stop t c.old a.before)
      (λ ds given next. with_may_stop (subst (λ (ls : List Loaded). ComparesWith t ls c (Err s)) (folder_is t c.old a.before ds given) next))
      h where
        with_may_stop : ComparesWith t a.before.devices c (Err s) → MayAlwaysStop s
        with_may_stop k =
            then_may_stop (GivesFolder (λ (ds : List Loaded). ds) t c.new) (λ ds. ComparesOver t a.before.devices ds c) s (folder_may_stop t c.new a.after)
            (λ ds given next. over_may_stop a.before.devices a.after.devices c a.tables s (subst (λ (ls : List Loaded). ComparesOver t a.before.devices ls c (Err s)) (folder_is t c.new a.after ds given) next))
            k

  file_asks : (devices : List Loaded) (table : LinkTable) (asked : Asking) → AcceptedQuestions t asked.questions devices table → (s : Stop) → AsksWith t devices table asked (Err s) → MayAlwaysStop s
  file_asks devices table asked a s h =
      then_may_stop (GivesBytes (λ (bs : List ℕ). bs) asked.questions (content t asked.questions)) (λ bytes. AsksOn asked.questions (asked_network devices table) asked.ttl bytes) s
      (file_may_stop t asked.questions a.file)
      (λ bytes given asks. questions_may_stop asked.questions (asked_network devices table) asked.ttl a.file.bytes a.questions s a.read
      (subst (λ (b : List ℕ). AsksOn asked.questions (asked_network devices table) asked.ttl b (Err s)) (bytes_are t asked.questions bytes a.file given.0) asks))
      h

  asking_may_stop : (asked : Asking) → AcceptedAsking t asked → (s : Stop) → Asks t asked (Err s) → MayAlwaysStop s
  asking_may_stop asked a s h =
      then_may_stop (GivesFolder (λ (ds : List Loaded). ds) t asked.net) (λ ds. AsksOver t ds asked) s (folder_may_stop t asked.net a.folder)
      (λ ds given next. over (subst (λ (ls : List Loaded). AsksOver t ls asked (Err s)) (folder_is t asked.net a.folder ds given) next))
      h where
        over : AsksOver t a.folder.devices asked (Err s) → MayAlwaysStop s
        over k =
            let devices = a.folder.devices in
            then_may_stop (GivesTable t asked.links wires.Both devices devices) (λ table. AsksWith t devices table asked) s (table_may_stop t asked.links wires.Both devices devices a.table)
            (λ table given next. file_asks devices a.table.links.table asked a.file s (subst (λ (x : LinkTable). AsksWith t devices x asked (Err s)) (table_is t asked.links wires.Both devices devices a.table table given) next))
            k

  trace_may_stop : (asked : Tracing) → AcceptedTrace t asked → (s : Stop) → Traces t asked (Err s) → MayAlwaysStop s
  trace_may_stop asked a s h =
      then_may_stop (GivesFolder (λ (ds : List Loaded). ds) t asked.net) (λ ds. TracesOver t ds asked) s (folder_may_stop t asked.net a.folder)
      (λ ds given next. over (subst (λ (ls : List Loaded). TracesOver t ls asked (Err s)) (folder_is t asked.net a.folder ds given) next))
      h where
        over : TracesOver t a.folder.devices asked (Err s) → MayAlwaysStop s
        over k =
            let devices = a.folder.devices in
            then_may_stop (GivesTable t asked.links wires.Both devices devices) (λ table. OrNoMemory (IsTrace devices table asked.packet asked.ttl)) s (table_may_stop t asked.links wires.Both devices devices a.table)
            (λ table given written. writing_may_stop (IsTrace devices table asked.packet asked.ttl) s written)
            k

  reading_may_stop : (net : List ℕ) → AcceptedFolder t net → (s : Stop) → Reads t net (Err s) → MayAlwaysStop s
  reading_may_stop net a s h =
      then_may_stop (GivesFolder (λ (ds : List Loaded). ds) t net) (λ ds. OrNoMemory (IsReading ds)) s (folder_may_stop t net a) (λ ds given written. writing_may_stop (IsReading ds) s written) h

  job_may_stop : (s : Stop) (o : Option Job) → AcceptedJob o t → Performs o t (Err s) → MayAlwaysStop s
  job_may_stop s None a d = absurd a
  job_may_stop s (Some (job.Compare asked)) a d = comparison_may_stop asked a s d
  job_may_stop s (Some (job.Ask asked)) a d = asking_may_stop asked a s d
  job_may_stop s (Some (job.Trace asked)) a d = trace_may_stop asked a s d
  job_may_stop s (Some (job.Read net)) a d = reading_may_stop net a s d
  job_may_stop s (Some (job.Gen number size)) a d = writing_may_stop (IsSummaryOf (networks number size)) s d

pub accepted_may_stop : (words : List (List ℕ)) (t : Told) (s : Stop) → IsAccepted words t → Does words t (Err s) → MayAlwaysStop s
accepted_may_stop words t s a d = job_may_stop t s (job_of words) a d

-- what is done for the job that the words ask is what they ask
pub does_job : (words : List (List ℕ)) (told : Option Told) (j : Job) (result : Result Report Stop) → job_of words ≡ Some j → IfSome told (λ t. Performs (Some j) t result) → IfSome told (λ t. Does words t result)
does_job words told j result asked d = subst (λ o. IfSome told (λ t. Performs o t result)) (sym asked) d
