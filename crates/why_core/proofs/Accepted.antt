-- What may stop what is accepted.
use Rattle.std.proofs.Common.{◌≡◌, ℕ, ◌<◌, Bool, true, false, ◌&&◌, List, [], ◌∷◌, Option, Some, None, Result, Ok, Err, length, inl, inr, sym, subst, refl, ap, ◌∙◌, arith}
use Rattle.std.specs.Prelude.{Contains, ◌⊎◌}
use Rattle.std.specs.List.{list_all}
use Rattle.std.proofs.lemmas.List.Sums.{AllPass-from_list_all}
use Rattle.net_types.specs.declared.config.Loaded.{Loaded}
use Rattle.net_types.specs.declared.network.Section.{Section}
use Rattle.net_io.specs.Files.{Told, content}
use Rattle.net_load.specs.declared.numbering.NumberedBoth.{NumberedBoth}
use Rattle.net_load.specs.Numbering.{numbered_both}
use Rattle.topo_links.specs.declared.table.LinkTable.{LinkTable}
use Rattle.job_core.specs.declared.report.Report.{Report}
use Rattle.job_core.specs.declared.stop.Stop.{Stop}
use Rattle.job_core.specs.declared.stop.Stop.TheVariants as stop
use Rattle.job_core.specs.declared.table.Wires.TheVariants as wires
use Rattle.job_core.specs.Accepted.{AcceptedTable, MayAlwaysStop}
use Rattle.job_core.specs.Steps.{GivesTable, OrNoMemory, Then}
use Rattle.job_core.proofs.AcceptedLemmas.{then_may_stop, table_may_stop, table_is, writing_may_stop}
use Rattle.job_inputs.specs.Folders.{GivesFolder}
use Rattle.job_inputs.proofs.FolderLemmas.{folder_may_stop, folder_is}
use Rattle.view_core.specs.Reports.{GivesReport, IsReport, own_names}
use Rattle.view_core.specs.Views.{AcceptedReport, SaysReport}
use Rattle.view_core.proofs.Asked.{file_may_stop, report_fails, some_is}
use Rattle.report_text.specs.Reports.{IsReportOf}
use Rattle.why_core.specs.declared.networks.Networks.{Networks}
use Rattle.why_core.specs.Cases.{Case, Ground, is_right}
use Rattle.why_core.specs.Networks.{AcceptedNetworks, AreNetworks, GivesBoth, GivesLinked, GivesNetworks}
use Rattle.why_core.specs.Words.{Why, Traces, why_of, traces_of}
use Rattle.why_core.specs.Why as why
use Rattle.why_core.specs.Traces as traces

-- ---- the networks

module _ (t : Told) (old new links : List ℕ) (a : AcceptedNetworks t old new links) where
  linked_may_stop : (s : Stop) → GivesLinked t links a.before.devices a.after.devices (Err s) → MayAlwaysStop s
  linked_may_stop s h =
      then_may_stop (GivesTable t links wires.Both a.before.devices a.after.devices) (λ table. AreNetworks a.before.devices a.after.devices table) s
      (table_may_stop t links wires.Both a.before.devices a.after.devices a.table) (λ table given none. absurd none) h

  both_may_stop : (s : Stop) → GivesBoth t new links a.before.devices (Err s) → MayAlwaysStop s
  both_may_stop s h =
      then_may_stop (GivesFolder (λ (ds : List Loaded). ds) t new) (λ ds. GivesLinked t links a.before.devices ds) s (folder_may_stop t new a.after)
      (λ ds given next. linked_may_stop s (subst (λ (ls : List Loaded). GivesLinked t links a.before.devices ls (Err s)) (folder_is t new a.after ds given) next)) h

  pub networks_may_stop : (s : Stop) → GivesNetworks t old new links (Err s) → MayAlwaysStop s
  networks_may_stop s h =
      then_may_stop (GivesFolder (λ (ds : List Loaded). ds) t old) (λ ds. GivesBoth t new links ds) s (folder_may_stop t old a.before)
      (λ ds given next. both_may_stop s (subst (λ (ls : List Loaded). GivesBoth t new links ls (Err s)) (folder_is t old a.before ds given) next)) h

  -- the networks that are given are the accepted ones
  record AreThese (n : Networks) : Type 0 where
    of_old : n.old.items ≡ a.before.devices
    of_new : n.new.items ≡ a.after.devices
    of_links : n.links ≡ a.table.links.table

  linked_are : (n : Networks) → GivesLinked t links a.before.devices a.after.devices (Ok n) → AreThese n
  linked_are n (inl (s, given, none)) = absurd (cc)
  linked_are n (inr (table, given, are)) =
      let same = table_is t links wires.Both a.before.devices a.after.devices a.table table given in
      record { of_old = are.0; of_new = are.1; of_links = are.2 ∙ same }

  both_are : (n : Networks) → GivesBoth t new links a.before.devices (Ok n) → AreThese n
  both_are n (inl (s, given, none)) = absurd (cc)
  both_are n (inr (ds, given, next)) = linked_are n (subst (λ (ls : List Loaded). GivesLinked t links a.before.devices ls (Ok n)) (folder_is t new a.after ds given) next)

  networks_are : (n : Networks) → GivesNetworks t old new links (Ok n) → AreThese n
  networks_are n (inl (s, given, none)) = absurd (cc)
  networks_are n (inr (ds, given, next)) = both_are n (subst (λ (ls : List Loaded). GivesBoth t new links ls (Ok n)) (folder_is t old a.before ds given) next)

  pub numbered_are : (n : Networks) → GivesNetworks t old new links (Ok n)
      → why.numbered_of n ≡ numbered_both a.before.devices a.after.devices a.table.links.table a.table.links.table []
  numbered_are n h =
      let these = networks_are n h in
      ap (λ (ls : List Loaded). numbered_both ls n.new.items n.links n.links []) these.of_old
      ∙ ap (λ (ls : List Loaded). numbered_both a.before.devices ls n.links n.links []) these.of_new
      ∙ ap (λ (table : LinkTable). numbered_both a.before.devices a.after.devices table table []) these.of_links

-- ---- a report of these networks isn't refused

all_is : {A : Type 0} (p : A → Bool) (xs : List A) (x : A) → Contains xs x → list_all p xs ≡ true → p x ≡ true
all_is p xs x (k, within, is) all = subst (λ y. p y ≡ true) is (AllPass-from_list_all p xs all k x within)

module _ (n : NumberedBoth) (w : Why) (bytes : List ℕ) (sections : List Section) (these : why.AreOfThese n w.manner.all bytes sections) where
  no_other : (line : List ℕ) → why.IsOther (why.ground_over n bytes) n.ingress w.manner.all sections line → ⊥
  no_other line (inl other) =
      let one = these.ingresses.whole_report in
      let two = these.ingresses.whole_networks in
      (elim (other.fewer) as (λ _. ⊥) [ inl h ↦ absurd (omega (arith, h, one)) | inr h ↦ absurd (omega (arith, h, two)) ])
  no_other line (inr other) = clash (sym (all_is (is_right (why.ground_over n bytes)) _ other.case other.among (these.right other.groups other.grouped)) ∙ other.wrong)
    where
      clash : true ≡ false → ⊥
      clash e = cc

  judges_may_stop : (s : Stop) → why.Judges n w bytes sections (Err s) → MayAlwaysStop s
  judges_may_stop (stop.Refused p k kind word) (line, other, at, number, named, silent) = absurd (no_other line other)
  judges_may_stop stop.NoMemory h = tt
  judges_may_stop (stop.CannotRead p) h = tt
  judges_may_stop (stop.NotFound p) h = h
  judges_may_stop (stop.TooLong p) h = h
  judges_may_stop (stop.TooManyFiles p) h = h
  judges_may_stop (stop.HostnameTaken p q) h = h

module _ (t : Told) (w : Why) (a : why.AcceptedWhy t w) where
  n : NumberedBoth
  n = numbered_both a.networks.before.devices a.networks.after.devices a.networks.table.links.table a.networks.table.links.table []

  bytes_may_stop : (s : Stop) → why.ExplainsBytes n w a.report.bytes (Err s) → MayAlwaysStop s
  unfolding n
  bytes_may_stop s h =
      then_may_stop (SaysReport w.report a.report.bytes) (λ r. why.Judges n w a.report.bytes r.sections.items) s
      (λ r fails. report_fails w.report a.report.bytes r a.report.report fails)
      (λ r says judged. judges_may_stop n w a.report.bytes r.sections.items (a.same r.sections.items says.1) s judged) h

  over_may_stop : (s : Stop) → why.ExplainsOver t n w (Err s) → MayAlwaysStop s
  over_may_stop s h =
      then_may_stop (GivesReport (λ (bs : List ℕ). bs) w.report (content t w.report)) (why.ExplainsBytes n w) s (file_may_stop t w.report a.report)
      (λ bytes given next. bytes_may_stop s (subst (λ (b : List ℕ). why.ExplainsBytes n w b (Err s)) (some_is (content t w.report) bytes a.report.bytes given.0 a.report.there) next)) h

  explains_may_stop : (s : Stop) → why.Explains t w (Err s) → MayAlwaysStop s
  unfolding n
  explains_may_stop s h =
      then_may_stop (GivesNetworks t w.old w.new w.links) (λ m. why.ExplainsOver t (why.numbered_of m) w) s (networks_may_stop t w.old w.new w.links a.networks)
      (λ m given next. over_may_stop s (subst (λ (m : NumberedBoth). why.ExplainsOver t m w (Err s)) (numbered_are t w.old w.new w.links a.networks m given) next)) h

why_may_stop : (t : Told) (s : Stop) (o : Option Why) → why.Accepted o t → why.Performs o t (Err s) → MayAlwaysStop s
why_may_stop t s None a d = absurd a
why_may_stop t s (Some w) a d = explains_may_stop t w a s d

pub accepted_why : (words : List (List ℕ)) (t : Told) (s : Stop) → why.IsAccepted words t → why.Does words t (Err s) → MayAlwaysStop s
accepted_why words t s a d = why_may_stop t s (why_of words) a d

follows_may_stop : (t : Told) (w : Traces) → AcceptedNetworks t w.old w.new w.links → (s : Stop) → traces.Follows t w (Err s) → MayAlwaysStop s
follows_may_stop t w a s h =
    then_may_stop (GivesNetworks t w.old w.new w.links) (λ m. OrNoMemory (traces.AreTraces (traces.numbered_for m w) w)) s (networks_may_stop t w.old w.new w.links a)
    (λ m given written. writing_may_stop (traces.AreTraces (traces.numbered_for m w) w) s written) h

traces_may_stop : (t : Told) (s : Stop) (o : Option Traces) → traces.Accepted o t → traces.Performs o t (Err s) → MayAlwaysStop s
traces_may_stop t s None a d = absurd a
traces_may_stop t s (Some w) a d = follows_may_stop t w a s d

pub accepted_traces : (words : List (List ℕ)) (t : Told) (s : Stop) → traces.IsAccepted words t → traces.Does words t (Err s) → MayAlwaysStop s
accepted_traces words t s a d = traces_may_stop t s (traces_of words) a d
