-- What may stop a review of edits of which nothing is refused, too long or absent.
use Rattle.std.proofs.Common.{◌≡◌, inl, inr, ℕ, ◌≤◌, List, length, refl, sym, subst, arith}
use Rattle.std.specs.Prelude.{Option, Some, None, Result, Ok, Err, IfSome}
use Rattle.net_types.specs.declared.config.Loaded.{Loaded}
use Rattle.topo_links.specs.declared.table.LinkTable.{LinkTable}
use Rattle.net_io.specs.Files.{Told, content}
use Rattle.net_load.specs.declared.numbering.Numbered.{Numbered}
use Rattle.edit_lines.specs.declared.refusal.EditsFail.{EditsFail}
use Rattle.edit_lines.specs.declared.refusal.EditsFail.TheVariants as fail
use Rattle.edit_lines.specs.Built.{edits_limit}
use Rattle.edit_lines.specs.Reading.{edits_of}
use Rattle.job_core.specs.declared.report.Report.{Report}
use Rattle.job_core.specs.declared.stop.Stop.{Stop}
use Rattle.job_core.specs.declared.stop.Stop.TheVariants as stop
use Rattle.job_core.specs.declared.table.Wires.TheVariants as wires
use Rattle.job_core.specs.Accepted.{AcceptedFile, MayAlwaysStop}
use Rattle.job_core.specs.Steps.{Then, GivesBytes, GivesTable}
use Rattle.job_core.proofs.AcceptedLemmas.{then_may_stop, file_may_stop, bytes_are, table_may_stop, table_is}
use Rattle.job_inputs.specs.Folders.{GivesFolder}
use Rattle.job_inputs.proofs.FolderLemmas.{folder_may_stop, folder_is}
use Rattle.edits_core.specs.Accepted.{AcceptedEdits, AcceptedReview, AcceptedPaths, IsAccepted}
use Rattle.edits_core.specs.Edits.{network_after}
use Rattle.edits_core.specs.Job.{AreShort, Does, Edits, EditsOn, EditsOver, EditsWith, GivesShort, IsEdited, Performs, Refuses, SaysEdits, asked_network}
use Rattle.edits_core.specs.Words.{Paths, paths_of}

ok_is : {A E : Type 0} (o : Result A E) (x y : A) → o ≡ Ok x → o ≡ Ok y → x ≡ y
ok_is o x y a b = cc

ok_err : {A E : Type 0} (o : Result A E) (x : A) (e : E) → o ≡ Ok x → o ≡ Err e → ⊥
ok_err o x e a b = cc

-- a step that gives this value and no other, behind which the next is stopped by nothing but what may always stop
goes_stop : {A B : Type 0} (first : Result A Stop → Type 0) (next : A → Result B Stop → Type 0) (a : A) (s : Stop)
    → ((b : A) → first (Ok b) → b ≡ a) → ((r : Stop) → first (Err r) → MayAlwaysStop r) → (next a (Err s) → MayAlwaysStop s)
    → Then first next (Err s) → MayAlwaysStop s
goes_stop first next a s once stops goes h = then_may_stop first next s stops (λ b given k. goes (subst (λ x. next x (Err s)) (once b given) k)) h

-- ---- edits

refuses_stop : {Y : Type 0} (path : List ℕ) (read : Result Y EditsFail) (y : Y) (s : Stop) → read ≡ Ok y → Refuses path read s → MayAlwaysStop s
refuses_stop path read y stop.NoMemory is h = tt
refuses_stop path read y (stop.CannotRead p) is h = tt
refuses_stop path read y (stop.NotFound p) is h = h
refuses_stop path read y (stop.TooLong p) is h = h
refuses_stop path read y (stop.TooManyFiles p) is h = h
refuses_stop path read y (stop.HostnameTaken p q) is h = h
refuses_stop path read y (stop.Refused p n k w) is (same, kind, named, refused) = ok_err read y (fail.Refused kind n w) is refused

short_stops : (path bytes : List ℕ) (s : Stop) → length bytes ≤ edits_limit → AreShort path bytes (Err s) → MayAlwaysStop s
short_stops path bytes stop.NoMemory fits h = tt
short_stops path bytes (stop.CannotRead p) fits h = tt
short_stops path bytes (stop.NotFound p) fits h = h
short_stops path bytes (stop.TooLong p) fits h = let long = h.1 in absurd (omega (arith, fits, long))
short_stops path bytes (stop.TooManyFiles p) fits h = h
short_stops path bytes (stop.HostnameTaken p q) fits h = h
short_stops path bytes (stop.Refused p n k w) fits h = h

module _ (t : Told) (path : List ℕ) (a : AcceptedFile t path) (within : length a.bytes ≤ edits_limit) where
  short_is : (bytes : List ℕ) → GivesShort t path (Ok bytes) → bytes ≡ a.bytes
  short_is bytes (inl (s, h, same)) = absurd (ok_err (Ok bytes) bytes s refl same)
  short_is bytes (inr (read, given, short)) = subst (λ (b : List ℕ). bytes ≡ b) (bytes_are t path read a given.0) short.0

  given_stops : (s : Stop) → GivesShort t path (Err s) → MayAlwaysStop s
  given_stops s h =
      goes_stop (GivesBytes (λ (bytes : List ℕ). bytes) path (content t path)) (AreShort path) a.bytes s
      (λ b g. bytes_are t path b a g.0) (file_may_stop t path a) (short_stops path a.bytes s within) h

on_stops : (path : List ℕ) (n : Numbered) (bytes : List ℕ) (a : AcceptedEdits n bytes) (s : Stop) → EditsOn path n bytes (Err s) → MayAlwaysStop s
on_stops path n bytes a s h =
    goes_stop (SaysEdits path n.old bytes) (IsEdited path n) a.lines s
    (λ lines says. ok_is (edits_of n.old bytes) lines a.lines says a.read)
    (λ r refused. refuses_stop path (edits_of n.old bytes) a.lines r a.read refused)
    (λ refused. refuses_stop path (network_after n.old a.lines) a.after s a.made refused)
    h

-- ---- the whole

edits_stop : (t : Told) (p : Paths) (a : AcceptedReview t p) (s : Stop) → Edits t p (Err s) → MayAlwaysStop s
edits_stop t p a s h =
    goes_stop (GivesFolder (λ (ds : List Loaded). ds) t p.net) (λ ds. EditsOver t ds p) devices s
    (folder_is t p.net a.folder) (folder_may_stop t p.net a.folder) over h where
      devices : List Loaded
      devices = a.folder.devices

      table : LinkTable
      table = a.table.links.table

      with_table : EditsWith t devices table p (Err s) → MayAlwaysStop s
      with_table k =
          goes_stop (GivesShort t p.edits) (EditsOn p.edits (asked_network devices table)) a.file.bytes s
          (short_is t p.edits a.file a.edits.within) (given_stops t p.edits a.file a.edits.within)
          (on_stops p.edits (asked_network devices table) a.file.bytes a.edits s) k

      over : EditsOver t devices p (Err s) → MayAlwaysStop s
      over k =
          goes_stop (GivesTable t p.links wires.Both devices devices) (λ x. EditsWith t devices x p) table s
          (table_is t p.links wires.Both devices devices a.table) (table_may_stop t p.links wires.Both devices devices a.table) with_table k

paths_may_stop : (o : Option Paths) (t : Told) (s : Stop) → AcceptedPaths o t → Performs o t (Err s) → MayAlwaysStop s
paths_may_stop None t s a d = absurd a
paths_may_stop (Some p) t s a d = edits_stop t p a s d

pub accepted_may_stop : (words : List (List ℕ)) (t : Told) (s : Stop) → IsAccepted words t → Does words t (Err s) → MayAlwaysStop s
accepted_may_stop words t s a d = paths_may_stop (paths_of words) t s a d

-- what is done for the paths that the words name is what they ask
pub does_paths : (words : List (List ℕ)) (told : Option Told) (p : Paths) (result : Result Report Stop) → paths_of words ≡ Some p → IfSome told (λ t. Edits t p result) → IfSome told (λ t. Does words t result)
does_paths words told p result asked d = subst (λ o. IfSome told (λ t. Performs o t result)) (sym asked) d

-- where the words are outside the usage nothing is accepted
pub none_accepted : (words : List (List ℕ)) → paths_of words ≡ None → (t : Told) → IsAccepted words t → ⊥
none_accepted words none t a = subst (λ o. AcceptedPaths o t) none a
