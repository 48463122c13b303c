-- What the words ask, and what may stop it where it is accepted.
use Rattle.std.proofs.Common.{◌≡◌, inl, inr, ℕ, ◌<◌, ◌≤◌, List, [], ◌∷◌, Option, Some, None, Result, Ok, Err, IfSome, length, unwrap_or, refl, sym, ap, ◌∙◌, subst, arith}
use Rattle.std.specs.Prelude.{IsSomeAnd}
use Rattle.std.specs.List.{AllZip}
use Rattle.net_io.specs.Files.{Told, content, path_in}
use Rattle.net_io.specs.Limits.{file_limit}
use Rattle.net_load.specs.Folder.{IsRead, file_at}
use Rattle.net_types.specs.declared.config.Loaded.{Loaded}
use Rattle.ios_config.specs.Reads.{Reads}
use Rattle.job_core.specs.declared.report.Report.{Report}
use Rattle.job_core.specs.declared.stop.Stop.{Stop}
use Rattle.job_core.specs.declared.stop.Stop.TheVariants as stop
use Rattle.job_core.specs.Accepted.{AcceptedFile, MayAlwaysStop}
use Rattle.job_core.proofs.AcceptedLemmas.{then_may_stop, file_may_stop}
use Rattle.job_inputs.specs.Folders.{AcceptedFolder}
use Rattle.job_inputs.proofs.FolderLemmas.{folder_may_stop, folder_is}
use Rattle.view_core.specs.Reports.{report_limit, UnreadReport, GivesReport}
use Rattle.audit_view.specs.declared.audited.AuditedList.{AuditedList}
use Rattle.audit_view.specs.declared.lists.FolderList.{FolderList}
use Rattle.audit_view.specs.declared.words.Manner.{Manner}
use Rattle.audit_view.specs.Audited.{first_unknown}
use Rattle.audit_view.specs.Lists.{lists_of}
use Rattle.audit_view.specs.Views.{IsAudit, IsFault, audited_by, FileStops, GivesNet, AuditFails, Views, ViewsWith, Shows, Performs, Does, AcceptedAudit, AcceptedPaths, IsAccepted}
use Rattle.audit_view.specs.Words.{paths_of, manner_of}

-- what is shown of the files that the words name is what they ask
pub does_show : (words : List (List ℕ)) (path net : List ℕ) (m : Manner) → paths_of words ≡ Some (path, net) → m ≡ manner_of words
    → (told : Option Told) (r : Result Report Stop) → IfSome told (λ t. Shows t m path net r) → IfSome told (λ t. Does words t r)
does_show words path net m p e None r h = tt
does_show words path net m p e (Some t) r h =
    subst (λ o. Performs o (manner_of words) t r) (sym p) (subst (λ q. Shows t q path net r) e h)

-- ---- files of a folder that is loaded

some_is : {A : Type 0} (o : Option A) (x y : A) → o ≡ Some x → o ≡ Some y → x ≡ y
some_is o x y a b = cc

none_some : {A : Type 0} (o : Option A) (x : A) → o ≡ None → o ≡ Some x → ⊥
none_some o x a b = cc

-- a file whose bytes were read is within the limit
accepted_at : (t : Told) (path : List ℕ) (o : Option (List ℕ)) → content t path ≡ o → IsSomeAnd o (λ bytes. Unit {0}) → length (unwrap_or o []) ≤ file_limit → AcceptedFile t path
accepted_at t path None e h k = absurd h
accepted_at t path (Some bytes) e h k = record { bytes = bytes; there = e; within = k }

told_some : (o : Option (List ℕ)) (d : Loaded) → IsSomeAnd o (λ bytes. Reads bytes d.config d.passed) → IsSomeAnd o (λ bytes. Unit {0})
told_some None d h = h
told_some (Some bytes) d h = tt

accepted_file : (t : Told) (net name : List ℕ) (d : Loaded) → IsRead t net name d → AcceptedFile t (path_in net d.file)
accepted_file t net name d r =
    subst (λ n. AcceptedFile t (path_in net n)) (sym r.file) (accepted_at t (path_in net name) (file_at t net name) refl (told_some (file_at t net name) d r.read) r.size)

files_may_stop : (t : Told) (net : List ℕ) (names : List (List ℕ)) (devices : List Loaded) (s : Stop) → AllZip (IsRead t net) names devices → FileStops t net devices s → MayAlwaysStop s
files_may_stop t net names [] s each h = absurd h
files_may_stop t net [] (d ∷ devices) s each h = absurd each
files_may_stop t net (name ∷ names) (d ∷ devices) s each (inl unread) = file_may_stop t (path_in net d.file) (accepted_file t net name d each.0) s unread
files_may_stop t net (name ∷ names) (d ∷ devices) s each (inr later) = files_may_stop t net names devices s each.1 later

net_may_stop : (t : Told) (net : List ℕ) (a : AcceptedFolder t net) (s : Stop) → GivesNet (λ (ls : List FolderList). ls) t net (Err s) → MayAlwaysStop s
net_may_stop t net a s (inl fails) = folder_may_stop t net a s fails
net_may_stop t net a s (inr (devices, gives, unread)) = files_may_stop t net gives.1.0 devices s gives.1.3.each unread

-- ---- what the audit wrote

report_may_stop : (t : Told) (path net : List ℕ) (a : AcceptedAudit t path net) (s : Stop) → UnreadReport path (content t path) s → MayAlwaysStop s
report_may_stop t path net a (stop.CannotRead p) h = tt
report_may_stop t path net a stop.NoMemory h = tt
report_may_stop t path net a (stop.NotFound p) h = none_some (content t path) a.bytes h.1 a.there
report_may_stop t path net a (stop.TooLong p) h =
    let long : report_limit < length a.bytes = subst (λ (q : Option (List ℕ)). IsSomeAnd q (λ b. report_limit < length b)) a.there h.1 in
    let within = a.within in
    absurd (omega (arith, long, within))
report_may_stop t path net a (stop.TooManyFiles p) h = h
report_may_stop t path net a (stop.Refused p n k w) h = h
report_may_stop t path net a (stop.HostnameTaken p q) h = h

no_fault : (audited : List AuditedList) (bytes : List ℕ) (line : ℕ) → IsAudit audited bytes → IsFault audited bytes (Some line) → ⊥
no_fault audited bytes line is (inl o) = o.other is.written
no_fault audited bytes line is (inr u) = absurd (none_some (first_unknown audited) u.before is.known u.unknown)

audit_fails : (path : List ℕ) (lists : List FolderList) (bytes : List ℕ) (s : Stop) → IsAudit (audited_by lists bytes) bytes → AuditFails path lists bytes s → MayAlwaysStop s
audit_fails path lists bytes (stop.Refused p line kind word) is (same, fault, none, silent) = absurd (no_fault (audited_by lists bytes) bytes line is fault)
audit_fails path lists bytes stop.NoMemory is h = tt
audit_fails path lists bytes (stop.CannotRead p) is h = tt
audit_fails path lists bytes (stop.TooLong p) is h = h
audit_fails path lists bytes (stop.TooManyFiles p) is h = h
audit_fails path lists bytes (stop.HostnameTaken p q) is h = h
audit_fails path lists bytes (stop.NotFound p) is h = h

lists_are : (t : Told) (net : List ℕ) (a : AcceptedFolder t net) (lists : List FolderList) → GivesNet (λ (ls : List FolderList). ls) t net (Ok lists) → lists ≡ lists_of t net a.devices
lists_are t net a lists (devices, gives, same) = same ∙ ap (lists_of t net) (folder_is t net a devices gives)

shows_may_stop : (t : Told) (m : Manner) (path net : List ℕ) (s : Stop) → AcceptedAudit t path net → Shows t m path net (Err s) → MayAlwaysStop s
shows_may_stop t m path net s a h =
    then_may_stop (GivesReport (λ (bs : List ℕ). bs) path (content t path)) (ViewsWith t m path net) s (report_may_stop t path net a)
    (λ bytes given next.
    then_may_stop (GivesNet (λ (ls : List FolderList). ls) t net) (Views m path bytes) s (net_may_stop t net a.folder)
    (λ lists gives fails.
    audit_fails path (lists_of t net a.folder.devices) a.bytes s a.audit
    (subst (λ (ls : List FolderList). AuditFails path ls a.bytes s) (lists_are t net a.folder lists gives)
    (subst (λ (b : List ℕ). AuditFails path lists b s) (some_is (content t path) bytes a.bytes given.0 a.there) fails)))
    next)
    h

paths_may_stop : (o : Option (List ℕ × List ℕ)) (m : Manner) (t : Told) (s : Stop) → AcceptedPaths o t → Performs o m t (Err s) → MayAlwaysStop s
paths_may_stop None m t s a d = absurd a
paths_may_stop (Some paths) m t s a d = shows_may_stop t m paths.0 paths.1 s a d

pub accepted_may_stop : (words : List (List ℕ)) (t : Told) (s : Stop) → IsAccepted words t → Does words t (Err s) → MayAlwaysStop s
accepted_may_stop words t s a d = paths_may_stop (paths_of words) (manner_of words) t s a d
