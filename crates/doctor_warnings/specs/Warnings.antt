-- What is told of a folder of configurations.
use Rattle.std.specs.Prelude.{ℕ, Bool, true, false, not, List, [], ◌∷◌, ◌++◌, count_by, find, map, Option, Some, None, option_map, option_and_then, option_to_list, is_some, nat_le, if◌then◌else◌}
use Rattle.std.specs.List.{flat_map}
use Rattle.std.specs.Str.{bytes_eq}
use Rattle.net_types.specs.declared.config.Config.{Config}
use Rattle.net_io.specs.Files.{path_in}
use Rattle.ios_lines.specs.declared.fault.Refusal.{Refusal}
use Rattle.ios_lines.specs.Kinds.{kind_text}
use Rattle.ios_config.specs.Reads.{effects, refusal}
use Rattle.look_alikes.specs.declared.look.LookAlike.{LookAlike}
use Rattle.look_alikes.specs.Idle.{is_idle}
use Rattle.look_alikes.specs.LookAlikes.{look_alike}
use Rattle.config_checks.specs.declared.finding.ConfigFinding.{ConfigFinding}
use Rattle.config_checks.specs.Findings.{config_findings}
use Rattle.doctor_warnings.specs.declared.files.TextFile.{TextFile}
use Rattle.doctor_warnings.specs.declared.network.Texts.{Texts}
use Rattle.doctor_warnings.specs.declared.told.ToldLine.{ToldLine}
use Rattle.doctor_warnings.specs.declared.warning.Reason.{Reason}
use Rattle.doctor_warnings.specs.declared.warning.Reason.TheVariants as reason
use Rattle.doctor_warnings.specs.declared.warning.Warning.{Warning}
use Rattle.doctor_warnings.specs.declared.warning.Warning.TheVariants as warning
use Rattle.doctor_warnings.specs.Lines.{line_at, nth_line, trimmed}
use Rattle.doctor_warnings.specs.Told.{heading, key, keys, passed_words, told_lines, told_text}
use Rattle.doctor_warnings.specs.Readings.{config_by}

-- ---- lines that are passed over

-- what the line looks like
abbrev pub look_of : List ℕ → ToldLine → Option LookAlike
look_of bytes t = look_alike t.mode (line_at bytes t.start)

-- up to this line it stands here more often than in the other folder's file of the same name; these are the keys of that file's
-- lines, if there is one, and of the lines before this one
abbrev pub is_only_here : Option (List (List ℕ)) → List (List ℕ) → List ℕ → Bool
is_only_here None before k = false
is_only_here (Some ks) before k = nat_le (count_by (bytes_eq k) ks) (count_by (bytes_eq k) before)

abbrev pub reason_by : Option LookAlike → Bool → Option Reason
reason_by (Some look) only = Some (reason.Looks look)
reason_by None true = Some reason.OnlyHere
reason_by None false = None

-- why a line is told: it looks like a command, or it stands in one of the folders alone
abbrev pub reason_of : Option (List (List ℕ)) → List (List ℕ) → List ℕ → ToldLine → Option Reason
reason_of others before bytes t = reason_by (look_of bytes t) (is_only_here others before (key bytes t))

-- the way of no packet depends on the line
abbrev pub is_idle_line : List ℕ → ToldLine → Bool
is_idle_line bytes t = is_idle t.mode (heading bytes t.mode t.under) (told_text bytes t)

-- of a line of one folder alone it is told apart whether the way of a packet may depend on it
abbrev pub reason_in : List ℕ → ToldLine → Reason → Reason
reason_in bytes t (reason.Looks look) = reason.Looks look
reason_in bytes t reason.OnlyHere = if is_idle_line bytes t then reason.Idle else reason.OnlyHere
reason_in bytes t reason.Idle = reason.Idle

abbrev pub passed_by : List ℕ → List ℕ → ToldLine → Option Reason → List Warning
passed_by path bytes t None = []
passed_by path bytes t (Some r) = warning.Passed path t.number (reason_in bytes t r) (told_text bytes t) ∷ []

-- what is told of lines one after the other, behind lines of these keys
abbrev pub passed_behind : Option (List (List ℕ)) → List ℕ → List ℕ → List (List ℕ) → List ToldLine → List Warning
passed_behind others path bytes before [] = []
passed_behind others path bytes before (t ∷ ts) =
    passed_by path bytes t (reason_of others before bytes t) ++ passed_behind others path bytes (before ++ key bytes t ∷ []) ts

abbrev pub passed_warnings : Option (List (List ℕ)) → List ℕ → List ℕ → List Warning
passed_warnings others path bytes = passed_behind others path bytes [] (told_lines bytes)

-- ---- configurations

abbrev pub config_told : List ℕ → List ConfigFinding → List Warning
config_told path found = map (λ f. warning.Config path f) found

-- what is odd in the configuration of a text; a list whose name is a word of a line that is passed over may be used there
abbrev pub config_warnings : List ℕ → List ℕ → Option (Config × ℕ) → List Warning
config_warnings path bytes None = []
config_warnings path bytes (Some c) = config_told path (config_findings c.0 (passed_words bytes))

-- ---- files

-- the line of a refusal as it stands
abbrev pub refused_warning : List ℕ → List ℕ → Refusal → Warning
refused_warning path bytes r = warning.Refused path r.line (kind_text r.kind) r.word (trimmed (nth_line bytes r.line))

abbrev pub alone_warnings : Bool → List ℕ → List Warning
alone_warnings alone path = if alone then warning.OneFolder path ∷ [] else []

-- that a file has none of its name beside it, and its refusal; then its lines that are passed over, also where it is refused; and
-- then what is odd in its configuration, where it isn't refused
abbrev pub file_warnings : Bool → Option (List (List ℕ)) → List ℕ → List ℕ → List Warning
file_warnings alone others path bytes =
    alone_warnings alone path
    ++ option_to_list (option_map (refused_warning path bytes) (refusal (effects bytes)))
    ++ passed_warnings others path bytes
    ++ config_warnings path bytes (config_by bytes)

-- ---- folders

-- the file of this name
abbrev pub file_named : List ℕ → List TextFile → Option TextFile
file_named name files = find (λ f. bytes_eq name f.name) files

-- the other folder has no file of this name, where there is another folder
abbrev pub is_alone : Option (List TextFile) → List ℕ → Bool
is_alone None name = false
is_alone (Some files) name = not (is_some (file_named name files))

-- the keys of its lines that are passed over
abbrev pub other_keys : Option (List TextFile) → List ℕ → Option (List (List ℕ))
other_keys others name = option_map (λ f. keys f.bytes) (option_and_then (file_named name) others)

-- a folder without a configuration
abbrev pub empty_warnings : List ℕ → List TextFile → List Warning
empty_warnings folder [] = warning.NoConfigs folder ∷ []
empty_warnings folder (f ∷ fs) = []

-- its other files
abbrev pub unread_warnings : List ℕ → List (List ℕ) → List Warning
unread_warnings folder names = map (λ name. warning.Unread (path_in folder name)) names

-- ---- hostnames

-- the hostname of a file that isn't refused
abbrev pub host_in : TextFile → Option (List ℕ)
host_in f = option_map (λ c. c.0.hostname) (config_by f.bytes)

abbrev pub is_text : List ℕ → Option (List ℕ) → Bool
is_text h None = false
is_text h (Some i) = bytes_eq h i

abbrev pub has_host : List ℕ → TextFile → Bool
has_host h f = is_text h (host_in f)

-- the first of these files that has the hostname
abbrev pub first_host : List TextFile → Option (List ℕ) → Option TextFile
first_host files None = None
first_host files (Some h) = find (has_host h) files

abbrev pub taken_by : List ℕ → TextFile → Option TextFile → List Warning
taken_by folder f None = []
taken_by folder f (Some first) = warning.HostTaken (path_in folder f.name) (path_in folder first.name) ∷ []

-- files whose hostname an earlier one has; these come before them
abbrev pub taken_behind : List ℕ → List TextFile → List TextFile → List Warning
taken_behind folder before [] = []
taken_behind folder before (f ∷ fs) = taken_by folder f (first_host before (host_in f)) ++ taken_behind folder (before ++ f ∷ []) fs

-- ---- what is counted, and no warning by itself

abbrev pub is_reason : Reason → Bool
is_reason (reason.Looks look) = true
is_reason reason.OnlyHere = true
is_reason reason.Idle = false

-- a line on which the way of no packet depends is no warning
abbrev pub is_warning : Warning → Bool
is_warning (warning.Passed path n r text) = is_reason r
is_warning _ = true

-- ---- all together

-- the folder as a whole, its files one after the other beside those of the other folder where there is one, and their hostnames
abbrev pub folder_warnings : Texts → Option (List TextFile) → List Warning
folder_warnings t others =
    empty_warnings t.path t.files
    ++ unread_warnings t.path t.unread
    ++ flat_map (λ f. file_warnings (is_alone others f.name) (other_keys others f.name) (path_in t.path f.name) f.bytes) t.files
    ++ taken_behind t.path [] t.files
