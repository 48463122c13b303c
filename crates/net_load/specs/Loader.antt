-- The files of a folder that are loaded so far.
use Rattle.std.specs.Prelude.{◌≡◌, ℕ, ◌+◌, ◌<◌, ◌≤◌, false, List, [], ◌∷◌, ◌++◌, Option, None, Some, Result, Ok, Err, length, map}
use Rattle.std.specs.List.{list_any}
use Rattle.std.specs.Str.{bytes_eq}
use Rattle.net_types.specs.declared.config.Loaded.{Loaded}
use Rattle.net_io.specs.declared.reading.FileFail.{FileFail}
use Rattle.net_io.specs.declared.reading.FileFail.TheVariants as file
use Rattle.net_io.specs.declared.reading.ReadFail.{ReadFail}
use Rattle.net_io.specs.declared.reading.ReadFail.TheVariants as read
use Rattle.net_io.specs.Files.{Told, content, path_in}
use Rattle.ios_config.specs.declared.reader.Reading.{Reading}
use Rattle.ios_config.specs.Reads.{Reads, Refused}
use Rattle.topo_links.specs.Ends.{Word}
use Rattle.topo_links.specs.Check.{host_of}
use Rattle.net_io.specs.Limits.{file_limit}
use Rattle.net_load.specs.Limits.{folder_limit}
use Rattle.net_load.specs.declared.folder.LoadFail.{LoadFail}
use Rattle.net_load.specs.declared.folder.LoadFail.TheVariants as fail
use Rattle.net_load.specs.declared.loader.Loader.{Loader}
use Rattle.net_load.specs.Numbering.{folder_names}
use Rattle.net_load.specs.Folder.{BytesFail, UnlessMemory, UnlessFault, Fits, TakenBy}

-- the hostnames are those of the files, the files are within the limit, and they have no more names than bytes
pub record IsLoader (l : Loader) : Type 0 where
  pub hosts : l.hosts ≡ map host_of l.loaded.items
  pub size : l.total ≤ folder_limit
  pub names : length (folder_names l.loaded.items) ≤ l.total

-- one more file of this size, whose hostname is new
pub record Adds (l : Loaded) (size : ℕ) (old new : Loader) : Type 0 where
  pub loaded : new.loaded.items ≡ old.loaded.items ++ l ∷ []
  pub total : new.total ≡ old.total + size
  pub host : list_any (bytes_eq (host_of l)) (map host_of old.loaded.items) ≡ false

-- the bytes of a file are one more configuration, or why not
pub record AddsBytes (name : Word) (bytes : List ℕ) (old new : Loader) (l : Loaded) : Type 0 where
  pub file : l.file ≡ name
  pub fits : Fits old.total bytes
  pub reads : Reads bytes l.config l.passed
  pub adds : Adds l (length bytes) old new

abbrev pub Accepts : {T : Type 0} → Word → Word → List ℕ → Loader → Loader → Result T LoadFail → Type 0
Accepts folder name bytes old new (Ok _) = (l : Loaded) × AddsBytes name bytes old new l
Accepts folder name bytes old new (Err e) = BytesFail folder (path_in folder name) old.total old.loaded.items bytes e

-- a file that is read is added, or its hostname is taken
abbrev pub TakenFail : Word → Word → Loader → Loaded → LoadFail → Type 0
TakenFail folder path old l (fail.HostnameTaken first second) = (second ≡ path) × TakenBy folder old.loaded.items l first
TakenFail folder path old l fail.NoMemory = Unit {0}
TakenFail folder path old l _ = ⊥

abbrev pub AddsReading : {T : Type 0} → Word → Word → Loaded → ℕ → Loader → Loader → Result T LoadFail → Type 0
AddsReading folder path l size old new (Ok _) = Adds l size old new
AddsReading folder path l size old new (Err e) = TakenFail folder path old l e

-- bytes that are read as a configuration, or refused
abbrev pub RefusedBytes : Word → List ℕ → LoadFail → Type 0
RefusedBytes path bytes (fail.Refused p r) = (p ≡ path) × Refused bytes r
RefusedBytes path bytes fail.NoMemory = Unit {0}
RefusedBytes path bytes _ = ⊥

abbrev pub ReadsBytes : Word → List ℕ → Result Reading LoadFail → Type 0
ReadsBytes path bytes (Ok r) = Reads bytes r.config r.passed
ReadsBytes path bytes (Err e) = RefusedBytes path bytes e

-- a file's bytes, or why there are none
abbrev pub NoBytes : Word → Option (List ℕ) → LoadFail → Type 0
NoBytes path None e = e ≡ fail.Absent path
NoBytes path (Some bytes) e = (e ≡ fail.TooLong path) × (file_limit < length bytes)

abbrev pub ReadsFile : {T : Type 0} → (T → List ℕ) → Told → Word → Result T LoadFail → Type 0
ReadsFile view t path (Ok x) = content t path ≡ Some (view x)
ReadsFile view t path (Err e) = UnlessMemory e (UnlessFault e path (NoBytes path (content t path) e))

-- how a read's cause becomes a folder's
abbrev pub load_fail_of : Word → ReadFail → LoadFail
load_fail_of path read.Failed = fail.Fault path
load_fail_of path read.TooLong = fail.TooLong path
load_fail_of path read.NoMemory = fail.NoMemory
load_fail_of path read.Absent = fail.Absent path

abbrev pub list_fail_of : Word → FileFail → LoadFail
list_fail_of path file.Failed = fail.Fault path
list_fail_of path file.Absent = fail.Absent path
list_fail_of path file.NoMemory = fail.NoMemory

-- no read failed
abbrev pub IsNoFault : LoadFail → Type 0
IsNoFault (fail.Fault path) = ⊥
IsNoFault _ = Unit {0}
