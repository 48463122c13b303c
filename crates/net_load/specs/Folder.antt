-- How a folder of configurations is loaded, or why it isn't.
use Rattle.std.specs.Prelude.{◌≡◌, ◌↔◌, ◌⊎◌, ℕ, ◌+◌, ◌<◌, ◌≤◌, Bool, true, false, IsTrue, List, [], ◌∷◌, ◌++◌, Option, None, Some, Result, Ok, Err, IsSomeAnd, IfErr, Contains, length, map, sum_by, find, unwrap_or, nat_eq, codes}
use Rattle.std.specs.List.{AllZip, IsDistinct, ends_with}
use Rattle.std.specs.List.Sorted.{IsStrictlySortedBy}
use Rattle.std.specs.Str.{bytes_eq}
use Rattle.net_types.specs.declared.config.Loaded.{Loaded}
use Rattle.net_io.specs.Limits.{file_limit}
use Rattle.net_io.specs.Faults.{Rose, IsLast}
use Rattle.net_io.specs.Files.{Told, content, has_folder, path_in, IsNameIn}
use Rattle.ios_config.specs.Reads.{Reads, Refused}
use Rattle.topo_links.specs.Ends.{Word}
use Rattle.topo_links.specs.Names.{name_cmp}
use Rattle.topo_links.specs.Check.{host_of}
use Rattle.net_load.specs.Limits.{files_limit, folder_limit}
use Rattle.net_load.specs.declared.folder.LoadFail.{LoadFail}
use Rattle.net_load.specs.declared.folder.LoadFail.TheVariants as fail

-- only files whose names end so are configurations
abbrev pub is_config_name : Word → Bool
is_config_name name = ends_with nat_eq name (codes ".cfg")

-- the names of the folder's configurations, in the order of their bytes
pub record AreConfigNames (t : Told) (folder : Word) (names : List Word) : Type 0 where
  pub order : IsStrictlySortedBy name_cmp names
  pub all : (name : Word) → Contains names name ↔ IsNameIn t folder name × IsTrue (is_config_name name)

-- the bytes of a file, and how many there are in several files
abbrev pub file_at : Told → Word → Word → Option (List ℕ)
file_at t folder name = content t (path_in folder name)

-- how many bytes a file has
abbrev pub size_at : Told → Word → Word → ℕ
size_at t folder name = length (unwrap_or (file_at t folder name) [])

-- how many several files have
abbrev pub total : Told → Word → List Word → ℕ
total t folder names = sum_by (size_at t folder) names

-- a file that is read as a configuration
pub record IsRead (t : Told) (folder : Word) (name : Word) (l : Loaded) : Type 0 where
  pub file : l.file ≡ name
  pub read : IsSomeAnd (file_at t folder name) (λ bytes. Reads bytes l.config l.passed)
  pub size : size_at t folder name ≤ file_limit

-- the files of these names are loaded: each is read, all are together within the limit, and no hostname stands twice
pub record AreLoaded (t : Told) (folder : Word) (names : List Word) (loaded : List Loaded) : Type 0 where
  pub each : AllZip (IsRead t folder) names loaded
  pub size : total t folder names ≤ folder_limit
  pub hosts : IsDistinct bytes_eq (map host_of loaded)

-- the earlier file whose hostname is that of l
abbrev pub TakenBy : Word → List Loaded → Loaded → Word → Type 0
TakenBy folder loaded l path = (other : Loaded) × (find (λ o. bytes_eq (host_of l) (host_of o)) loaded ≡ Some other) × (path ≡ path_in folder other.file)

-- faults and want of memory may come at any time
abbrev pub Unless : LoadFail → Type 0 → Type 0
Unless (fail.Fault path) claim = Unit {0}
Unless fail.NoMemory claim = Unit {0}
Unless _ claim = claim

-- want of memory may come at any time
abbrev pub UnlessMemory : LoadFail → Type 0 → Type 0
UnlessMemory fail.NoMemory claim = Unit {0}
UnlessMemory _ claim = claim

-- a fault may come in place of another cause, and names the path of the call that failed
abbrev pub UnlessFault : LoadFail → Word → Type 0 → Type 0
UnlessFault (fail.Fault p) path claim = p ≡ path
UnlessFault _ path claim = claim

-- the bytes fit into the limits, behind files of so many bytes
abbrev pub Fits : ℕ → List ℕ → Type 0
Fits sum bytes = (length bytes ≤ file_limit) × (sum + length bytes ≤ folder_limit)

-- why these bytes of the file at a path aren't loaded, behind files of so many bytes that are: the first cause that holds
abbrev pub BytesFail : Word → Word → ℕ → List Loaded → List ℕ → LoadFail → Type 0
BytesFail folder path sum loaded bytes (fail.TooLong p) = (p ≡ path) × (file_limit < length bytes)
BytesFail folder path sum loaded bytes (fail.FolderTooLong p) = (p ≡ folder) × (length bytes ≤ file_limit) × (folder_limit < sum + length bytes)
BytesFail folder path sum loaded bytes (fail.Refused p r) = (p ≡ path) × Fits sum bytes × Refused bytes r
BytesFail folder path sum loaded bytes (fail.HostnameTaken first second) =
    (second ≡ path) × Fits sum bytes × ((l : Loaded) × Reads bytes l.config l.passed × TakenBy folder loaded l first)
BytesFail folder path sum loaded bytes (fail.Absent p) = ⊥
BytesFail folder path sum loaded bytes (fail.TooManyFiles p) = ⊥
BytesFail folder path sum loaded bytes (fail.Fault p) = ⊥
BytesFail folder path sum loaded bytes fail.NoMemory = Unit {0}

-- why a file isn't loaded: it isn't there when it is read, or its bytes aren't a configuration that is taken
abbrev pub ContentFails : Word → Word → ℕ → List Loaded → Option (List ℕ) → LoadFail → Type 0
ContentFails folder path sum loaded None e = e ≡ fail.Absent path
ContentFails folder path sum loaded (Some bytes) e = BytesFail folder path sum loaded bytes e

-- why a file of this name isn't loaded
abbrev pub FileFails : Told → Word → ℕ → List Loaded → Word → LoadFail → Type 0
FileFails t folder sum loaded name e =
    UnlessFault e (path_in folder name) (ContentFails folder (path_in folder name) sum loaded (file_at t folder name) e)

-- the files before one are loaded, and that one isn't
pub record FailsAt (t : Told) (folder : Word) (names : List Word) (e : LoadFail) : Type 0 where
  pub before : List Word
  pub name : Word
  pub after : List Word
  pub split : names ≡ before ++ name ∷ after
  pub loaded : List Loaded
  pub done : AreLoaded t folder before loaded
  pub cause : FileFails t folder (total t folder before) loaded name e

-- the files of these names are loaded, or the first cause why not
abbrev pub LoadsNames : {T : Type 0} → (T → List Loaded) → Told → Word → List Word → Result T LoadFail → Type 0
LoadsNames view t folder names (Ok x) = AreLoaded t folder names (view x)
LoadsNames view t folder names (Err e) = UnlessMemory e (FailsAt t folder names e)

-- why the names of the folder's configurations can't be had
abbrev pub NoFolder : Told → Word → LoadFail → Type 0
NoFolder t folder (fail.Absent p) = (p ≡ folder) × (has_folder t folder ≡ false)
NoFolder t folder (fail.Fault p) = p ≡ folder
NoFolder t folder _ = ⊥

-- a listing, or why there is none
abbrev pub Lists : {T : Type 0} → (T → List Word) → Told → Word → Result T LoadFail → Type 0
Lists view t folder (Ok x) = (has_folder t folder ≡ true) × AreConfigNames t folder (view x)
Lists view t folder (Err e) = UnlessMemory e (NoFolder t folder e)

-- the listing has too many names of configurations
abbrev pub TooMany : Word → List Word → LoadFail → Type 0
TooMany folder names (fail.TooManyFiles p) = (p ≡ folder) × (files_limit < length names)
TooMany folder names _ = ⊥

-- *Loaded*: the folder's configurations in the order of their names, each read; or the first cause why not. The causes
-- come in this order: the folder isn't there; too many names; and then file by file.
abbrev pub Stages : Told → Word → List Word → LoadFail → Type 0
Stages t folder names e = TooMany folder names e ⊎ ((length names ≤ files_limit) × FailsAt t folder names e)

-- a folder is loaded, or not
abbrev pub Loads : {T : Type 0} → (T → List Loaded) → Told → Word → Result T LoadFail → Type 0
Loads view t folder (Ok x) =
    (has_folder t folder ≡ true) × ((names : List Word) × AreConfigNames t folder names × (length names ≤ files_limit) × AreLoaded t folder names (view x))
Loads view t folder (Err e) =
    UnlessMemory e (NoFolder t folder e ⊎ ((has_folder t folder ≡ true) × ((names : List Word) × AreConfigNames t folder names × Stages t folder names e)))

-- the count of faults never falls, and has risen where the answer is a fault
abbrev pub FaultRose : LoadFail → ℕ → ℕ → Type 0
FaultRose (fail.Fault p) before now = Rose before now
FaultRose _ before now = Unit {0}

-- the same of an answer that may be Ok
pub record HasCause {T : Type 0} (before now : ℕ) (result : Result T LoadFail) : Type 0 where
  pub later : before ≤ now
  pub fault : IfErr result (λ e. FaultRose e before now)

-- the path of a fault is that of the call that failed last, where that is told
abbrev pub NamesLast : LoadFail → Option Word → Type 0
NamesLast (fail.Fault p) last = IsLast p last
NamesLast _ last = Unit {0}
