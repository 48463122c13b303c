-- The texts of a folder's files, and what they are read as.
use Rattle.std.specs.Prelude.{Vec, ◌≡◌, ◌⊎◌, ℕ, true, ◌<◌, ◌≤◌, List, [], ◌∷◌, ◌++◌, Option, None, Some, Result, Ok, Err, All, IfOk, length, map, slice_get}
use Rattle.std.specs.Global.{Global}
use Rattle.net_io.specs.Limits.{file_limit}
use Rattle.net_io.specs.Files.{Told, content, has_folder, path_in}
use Rattle.ios_config.specs.declared.reader.Reading.{Reading}
use Rattle.topo_links.specs.Ends.{Word}
use Rattle.net_load.specs.Limits.{files_limit, folder_limit}
use Rattle.net_load.specs.Numbering.{config_names}
use Rattle.net_load.specs.declared.folder.LoadFail.{LoadFail}
use Rattle.net_load.specs.declared.texts.FileText.{FileText}
use Rattle.net_load.specs.declared.texts.Texts.{Texts}
use Rattle.net_load.specs.declared.readings.ReadAt.{ReadAt}
use Rattle.net_load.specs.Folder.{AreConfigNames, NoFolder, TooMany, total, UnlessMemory, UnlessFault}
use Rattle.net_load.specs.Loader.{NoBytes, ReadsBytes}

abbrev pub file_of : FileText → Word
file_of x = x.file

-- a file of a folder, and what is known of it also where nothing is told
pub record IsText (folder : Word) (x : FileText) : Type 0 where
  pub path : x.path ≡ path_in folder x.file
  pub size : length x.bytes.items ≤ file_limit

abbrev pub AreSmall : List FileText → Type 0
AreSmall texts = All (λ x. length x.bytes.items ≤ file_limit) texts

-- the file has these bytes
abbrev pub Holds : Told → Word → FileText → Type 0
Holds t folder x = content t (path_in folder x.file) ≡ Some x.bytes.items

-- why a file has no text
abbrev pub NoText : Told → Word → Word → LoadFail → Type 0
NoText t folder name e = UnlessFault e (path_in folder name) (NoBytes (path_in folder name) (content t (path_in folder name)) e)

-- the text of a file, or why there is none
abbrev pub GivesText : Told → Word → Word → Result FileText LoadFail → Type 0
GivesText t folder name (Ok x) = (x.file ≡ name) × Holds t folder x
GivesText t folder name (Err e) = UnlessMemory e (NoText t folder name e)

-- which of the names were read: all of them, or so many that they are too long together; or those before one that has no text
abbrev pub AreRead : Told → Word → List Word → List Word → Option LoadFail → Type 0
AreRead t folder names read None = (rest : List Word) × (names ≡ read ++ rest) × ((rest ≡ []) ⊎ (folder_limit < total t folder read))
AreRead t folder names read (Some e) = (name : Word) × (rest : List Word) × (names ≡ read ++ name ∷ rest) × UnlessMemory e (NoText t folder name e)

-- the texts of the first of these files, and why there are no more
pub record AreTexts (t : Told) (folder : Word) (names : List Word) (texts : Texts) : Type 0 where
  pub hold : All (Holds t folder) texts.read.items
  pub read : AreRead t folder names (map file_of texts.read.items) texts.stopped

-- the texts of a folder's configurations, or why there are none
abbrev pub GivesTexts : Told → Word → Result Texts LoadFail → Type 0
GivesTexts t folder (Ok texts) = (has_folder t folder ≡ true) × ((names : List Word) × AreConfigNames t folder names × (length names ≤ files_limit) × AreTexts t folder names texts)
GivesTexts t folder (Err e) = UnlessMemory e (NoFolder t folder e ⊎ ((has_folder t folder ≡ true) × ((names : List Word) × AreConfigNames t folder names × TooMany folder names e)))

-- ---- what texts are read as

pub record ReadsText (x : FileText) (r : Result Reading LoadFail) : Type 0 where
  pub reads : ReadsBytes x.path x.bytes.items r
  pub names : IfOk r (λ k. length (config_names k.config) ≤ length x.bytes.items)

-- where something is known of the text at a position, that is what it is read as
abbrev pub AreReadings : List FileText → List (Option (Result Reading LoadFail)) → Type 0
AreReadings texts known = (n : ℕ) (x : FileText) (r : Result Reading LoadFail) → slice_get texts n ≡ Some x → slice_get known n ≡ Some (Some r) → ReadsText x r

-- what the text at this position is read as
abbrev pub IsReadAt : List FileText → ReadAt → Type 0
IsReadAt texts r = (x : FileText) → slice_get texts r.at ≡ Some x → ReadsText x r.reading

-- what a worker read, if it had memory for that
abbrev pub IsShareOf : List FileText → Option (Vec ReadAt Global) → Type 0
IsShareOf texts None = Unit {0}
IsShareOf texts (Some share) = All (IsReadAt texts) share.items

-- what is taken was known there, and all that is known still was known before
pub record TakesAt {X : Type 0} (at : ℕ) (old new : List (Option X)) (result : Option X) : Type 0 where
  pub taken : (x : X) → result ≡ Some x → slice_get old at ≡ Some (Some x)
  pub kept : (n : ℕ) (x : X) → slice_get new n ≡ Some (Some x) → slice_get old n ≡ Some (Some x)
