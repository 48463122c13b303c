-- The texts of a folder's configurations, read, or why the job stops there.
use Rattle.std.specs.Prelude.{◌≡◌, ◌↔◌, ℕ, ◌+◌, ◌<◌, ◌≤◌, Bool, true, false, not, ◌&&◌, ◌==◌, List, [], ◌∷◌, ◌++◌, sum_by, Some, Result, Ok, Err, Contains, length}
use Rattle.std.specs.List.Sorted.{IsStrictlySortedBy}
use Rattle.net_io.specs.Files.{Told, content, has_folder, path_in, IsNameIn}
use Rattle.net_load.specs.Limits.{files_limit, folder_limit}
use Rattle.net_load.specs.Folder.{is_config_name, AreConfigNames}
use Rattle.topo_links.specs.Names.{name_cmp}
use Rattle.doctor_warnings.specs.declared.files.TextFile.{TextFile}
use Rattle.doctor_warnings.specs.declared.network.Texts.{Texts}
use Rattle.doctor_warnings.specs.declared.files.TextAt.{TextAt}
use Rattle.job_core.specs.declared.stop.Stop.{Stop}
use Rattle.job_core.specs.declared.stop.Stop.TheVariants as stop
use Rattle.job_core.specs.Steps.{Then, GivesBytes, UnreadFile}

-- ---- names

-- why the names of the folder's configurations can't be had, or are too many
abbrev pub NoNames : Told → List ℕ → Stop → Type 0
NoNames t folder (stop.NotFound p) = (p ≡ folder) × (has_folder t folder ≡ false)
NoNames t folder (stop.CannotRead p) = p ≡ folder
NoNames t folder (stop.TooManyFiles p) = (p ≡ folder) × ((names : List (List ℕ)) × AreConfigNames t folder names × (files_limit < length names))
NoNames t folder stop.NoMemory = Unit {0}
NoNames t folder _ = ⊥

-- the names of the folder's configurations in the order of their bytes
abbrev pub GivesNames : {T : Type 0} → (T → List (List ℕ)) → Told → List ℕ → Result T Stop → Type 0
GivesNames view t folder (Ok x) = (has_folder t folder ≡ true) × AreConfigNames t folder (view x) × (length (view x) ≤ files_limit)
GivesNames view t folder (Err s) = NoNames t folder s

-- ---- texts

-- how many bytes files have
abbrev pub total : List TextFile → ℕ
total files = sum_by (λ f. length f.bytes) files

-- a file of these bytes, behind files of so many, within the limit of a folder
abbrev pub IsFile : List ℕ → List ℕ → ℕ → List ℕ → Result TextFile Stop → Type 0
IsFile folder name sum bytes (Ok f) = (f.name ≡ name) × (f.bytes ≡ bytes) × (sum + length bytes ≤ folder_limit)
IsFile folder name sum bytes (Err (stop.TooLong p)) = (p ≡ folder) × (folder_limit < sum + length bytes)
IsFile folder name sum bytes (Err stop.NoMemory) = Unit {0}
IsFile folder name sum bytes (Err _) = ⊥

abbrev pub GivesFile : Told → List ℕ → List ℕ → ℕ → Result TextFile Stop → Type 0
GivesFile t folder name sum = Then (GivesBytes (λ bytes. bytes) (path_in folder name) (content t (path_in folder name))) (IsFile folder name sum)

-- these files, or that there was no memory
abbrev pub AreGiven : List TextFile → Result (List TextFile) Stop → Type 0
AreGiven files (Ok given) = given ≡ files
AreGiven files (Err stop.NoMemory) = Unit {0}
AreGiven files (Err _) = ⊥

-- the files of these names, behind files that are read
abbrev pub GivesFrom : Told → List ℕ → List TextFile → List (List ℕ) → Result (List TextFile) Stop → Type 0
GivesFrom t folder read [] result = AreGiven read result
GivesFrom t folder read (name ∷ names) result = Then (GivesFile t folder name (total read)) (λ f. GivesFrom t folder (read ++ f ∷ []) names) result

abbrev pub GivesFiles : Told → List ℕ → List (List ℕ) → Result (List TextFile) Stop → Type 0
GivesFiles t folder names = GivesFrom t folder [] names

-- the files of a folder one after the other
abbrev pub GivesAll : Told → List ℕ → Result (List TextFile) Stop → Type 0
GivesAll t folder = Then (GivesNames (λ names. names) t folder) (GivesFiles t folder)

-- ---- other files

-- names that begin with a dot are those of hidden files
abbrev pub is_hidden : List ℕ → Bool
is_hidden [] = false
is_hidden (b ∷ name) = b == 46

-- a file that isn't read, and isn't hidden
abbrev pub is_other : List ℕ → Bool
is_other name = not (is_config_name name) && not (is_hidden name)

-- the names of the folder's other files, in the order of their bytes
pub record AreOthers (t : Told) (folder : List ℕ) (names : List (List ℕ)) : Type 0 where
  pub order : IsStrictlySortedBy name_cmp names
  pub all : (name : List ℕ) → Contains names name ↔ IsNameIn t folder name × (is_other name ≡ true)

-- why the folder can't be listed
abbrev pub Unlisted : Told → List ℕ → Stop → Type 0
Unlisted t folder (stop.NotFound p) = (p ≡ folder) × (has_folder t folder ≡ false)
Unlisted t folder (stop.CannotRead p) = p ≡ folder
Unlisted t folder stop.NoMemory = Unit {0}
Unlisted t folder _ = ⊥

abbrev pub GivesOthers : Told → List ℕ → Result (List (List ℕ)) Stop → Type 0
GivesOthers t folder (Ok names) = AreOthers t folder names
GivesOthers t folder (Err s) = Unlisted t folder s

-- ---- folders

-- the folder with these files, or that there was no memory to name it
abbrev pub IsFolder : List ℕ → List TextFile → List (List ℕ) → Result Texts Stop → Type 0
IsFolder folder files others (Ok texts) = (texts.path ≡ folder) × (texts.files ≡ files) × (texts.unread ≡ others)
IsFolder folder files others (Err stop.NoMemory) = Unit {0}
IsFolder folder files others (Err _) = ⊥

-- the files that are read, and then the names of the others
abbrev pub GivesWith : Told → List ℕ → List TextFile → Result Texts Stop → Type 0
GivesWith t folder files = Then (GivesOthers t folder) (IsFolder folder files)

abbrev pub GivesTexts : Told → List ℕ → Result Texts Stop → Type 0
GivesTexts t folder = Then (GivesAll t folder) (GivesWith t folder)

-- ---- a file by itself

abbrev pub GivesTextAt : Told → List ℕ → Result TextAt Stop → Type 0
GivesTextAt t path (Ok x) = (x.path ≡ path) × (content t path ≡ Some x.bytes)
GivesTextAt t path (Err s) = UnreadFile path (content t path) s
