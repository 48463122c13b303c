-- A folder whose files were examined, and the one beside it.
use Rattle.std.specs.Prelude.{List, Option, map, option_map}
use denote.Ref.{Bor}
use Rattle.doctor_warnings.specs.declared.files.TextFile.{TextFile}
use Rattle.doctor_warnings.specs.declared.folder.Folder.{Folder}
use Rattle.doctor_warnings.specs.declared.network.Texts.{Texts}

abbrev pub files_in : Folder → List TextFile
files_in f = map (λ e. e.file) f.files.items

abbrev pub texts_in : Folder → Texts
texts_in f = record { path = f.path; files = files_in f; unread = f.unread }

-- the files of the other folder, where there is one
abbrev pub files_beside : Option (Bor Folder) → Option (List TextFile)
files_beside o = option_map (λ f. files_in f.now) o
