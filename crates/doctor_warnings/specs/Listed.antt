-- All lines that are passed over, as they are listed.
use Rattle.std.specs.Prelude.{ℕ, Bool, List, [], ◌++◌, Option, Some, None, map, if◌then◌else◌}
use Rattle.std.specs.List.{flat_map}
use Rattle.net_io.specs.Files.{path_in}
use Rattle.look_alikes.specs.Naming.{counted_by}
use Rattle.doctor_warnings.specs.declared.files.TextFile.{TextFile}
use Rattle.doctor_warnings.specs.declared.listing.ListedLine.{ListedLine}
use Rattle.doctor_warnings.specs.declared.network.Subject.{Subject}
use Rattle.doctor_warnings.specs.declared.network.Texts.{Texts}
use Rattle.doctor_warnings.specs.declared.told.ToldLine.{ToldLine}
use Rattle.doctor_warnings.specs.Told.{told_lines, told_text}

abbrev pub listed_line : List ℕ → List ℕ → ToldLine → ListedLine
listed_line path bytes t = record { path = path; line = t.number; words = counted_by t.mode (told_text bytes t); text = told_text bytes t }

-- exactly the lines of a file that are passed over
abbrev pub file_lines : List ℕ → TextFile → List ListedLine
file_lines folder f = map (listed_line (path_in folder f.name) f.bytes) (told_lines f.bytes)

abbrev pub folder_lines : Texts → List ListedLine
folder_lines t = flat_map (file_lines t.path) t.files

abbrev pub lines_if_any : Option Texts → List ListedLine
lines_if_any None = []
lines_if_any (Some t) = folder_lines t

-- those of a folder and of another one, where all are asked for
abbrev pub listed_if : Bool → Texts → Option Texts → List ListedLine
listed_if all old new = if all then folder_lines old ++ lines_if_any new else []

-- *the listed lines*: exactly those of both folders that are passed over, where all are asked for
abbrev pub listed : Subject → List ListedLine
listed s = if s.all then folder_lines s.old ++ lines_if_any s.new else []
