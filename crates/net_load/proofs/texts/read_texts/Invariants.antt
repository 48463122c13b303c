use Rattle.std.proofs.Common.{◌≡◌, ◌≤◌, ◌+◌, map, take, length}
use Rattle.std.specs.Prelude.{All, IfSome, string_bytes}
use Rattle.net_io.specs.Limits.{file_limit}
use Rattle.net_load.specs.Limits.{folder_limit}
use Rattle.net_load.specs.Folder.{total}
use Rattle.net_load.specs.Texts.{Holds, IsText, file_of}
use Rattle.net_load.proofs.texts.read_texts.Given as goal

abbrev pub invariant-loop-name : goal.invariant-loop-name
invariant-loop-name g l = record {
  same : g.F.Files.told l.files ≡ g.F.Files.told l.initial.files;
  later : g.F.Files.faults l.initial.files ≤ g.F.Files.faults l.files;
  are : All (IsText l.folder) l.read.items;
  count : length l.read.items ≡ l.name-index;
  names : map file_of l.read.items ≡ map string_bytes (take l.name-index l.names);
  hold : IfSome (g.F.Files.told l.initial.files) (λ t. All (Holds t l.folder) l.read.items);
  size : IfSome (g.F.Files.told l.initial.files) (λ t. l.total ≡ total t l.folder (map file_of l.read.items));
  most : l.total ≤ folder_limit + file_limit;
}
