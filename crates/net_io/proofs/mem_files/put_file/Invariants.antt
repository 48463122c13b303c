use Rattle.std.proofs.Common.{◌≡◌, ◌++◌, take, drop, string_bytes}
use Rattle.net_io.specs.Store.{with_file}
use Rattle.net_io.specs.MemFiles.{entries}
use Rattle.net_io.proofs.mem_files.put_file.Given as goal

-- none of the files so far is at the path
abbrev pub invariant-loop-i : goal.invariant-loop-i
invariant-loop-i l = record {
  same : l.files.items ≡ l.initial.files.items;
  left : with_file (string_bytes l.path) l.bytes.items (entries l.files.items) ≡ entries (take l.i l.files.items) ++ with_file (string_bytes l.path) l.bytes.items (entries (drop l.i l.files.items));
}
