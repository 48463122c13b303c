-- A file put in place of another.
use Rattle.std.proofs.Common.{◌≡◌, ℕ, zero, suc, ◌<◌, ◌++◌, List, [], ◌∷◌, length, get_or, take, drop, slice_set, true, string_bytes, ap, arith}
use Rattle.std.specs.Str.{bytes_eq}
use Rattle.net_io.specs.declared.mem_files.MemFile.{MemFile}
use Rattle.net_io.specs.Store.{with_file}
use Rattle.net_io.specs.MemFiles.{entries}

pub put_at : (files : List MemFile) (i : ℕ) (r x : MemFile) → i < length files → x ≡ get_or files i x → bytes_eq (string_bytes x.path) (string_bytes r.path) ≡ true → entries (take i files) ++ with_file (string_bytes r.path) r.bytes.items (entries (drop i files)) ≡ entries (slice_set files i r)
put_at [] i r x inside here same = absurd (omega arith)
put_at (f ∷ files) zero r x inside here same = rw (← here, same)
put_at (f ∷ files) (suc i) r x inside here same = ap (λ l. (string_bytes f.path, f.bytes.items) ∷ l) (put_at files i r x (omega arith) here same)
