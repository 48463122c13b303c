-- Files in memory.
use Rattle.std.specs.Prelude.{ℕ, Bool, false, List, [], ◌∷◌, ◌++◌, Option, Some, None, ◌==◌, cond, if◌then◌else◌}
use Rattle.std.specs.Str.{bytes_eq}
use Rattle.net_io.specs.Faults.{counted}
use Rattle.net_io.specs.Files.{Told}

-- what they hold, the calls of list and read so far, the number of the call that fails, the most bytes that a read gives, the
-- faults so far, and the path of the call that failed last
pub record Store : Type 0 where
  pub told : Told
  pub calls : ℕ
  pub fails_at : Option ℕ
  pub most : Option ℕ
  pub faults : ℕ
  pub last : Option (List ℕ)

-- no files and no folders
abbrev pub empty_store : Store
empty_store = record { told = record { files = []; folders = [] }; calls = 0; fails_at = None; most = None; faults = 0; last = None }

-- these bytes at this path, in place of those that are there
abbrev pub with_file : List ℕ → List ℕ → List (List ℕ × List ℕ) → List (List ℕ × List ℕ)
with_file path bytes [] = (path, bytes) ∷ []
with_file path bytes (file ∷ files) = cond (bytes_eq file.0 path) ((path, bytes) ∷ files) (file ∷ with_file path bytes files)

-- one more folder
abbrev pub with_folder : List ℕ → Told → Told
with_folder path t = record t { folders = t.folders ++ path ∷ [] }

-- the call of this number is the one that fails
abbrev pub is_due : Option ℕ → ℕ → Bool
is_due None calls = false
is_due (Some call) calls = call == calls

-- after one more call of list or read, which is a fault where it is due
abbrev pub called : Store → Store
called s = record s { calls = counted s.calls; faults = (if is_due s.fails_at s.calls then counted s.faults else s.faults) }
