-- The files of the system.
use Rattle.std.specs.Prelude.{◌≡◌, ◌⊎◌, ◌+◌, ◌-◌, ◌^◌, ◌<◌, ℕ, List, Option, Some, Result, Ok, Err, length, take, map, min, string_bytes}
use Rattle.std.specs.Iterator.{Drains, YieldsThen}
use Rattle.std.specs.Fs.{dir_entry_name}
use Rattle.std.specs.Io.KnownBytes.{Consumes, IsAtEnd}
use Rattle.std.specs.declared.fs.dir.DirEntry.{DirEntry}
use Rattle.net_io.specs.declared.open_file.OpenFile.{OpenFile}
use Rattle.std.specs.IoError.{error_kind}
use Rattle.std.specs.declared.io.Error.{Error}
use Rattle.std.specs.declared.io.ErrorKind.{ErrorKind}
use Rattle.std.specs.declared.io.ErrorKind.TheVariants as kind
use Rattle.net_io.specs.declared.reading.FileFail.{FileFail}
use Rattle.net_io.specs.declared.reading.FileFail.TheVariants as file

-- how often a call failed, and the path of the last that did
pub record FaultsSoFar : Type 0 where
  pub count : ℕ
  pub last : Option (List ℕ)

-- the cause that an error of this kind is: what isn't found is absent, and every other error is a fault, but want of memory
abbrev pub fail_of : ErrorKind → FileFail
fail_of kind.NotFound = file.Absent
fail_of kind.OutOfMemory = file.NoMemory
fail_of _ = file.Failed

-- the iterator gave entries, each without an error, and then ended; the names are theirs, each one's, in the order in which they came
abbrev pub AreNamesOf : {S E R A F D : Type 0} → (S → Option (Result (DirEntry R A F D) E) → S → Type 0) → S → List (List ℕ) → Type 0
AreNamesOf {R = R} {A = A} {F = F} {D = D} steps from names = (entries : List (DirEntry R A F D)) × Drains steps from (map Ok entries) × (names ≡ map dir_entry_name entries)

-- there was no memory, or the error is the iterator's own, which gave entries without one and then this
abbrev pub StopsAt : {S R A F D : Type 0} → (S → Option (Result (DirEntry R A F D) Error) → S → Type 0) → S → Error → Type 0
StopsAt {S = S} {R = R} {A = A} {F = F} {D = D} steps from error = (error_kind error ≡ kind.OutOfMemory)
    ⊎ ((entries : List (DirEntry R A F D)) × (left : S) × YieldsThen steps from (map Ok entries) (Some (Err error)) left)

-- a read of some file gave what the room begins with: those were the next bytes that the file had left, and none only at its end
abbrev pub GivenByRead : {F : Type 0} → (F → Option (List ℕ)) → ℕ → List ℕ → Type 0
GivenByRead {F} left n room = (before : F) × (after : F) × Consumes (left before) (left after) (take n room) × (n ≡ 0 → 0 < length room → IsAtEnd (left after))

-- a place after a read: so many bytes further, in a counter of 64 bits
abbrev pub moved_on : {E : Type 0} → ℕ → Result ℕ E → ℕ
moved_on at (Ok n) = min (at + n) (2 ^ 64 - 1)
moved_on at (Err _) = at

-- the open file is that of this path, and a read of it comes to this place
abbrev pub IsOpenAt : {F : Type 0} → List ℕ → ℕ → OpenFile F → Type 0
IsOpenAt path at open-file = (string_bytes open-file.path ≡ path) × (open-file.at ≡ at)
