-- What files hold, and what may be read of them.
use Rattle.std.specs.Prelude.{◌≡◌, ◌≢◌, ◌↔◌, ℕ, Bool, IsTrue, List, ◌∷◌, ◌++◌, Option, Result, IsErrOf, IfOk, IsSome, Contains, AllPairs, take, drop, find, option_map, not, ◌==◌}
use Rattle.std.specs.List.{list_any}
use Rattle.std.specs.Str.{bytes_eq}
use Rattle.net_io.specs.declared.reading.FileFail.{FileFail}
use Rattle.net_io.specs.declared.reading.FileFail.TheVariants.{Absent}

-- a map from paths to bytes, of which the first entry of a path counts, and the folders that exist
pub record Told : Type 0 where
  pub files : List (List ℕ × List ℕ)
  pub folders : List (List ℕ)

-- the bytes at a path
abbrev pub content : Told → List ℕ → Option (List ℕ)
content t path = option_map (λ file. file.1) (find (λ file. bytes_eq file.0 path) t.files)

-- the folder exists
abbrev pub has_folder : Told → List ℕ → Bool
has_folder t path = list_any (bytes_eq path) t.folders

-- the code of '/'
abbrev pub slash : ℕ
slash = 47

-- a name has no '/'
abbrev pub is_name : List ℕ → Bool
is_name name = not (list_any (λ c. c == slash) name)

-- the path of a name in a folder, FOLDER/NAME
abbrev pub path_in : List ℕ → List ℕ → List ℕ
path_in folder name = folder ++ slash ∷ name

-- a name in the folder: a file is at FOLDER/NAME
pub record IsNameIn (t : Told) (folder name : List ℕ) : Type 0 where
  pub plain : IsTrue (is_name name)
  pub there : IsSome (content t (path_in folder name))

-- the names in the folder, each once, in any order
pub record IsListing (t : Told) (folder : List ℕ) (names : List (List ℕ)) : Type 0 where
  pub once : AllPairs (λ a b. a ≢ b) names
  pub all : (name : List ℕ) → Contains names name ↔ IsNameIn t folder name

-- the first n bytes of the room are those of the file from a place on; none are left past its end
abbrev pub IsPiece : List ℕ → ℕ → List ℕ → ℕ → Type 0
IsPiece bytes at room n = take n room ≡ take n (drop at bytes)

-- Absent comes only where it isn't there, and Ok only where it is
pub record IsAbsentUnless {T : Type 0} (there : Type 0) (result : Result T FileFail) : Type 0 where
  pub absent : IsErrOf result Absent → there → ⊥
  pub ok : IfOk result (λ _. there)
