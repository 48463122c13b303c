-- Names cut out of paths.
use Rattle.std.specs.Prelude.{ℕ, List, [], ◌∷◌, Option, Some, None, length, drop, filter_map, map, nat_eq, ◌==◌, option_and_then, if◌then◌else◌}
use Rattle.std.specs.List.{list_any, starts_with}
use Rattle.net_io.specs.Files.{Told, slash}

-- what stands after the folder
abbrev pub after_folder : List ℕ → List ℕ → Option (List ℕ)
after_folder folder path = if starts_with nat_eq path folder then Some (drop (length folder) path) else None

-- what stands after a '/'
abbrev pub after_slash : List ℕ → Option (List ℕ)
after_slash [] = None
after_slash (c ∷ name) = if c == slash then Some name else None

-- a name without '/'
abbrev pub plain_name : List ℕ → Option (List ℕ)
plain_name name = if list_any (λ c. c == slash) name then None else Some name

-- the name of a path that lies in this folder itself
abbrev pub name_in : List ℕ → List ℕ → Option (List ℕ)
name_in folder path = option_and_then plain_name (option_and_then after_slash (after_folder folder path))

-- the names in a folder, in the order of the map
abbrev pub names_in : Told → List ℕ → List (List ℕ)
names_in t folder = filter_map (name_in folder) (map (λ file. file.0) t.files)
