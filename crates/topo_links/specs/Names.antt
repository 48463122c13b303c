-- Names, each once.
use Rattle.std.specs.Prelude.{List, [], ◌∷◌, ◌++◌, fold, if◌then◌else◌}
use Rattle.std.specs.List.{list_any}
use Rattle.std.specs.Str.{bytes_eq}
use Rattle.std.specs.Cmp.Lexicographic.{slice_cmp}
use Rattle.std.specs.Ordering.{nat_cmp}
use Rattle.std.specs.declared.cmp.Ordering.{Ordering}
use Rattle.net_types.specs.Order.{in_order}
use Rattle.topo_links.specs.Ends.{Word}

-- a name that isn't there yet comes last
abbrev pub add_name : List Word → Word → List Word
add_name names n = if list_any (bytes_eq n) names then names else names ++ n ∷ []

abbrev pub add_names : List Word → List Word → List Word
add_names names ns = fold add_name names ns

-- the order of names is that of their bytes
abbrev pub name_cmp : Word → Word → Ordering
name_cmp = slice_cmp nat_cmp

-- the names in order, each once
abbrev pub sorted_names : List Word → List Word
sorted_names names = in_order name_cmp names
