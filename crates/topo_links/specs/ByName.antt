-- Things by their names.
use Rattle.std.specs.Prelude.{◌≡◌, Bool, List, map, find}
use Rattle.std.specs.Str.{bytes_eq}
use Rattle.topo_links.specs.declared.by_name.ByName.{ByName}
use Rattle.topo_links.specs.Ends.{Word}

-- the thing has this name
abbrev pub is_named : {T : Type 0} → (T → Word) → Word → T → Bool
is_named name_of n x = bytes_eq n (name_of x)

-- the firsts of each name, in the order of their names
abbrev pub firsts_of : {T : Type 0} → ByName T → List T
firsts_of b = map (λ r. r.now) b.firsts.items

-- each name is there with the first that has it
pub record IsByName {T : Type 0} (name_of : T → Word) (b : ByName T) : Type 0 where
  pub names : b.names ≡ map name_of (firsts_of b)
  pub finds : (n : Word) → find (is_named name_of n) (firsts_of b) ≡ find (is_named name_of n) b.items.now
