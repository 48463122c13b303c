-- The two networks and their links, over the names in the order of their bytes.
use Rattle.std.specs.Prelude.{ℕ, ◌+◌, ◌-◌, Bool, true, false, List, [], ◌∷◌, ◌++◌, map, codes}
use Rattle.net_types.specs.declared.config.Loaded.{Loaded}
use Rattle.topo_links.specs.declared.table.LinkKind.TheVariants as kind
use Rattle.topo_links.specs.declared.table.LinkLine.{LinkLine}
use Rattle.topo_links.specs.declared.table.LinkTable.{LinkTable}
use Rattle.net_load.specs.declared.numbering.Numbered.{Numbered}
use Rattle.net_load.specs.Numbering.{numbered_of}
use Rattle.net_gen.specs.Devices.{numbers, name, device}

-- the devices of a network, as read from files of their names
abbrev pub file : Bool → ℕ → ℕ → ℕ → Loaded
file new number n j = record { file = name j; config = device new number n j; passed = 0 }

abbrev pub files : Bool → ℕ → ℕ → List Loaded
files new number n = map (file new number n) (numbers n)

-- `p2p Rj Ethernet1 Rk Ethernet0`, for the device k behind j
abbrev pub link : ℕ → LinkLine
link j = record { line = j; kind = kind.P2p; ends = (name j, codes "Ethernet1") ∷ (name (j + 1), codes "Ethernet0") ∷ [] }

-- `ingress Rj Ethernet2`
abbrev pub ingress : ℕ → ℕ → LinkLine
ingress line j = record { line = line; kind = kind.Ingress; ends = (name j, codes "Ethernet2") ∷ [] }

abbrev pub table : ℕ → LinkTable
table n = record { lines = map link (numbers (n - 1)) ++ ingress n 1 ∷ ingress (n + 1) n ∷ [] }

-- the old and the new network of this number and size
abbrev pub networks : ℕ → ℕ → Numbered
networks number n = numbered_of (files false number n) (files true number n) (table n) []
