-- Addresses that stand twice in one network.
use Rattle.std.specs.Prelude.{ℕ, List, filter_map, Option, option_map}
use Rattle.net_types.specs.declared.config.Loaded.{Loaded}
use Rattle.topo_links.specs.declared.table.LinkLine.{LinkLine}
use Rattle.topo_links.specs.Ends.{Word}
use Rattle.topo_links.specs.Check.{dotted, least, shared_address}

-- the least address that two ends of one segment have, of all segments
abbrev pub least_twice : List Loaded → List LinkLine → Option ℕ
least_twice folder ls = least (filter_map (shared_address folder) ls)

-- the same as it is written
abbrev pub address_twice : List Loaded → List LinkLine → Option Word
address_twice folder ls = option_map dotted (least_twice folder ls)
