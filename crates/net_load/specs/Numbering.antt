-- Networks and links with numbers in place of names: a name's number is its place among all names in order.
use Rattle.std.specs.Prelude.{ℕ, true, false, not, List, [], ◌∷◌, ◌++◌, map, filter, flat_map, position, unwrap_or, length, ◌+◌}
use Rattle.std.specs.List.{list_any}
use Rattle.std.specs.Str.{bytes_eq}
use Rattle.std.proofs.lemmas.List.{length-map}
use Rattle.net_types.specs.World.{same_place}
use Rattle.net_types.specs.declared.config.Config.{Config}
use Rattle.net_types.specs.declared.config.Loaded.{Loaded}
use Rattle.net_types.specs.declared.network.Place.{Place}
use Rattle.net_types.specs.declared.network.NetDevice.{NetDevice}
use Rattle.net_types.specs.declared.network.Network.{Network}
use Rattle.net_types.specs.declared.network.Segment.{Segment}
use Rattle.net_types.specs.declared.network.Links.{Links}
use Rattle.topo_links.specs.declared.table.LinkKind.TheVariants as kind
use Rattle.topo_links.specs.declared.table.LinkLine.{LinkLine}
use Rattle.topo_links.specs.declared.table.LinkTable.{LinkTable}
use Rattle.topo_links.specs.Ends.{Word, End}
use Rattle.topo_links.specs.Names.{sorted_names}
use Rattle.topo_links.specs.Table.{ingress_part, table_names}
use Rattle.net_load.specs.declared.numbering.Numbered.{Numbered}
use Rattle.net_load.specs.declared.numbering.NumberedBoth.{NumberedBoth}

-- the names of a network: of each device its hostname and its interface names
abbrev pub config_names : Config → List Word
config_names c = c.hostname ∷ map (λ i. i.name) c.interfaces

abbrev pub folder_names : List Loaded → List Word
folder_names ls = flat_map (λ l. config_names l.config) ls

-- all names, as often as they are written
abbrev pub all_names : List Loaded → List Loaded → LinkTable → List Word → List Word
all_names old new t extra = ((folder_names old ++ folder_names new) ++ table_names t) ++ extra

-- how many that are
abbrev pub count_names : List Loaded → List Loaded → LinkTable → List Word → ℕ
count_names old new t extra = length (folder_names old) + length (folder_names new) + length (table_names t) + length extra

-- all names in the order of their bytes, each once
abbrev pub names_of : List Loaded → List Loaded → LinkTable → List Word → List Word
names_of old new t extra = sorted_names (all_names old new t extra)

-- the number of a name: its place
abbrev pub number_of : List Word → Word → ℕ
number_of names n = unwrap_or (position (bytes_eq n) names) 0

-- a device with its configuration as it stands
abbrev pub device_of : List Word → Loaded → NetDevice
device_of names l = record {
  name = number_of names l.config.hostname;
  config = l.config;
  numbers = map (λ i. number_of names i.name) l.config.interfaces;
  numbered = length-map l.config.interfaces (λ i. number_of names i.name);
}

-- the devices in the order of their files
abbrev pub network_of : List Word → List Loaded → Network
network_of names ls = record { devices = map (device_of names) ls }

abbrev pub place_of : List Word → End → Place
place_of names e = record { device = number_of names e.0; interface = number_of names e.1 }

abbrev pub places_of : List Word → List End → List Place
places_of names ends = map (place_of names) ends

-- the segments of a line: itself, where it is none for packets to enter
abbrev pub segments_of : List Word → LinkLine → List Segment
segments_of names l = elim (l.kind) [
  | kind.P2p ↦ record { lan = false; ends = places_of names l.ends } ∷ []
  | kind.Lan ↦ record { lan = true; ends = places_of names l.ends } ∷ []
  | kind.Ingress ↦ []
]

-- the places that a line names as an ingress
abbrev pub ingress_of : List Word → LinkLine → List Place
ingress_of names l = places_of names (ingress_part l.kind l.ends)

-- the segments and the ingresses in the order of the table
abbrev pub links_of : List Word → LinkTable → Links
links_of names t = record {
  segments = flat_map (segments_of names) t.lines;
  ingress = flat_map (ingress_of names) t.lines;
}

-- everything over the same names
abbrev pub numbered_with : List Word → List Loaded → List Loaded → LinkTable → Numbered
numbered_with names old new t = record {
  names = record { texts = names };
  old = network_of names old;
  new = network_of names new;
  links = links_of names t;
}

abbrev pub numbered_of : List Loaded → List Loaded → LinkTable → List Word → Numbered
numbered_of old new t extra = numbered_with (names_of old new t extra) old new t

-- ---- where each network has a link table of its own

-- the names of the new network's table come among the further ones
abbrev pub extra_names : LinkTable → List Word → List Word
extra_names new_table extra = table_names new_table ++ extra

-- the places that aren't named
abbrev pub unnamed : List Place → List Place → List Place
unnamed names places = filter (λ p. not (list_any (same_place p) names)) places

-- the ingresses of the old links in their order, then those that the new links alone name, in their order
abbrev pub all_ingresses : List Place → List Place → List Place
all_ingresses old new = old ++ unnamed old new

abbrev pub numbered_both_with : List Word → List Loaded → List Loaded → LinkTable → LinkTable → NumberedBoth
numbered_both_with names old new t u = record {
  names = record { texts = names };
  old = network_of names old;
  new = network_of names new;
  old_links = links_of names t;
  new_links = links_of names u;
  ingress = all_ingresses (flat_map (ingress_of names) t.lines) (flat_map (ingress_of names) u.lines);
}

abbrev pub numbered_both : List Loaded → List Loaded → LinkTable → LinkTable → List Word → NumberedBoth
numbered_both old new t u extra = numbered_both_with (names_of old new t (extra_names u extra)) old new t u
