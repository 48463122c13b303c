-- How the configurations of a network are told.
use Rattle.std.specs.Prelude.{ℕ, List, ◌++◌, length, codes, decimal}
use Rattle.std.specs.List.{flat_map, sum_by}
use Rattle.net_types.specs.declared.config.AccessList.{AccessList}
use Rattle.net_types.specs.declared.config.Interface.{Interface}
use Rattle.net_types.specs.declared.config.Loaded.{Loaded}
use Rattle.net_types.specs.declared.config.Route.{Route}

-- the number of entries of all lists
abbrev pub entry_count : List AccessList → ℕ
entry_count lists = sum_by (λ l. length l.entries) lists

-- interfaces
unfoldable pub interfaces_text : List Interface → List ℕ
interfaces_text interfaces = codes " interfaces " ++ decimal (length interfaces)

-- written routes
unfoldable pub routes_text : List Route → List ℕ
routes_text routes = codes " routes " ++ decimal (length routes)

-- access lists with their entries, translation rules, and how many lines were passed over
unfoldable pub rules_text : Loaded → List ℕ
rules_text l =
    codes " lists " ++ decimal (length l.config.lists)
    ++ codes " entries " ++ decimal (entry_count l.config.lists)
    ++ codes " nat " ++ decimal (length l.config.nat)
    ++ codes " passed " ++ decimal l.passed
    ++ codes "\n"

-- how much there is of each kind
unfoldable pub counts_text : Loaded → List ℕ
counts_text l = interfaces_text l.config.interfaces ++ routes_text l.config.routes ++ rules_text l

-- a line: the file, the hostname and that
unfoldable pub reading_text : Loaded → List ℕ
reading_text l = l.file ++ codes " " ++ l.config.hostname ++ counts_text l

-- a line for each configuration, in the order of the files
abbrev pub readings_text : List Loaded → List ℕ
readings_text devices = flat_map reading_text devices
