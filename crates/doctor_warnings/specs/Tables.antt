-- What is told of a link table: its refusal, by its own words or for the networks that it wires; or the places that are worth a
-- look and the limits of the model that its links meet, where it isn't refused.
use Rattle.std.specs.Prelude.{ℕ, Bool, true, false, List, [], ◌∷◌, ◌++◌, map, Option, Some, None, Result, Ok, Err, is_some, codes, if◌then◌else◌}
use Rattle.std.specs.List.{list_any}
use Rattle.net_types.specs.declared.config.Loaded.{Loaded}
use Rattle.ios_config.specs.Reads.{effects, refusal}
use Rattle.ios_config.specs.Rules.{config_of, passed}
use Rattle.topo_links.specs.declared.table.LinkFail.{LinkFail}
use Rattle.topo_links.specs.declared.table.LinkFail.TheVariants as links
use Rattle.topo_links.specs.declared.table.LinkLine.{LinkLine}
use Rattle.topo_links.specs.declared.table.LinkRefusal.{LinkRefusal}
use Rattle.topo_links.specs.declared.table.LinkTable.{LinkTable}
use Rattle.topo_links.specs.Refusals.{refusal_text}
use Rattle.topo_links.specs.Table.{table_of}
use Rattle.topo_links.specs.Check.{table_fault, own_table_fault}
use Rattle.place_checks.specs.declared.finding.Networks.TheVariants as networks
use Rattle.place_checks.specs.declared.finding.PlaceFinding.{PlaceFinding}
use Rattle.place_checks.specs.declared.strays.StrayNext.{StrayNext}
use Rattle.place_checks.specs.Ethernet.{ethernet_links}
use Rattle.place_checks.specs.Findings.{Pair, place_findings}
use Rattle.place_checks.specs.Strays.{stray_findings}
use Rattle.doctor_warnings.specs.declared.files.TextFile.{TextFile}
use Rattle.doctor_warnings.specs.declared.limit.Limit.{Limit}
use Rattle.doctor_warnings.specs.declared.limit.LimitKind.TheVariants as limit
use Rattle.doctor_warnings.specs.declared.tables.Nets.{Nets}
use Rattle.doctor_warnings.specs.declared.wiring.Wiring.{Wiring}
use Rattle.doctor_warnings.specs.declared.wiring.Wiring.TheVariants as wiring
use Rattle.doctor_warnings.specs.declared.warning.Warning.{Warning}
use Rattle.doctor_warnings.specs.declared.warning.Warning.TheVariants as warning
use Rattle.doctor_warnings.specs.Lines.{nth_line, trimmed}

-- a file's configuration, where it isn't refused
abbrev pub loaded_file : TextFile → Loaded
loaded_file f = record { file = f.name; config = config_of (effects f.bytes); passed = passed (effects f.bytes) }

abbrev pub is_refused : TextFile → Bool
is_refused f = is_some (refusal (effects f.bytes))

-- the same, or nothing
abbrev pub device_of : TextFile → Option Loaded
device_of f = if is_refused f then None else Some (loaded_file f)

-- the devices of a folder of which no file is refused
abbrev pub devices_of : List TextFile → Option (List Loaded)
devices_of files = if list_any is_refused files then None else Some (map loaded_file files)

-- two networks, as far as they can be judged: where a file of one is refused neither is
abbrev pub both_of : Option (List Loaded) → Option (List Loaded) → Option (List Loaded × List Loaded)
both_of (Some first) (Some second) = Some (first, second)
both_of (Some first) None = None
both_of None o = None

-- a refused line of a table
abbrev pub refused_line : List ℕ → List ℕ → LinkRefusal → ℕ → List ℕ → Warning
refused_line path bytes k n word = warning.Refused path n (refusal_text k) word (trimmed (nth_line bytes n))

abbrev pub refused_by : List ℕ → List ℕ → LinkFail → List Warning
refused_by path bytes (links.Refused k n word) = refused_line path bytes k n word ∷ []
refused_by path bytes _ = []

abbrev pub pair_of : Nets → List Loaded × List Loaded
pair_of n = (n.first.now, n.second.now)

-- ---- the networks that a table wires

-- the table is that of one of two networks
abbrev pub is_own : Wiring → Bool
is_own wiring.Alone = false
is_own wiring.Both = false
is_own wiring.Old = true
is_own wiring.New = true

-- there are two networks
abbrev pub are_two : Wiring → Bool
are_two wiring.Alone = false
are_two wiring.Both = true
are_two wiring.Old = true
are_two wiring.New = true

-- a network alone has no other beside it; of two, that of the table comes first
abbrev pub judged : Wiring → List Loaded × List Loaded → Pair
judged wiring.Alone nets = record { old = nets.0; new = []; judged = networks.Old }
judged wiring.Both nets = record { old = nets.0; new = nets.1; judged = networks.Both }
judged wiring.Old nets = record { old = nets.0; new = nets.1; judged = networks.Old }
judged wiring.New nets = record { old = nets.1; new = nets.0; judged = networks.New }

-- ---- all that is told of a table

-- what is wrong in a table for two networks: in both, or in the first alone
abbrev pub fault_of : Bool → Option (List Loaded × List Loaded) → List LinkLine → Option LinkFail
fault_of own None lines = None
fault_of true (Some nets) lines = own_table_fault nets.0 nets.1 lines
fault_of false (Some nets) lines = table_fault nets.0 nets.1 lines

abbrev pub places_told : List ℕ → Bool → List PlaceFinding → List Warning
places_told path two found = map (λ f. warning.Place path two f) found

abbrev pub strays_told : List ℕ → Bool → List StrayNext → List Warning
strays_told path two found = map (λ s. warning.Stray path two s) found

-- the places that are worth a look, and then the next hops on lans that no end has
abbrev pub place_warnings : Wiring → List ℕ → Option (List Loaded × List Loaded) → List LinkLine → List Warning
place_warnings w path None lines = []
place_warnings w path (Some nets) lines =
    places_told path (are_two w) (place_findings (judged w nets) lines) ++ strays_told path (are_two w) (stray_findings (judged w nets) lines)

-- the refusal for the networks; or the places, where nothing is refused
abbrev pub judged_warnings : Wiring → List ℕ → Option (List Loaded × List Loaded) → List ℕ → List LinkLine → Option LinkFail → List Warning
judged_warnings w path nets bytes lines (Some f) = refused_by path bytes f
judged_warnings w path nets bytes lines None = place_warnings w path nets lines

abbrev pub read_warnings : Wiring → List ℕ → Option (List Loaded × List Loaded) → List ℕ → Result LinkTable LinkFail → List Warning
read_warnings w path nets bytes (Err f) = refused_by path bytes f
read_warnings w path nets bytes (Ok t) = judged_warnings w path nets bytes t.lines (fault_of (is_own w) nets t.lines)

-- what is told of the bytes of a table
abbrev pub table_warnings : Wiring → List ℕ → Option (List Loaded × List Loaded) → List ℕ → List Warning
table_warnings w path nets bytes = read_warnings w path nets bytes (table_of bytes)

-- ---- the links on Ethernet that are p2p

abbrev pub met_links : List ℕ → List ℕ → List Limit
met_links path ns = map (λ n. record { path = path; line = n; words = codes "p2p on Ethernet"; kind = limit.Ethernet }) ns

abbrev pub place_limits : Wiring → List ℕ → Option (List Loaded × List Loaded) → List LinkLine → List Limit
place_limits w path None lines = []
place_limits w path (Some nets) lines = met_links path (ethernet_links (judged w nets) lines)

-- of a table that isn't refused for the networks
abbrev pub judged_limits : Wiring → List ℕ → Option (List Loaded × List Loaded) → List LinkLine → Option LinkFail → List Limit
judged_limits w path nets lines (Some f) = []
judged_limits w path nets lines None = place_limits w path nets lines

abbrev pub read_limits : Wiring → List ℕ → Option (List Loaded × List Loaded) → Result LinkTable LinkFail → List Limit
read_limits w path nets (Err f) = []
read_limits w path nets (Ok t) = judged_limits w path nets t.lines (fault_of (is_own w) nets t.lines)

abbrev pub table_limits : Wiring → List ℕ → Option (List Loaded × List Loaded) → List ℕ → List Limit
table_limits w path nets bytes = read_limits w path nets (table_of bytes)
