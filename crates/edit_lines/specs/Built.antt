-- The texts that are built of the words of a line, to be read as configurations.
use Rattle.std.specs.Prelude.{ℕ, Bool, true, false, List, [], ◌∷◌, ◌++◌, flat_map, Option, Some, None, codes, if◌then◌else◌}
use Rattle.std.specs.List.{list_any}
use Rattle.net_types.specs.declared.config.AccessList.{AccessList}
use Rattle.net_types.specs.declared.config.Config.{Config}
use Rattle.net_types.specs.declared.config.Entry.{Entry}
use Rattle.net_types.specs.declared.config.Interface.{Interface}
use Rattle.net_types.specs.declared.config.Route.{Route}
use Rattle.net_types.specs.Routes.{same_text}
use Rattle.ios_lines.specs.Lists.{first}
use Rattle.edit_lines.specs.Refusals.{Word}

-- the longest text of edits
abbrev pub edits_limit : ℕ
edits_limit = 4194304

-- each word behind a blank
abbrev pub spaced : List Word → List ℕ
spaced words = flat_map (λ w. 32 ∷ w) words

unfoldable pub kind_word : Bool → List ℕ
kind_word true = codes "extended"
kind_word false = codes "standard"

-- a device has a name
abbrev pub host_line : List ℕ
host_line = codes "hostname x\n"

-- ---- entries

-- `ip access-list KIND LIST`
unfoldable pub list_head : Bool → List ℕ
list_head extended = codes "ip access-list " ++ kind_word extended

unfoldable pub list_line : Bool → Word → List ℕ
list_line extended name = list_head extended ++ codes " " ++ name ++ codes "\n"

-- these words on a line that begins with a blank
unfoldable pub words_line : List Word → List ℕ
words_line words = spaced words ++ codes "\n"

-- `hostname x`, `ip access-list KIND LIST` and ` SEQ WORDS`, a line for each; the words are SEQ WORDS
unfoldable pub entry_text : Bool → Word → List Word → List ℕ
entry_text extended name words = host_line ++ list_line extended name ++ words_line words

-- the entry that a configuration says: the first of its first list
abbrev pub first_entry : List AccessList → Option Entry
first_entry [] = None
first_entry (l ∷ ls) = first l.entries

abbrev pub entry_in : Config → Option Entry
entry_in c = first_entry c.lists

-- ---- routes

-- the third word, if there are so many
abbrev pub third : List Word → Option Word
third (a ∷ b ∷ c ∷ words) = Some c
third _ = None

abbrev pub is_port : Word → Interface → Bool
is_port w i = same_text i.name w

-- `interface I`, where the word is the name of an interface
abbrev pub port_line : List Interface → Option Word → List ℕ
port_line interfaces None = []
port_line interfaces (Some w) = if list_any (is_port w) interfaces then codes "interface " ++ w ++ codes "\n" else []

-- `hostname x` and `ip route WORDS`, and `interface I` between them where the third of the words is the name of an interface
unfoldable pub route_text : List Interface → List Word → List ℕ
route_text interfaces words = host_line ++ port_line interfaces (third words) ++ codes "ip route" ++ words_line words

-- the route that a configuration says: its first
abbrev pub route_in : Config → Option Route
route_in c = first c.routes
