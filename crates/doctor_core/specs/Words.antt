-- The words of the command line.
use Rattle.std.specs.Prelude.{ℕ, Bool, true, false, ◌&&◌, List, [], ◌∷◌, Option, None, Some, option_map, codes, is_some, ◌||◌, if◌then◌else◌}
use Rattle.std.specs.Str.{bytes_eq}
use Rattle.doctor_core.specs.declared.words.Asked.{Asked}
use Rattle.doctor_core.specs.Usage.{help_text, is_operand, version_text}

-- whether all lines that are passed over are told, and whether as a document; the network or the old one, the new one, and the link tables
pub record Paths : Type 0 where
  pub all : Bool
  pub json : Bool
  pub old : List ℕ
  pub new : Option (List ℕ)
  pub links : List ℕ
  pub new_links : Option (List ℕ)

abbrev pub paths : Asked → Paths
paths a = record { all = a.all; json = a.json; old = a.old.now; new = option_map (λ p. p.now) a.new; links = a.links.now; new_links = option_map (λ p. p.now) a.new_links }

-- there is one word, and this is it
abbrev pub is_only : List ℕ → List (List ℕ) → Bool
is_only name (word ∷ []) = bytes_eq word name
is_only name _ = false

-- the text that the words ask for by itself
abbrev pub text_of : List (List ℕ) → Option (List ℕ)
text_of words =
    if is_only (codes "--help") words then Some help_text
    else (if is_only (codes "--version") words then Some version_text else None)

abbrev pub if_named : Bool → Paths → Option Paths
if_named named p = if named then Some p else None

-- two paths are a network and its links, three are two networks and their links, and a fourth is the links of the new one
abbrev pub paths_by : (all json : Bool) → List (List ℕ) → Option Paths
paths_by all json (net ∷ links ∷ []) =
    if_named (is_operand net && is_operand links) (record { all = all; json = json; old = net; new = None; links = links; new_links = None })
paths_by all json (old ∷ new ∷ links ∷ []) =
    if_named (is_operand old && is_operand new && is_operand links) (record { all = all; json = json; old = old; new = Some new; links = links; new_links = None })
paths_by all json (old ∷ new ∷ links ∷ new_links ∷ []) =
    if_named (is_operand old && is_operand new && is_operand links && is_operand new_links) (record { all = all; json = json; old = old; new = Some new; links = links; new_links = Some new_links })
paths_by all json _ = None

-- what the words behind `--all` ask to look at, or those without it
abbrev pub paths_behind : (all : Bool) → List (List ℕ) → Option Paths
paths_behind all [] = None
paths_behind all (word ∷ words) = if bytes_eq word (codes "--json") then paths_by all true words else paths_by all false (word ∷ words)

-- what the words ask to look at; nothing where they are outside the usage
abbrev pub paths_of : List (List ℕ) → Option Paths
paths_of [] = None
paths_of (word ∷ words) = if bytes_eq word (codes "--all") then paths_behind true words else paths_behind false (word ∷ words)

abbrev pub is_within : List (List ℕ) → Bool
is_within words = is_some (text_of words) || is_some (paths_of words)
