-- The words of the command line: `edits NET LINKS EDITS`.
use Rattle.std.specs.Prelude.{ℕ, Bool, ◌&&◌, List, [], ◌∷◌, Option, None, Some, codes, if◌then◌else◌}
use Rattle.std.specs.Str.{bytes_eq}
use Rattle.rollout_words.specs.Usage.{is_operand}
use Rattle.edits_core.specs.declared.words.Asked.{Asked}

-- where the network, its link table and the edits are
pub record Paths : Type 0 where
  pub net : List ℕ
  pub links : List ℕ
  pub edits : List ℕ

abbrev pub paths : Asked → Paths
paths a = record { net = a.net.now; links = a.links.now; edits = a.edits.now }

abbrev pub are_operands : Paths → Bool
are_operands p = is_operand p.net && is_operand p.links && is_operand p.edits

abbrev pub if_operands : Bool → Paths → Option Paths
if_operands named p = if named && are_operands p then Some p else None

-- what the words ask for; nothing where they are outside the usage
abbrev pub paths_of : List (List ℕ) → Option Paths
paths_of (command ∷ net ∷ links ∷ edits ∷ []) =
    if_operands (bytes_eq command (codes "edits")) (record { net = net; links = links; edits = edits })
paths_of _ = None
