-- The words of the command line: `variants NET LINKS VARIANTS`.
use Rattle.std.specs.Prelude.{ℕ, Bool, ◌&&◌, List, [], ◌∷◌, Option, None, Some, codes, if◌then◌else◌}
use Rattle.std.specs.Str.{bytes_eq}
use Rattle.rollout_words.specs.Usage.{is_operand}
use Rattle.variants_core.specs.declared.words.Asked.{Asked}

-- where the network, its link table and the variants are
pub record Paths : Type 0 where
  pub net : List ℕ
  pub links : List ℕ
  pub variants : List ℕ

abbrev pub paths : Asked → Paths
paths a = record { net = a.net.now; links = a.links.now; variants = a.variants.now }

abbrev pub are_operands : Paths → Bool
are_operands p = is_operand p.net && is_operand p.links && is_operand p.variants

abbrev pub if_operands : Bool → Paths → Option Paths
if_operands named p = if named && are_operands p then Some p else None

-- what the words ask for; nothing where they are outside the usage
abbrev pub paths_of : List (List ℕ) → Option Paths
paths_of (command ∷ net ∷ links ∷ variants ∷ []) =
    if_operands (bytes_eq command (codes "variants")) (record { net = net; links = links; variants = variants })
paths_of _ = None
