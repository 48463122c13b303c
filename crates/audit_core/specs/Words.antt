-- The words of the command line: `audit NET`.
use Rattle.std.specs.Prelude.{ℕ, ◌&&◌, List, [], ◌∷◌, Option, None, Some, codes, if◌then◌else◌}
use Rattle.std.specs.Str.{bytes_eq}
use Rattle.rollout_words.specs.Usage.{is_operand}

-- the folder that is to be audited; nothing where the words are outside the usage
abbrev pub net_of : List (List ℕ) → Option (List ℕ)
net_of (command ∷ net ∷ []) = if bytes_eq command (codes "audit") && is_operand net then Some net else None
net_of _ = None
