-- The words of the command line: `rollout NET LINKS QUESTIONS STEPS`.
use Rattle.std.specs.Prelude.{ℕ, Bool, ◌&&◌, List, [], ◌∷◌, Option, None, Some, codes, if◌then◌else◌}
use Rattle.std.specs.Str.{bytes_eq}
use Rattle.rollout_words.specs.Usage.{is_operand}
use Rattle.window_core.specs.declared.words.Asked.{Asked}

-- where the network, its link table, the questions and the change window are
pub record Paths : Type 0 where
  pub net : List ℕ
  pub links : List ℕ
  pub questions : List ℕ
  pub steps : List ℕ

abbrev pub paths : Asked → Paths
paths a = record { net = a.net.now; links = a.links.now; questions = a.questions.now; steps = a.steps.now }

abbrev pub are_operands : Paths → Bool
are_operands p = is_operand p.net && is_operand p.links && is_operand p.questions && is_operand p.steps

abbrev pub if_operands : Bool → Paths → Option Paths
if_operands named p = if named && are_operands p then Some p else None

-- what the words ask for; nothing where they are outside the usage
abbrev pub paths_of : List (List ℕ) → Option Paths
paths_of (command ∷ net ∷ links ∷ questions ∷ steps ∷ []) =
    if_operands (bytes_eq command (codes "rollout")) (record { net = net; links = links; questions = questions; steps = steps })
paths_of _ = None
