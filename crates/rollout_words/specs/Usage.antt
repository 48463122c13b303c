-- The command line of the program `rollout`: its commands, and what may be an operand.
use Rattle.std.specs.Prelude.{ℕ, Bool, false, not, ◌==◌, List, [], ◌∷◌, ◌++◌, codes}

-- there is no option, and no operand is empty or begins with `-`
abbrev pub is_operand : List ℕ → Bool
is_operand [] = false
is_operand (c ∷ word) = not (c == 45)

-- status 2: the words are outside the usage
abbrev pub usage_text : List ℕ
usage_text =
    codes "usage:\n"
    ++ codes "  audit NET\n"
    ++ codes "  edits NET LINKS EDITS\n"
    ++ codes "  rollout NET LINKS QUESTIONS STEPS\n"
    ++ codes "  variants NET LINKS VARIANTS\n"
