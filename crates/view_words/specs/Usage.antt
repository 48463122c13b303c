-- The command line of the program `view`: its commands, and what may be an operand.
use Rattle.std.specs.Prelude.{ℕ, Bool, false, not, ◌==◌, List, [], ◌∷◌, ◌++◌, codes}

-- no operand is empty or begins with `-`
abbrev pub is_operand : List ℕ → Bool
is_operand [] = false
is_operand (c ∷ word) = not (c == 45)

-- how it is used: on the error output with status 2, and on the output where that is asked
abbrev pub usage_text : List ℕ
usage_text =
    codes "usage:\n"
    ++ codes "  view [--title TEXT] REPORT\n"
    ++ codes "  view --json REPORT\n"
    ++ codes "  view --audit [--json] [--rows] FINDINGS NET\n"
    ++ codes "  view --answers [--json] QUESTIONS [BEFORE] AFTER\n"
    ++ codes "  view --traces [--json] OLD NEW LINKS DEVICE INTERFACE HEADER\n"
    ++ codes "  view --why [--json] OLD NEW LINKS REPORT\n"
    ++ codes "  view --why-all [--json] OLD NEW LINKS REPORT\n"
    ++ codes "  view --help\n"
    ++ codes "  view --version\n"

-- which program it is, and the version of what it writes for machines
abbrev pub version_text : List ℕ
version_text = codes "view of Diqenyu, schema 1\n"
