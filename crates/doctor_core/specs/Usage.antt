-- The command line of the program `doctor`, and what it says of itself.
use Rattle.std.specs.Prelude.{ℕ, Bool, false, not, ◌==◌, List, [], ◌∷◌, ◌++◌, codes}

-- no operand is empty or begins with `-`
abbrev pub is_operand : List ℕ → Bool
is_operand [] = false
is_operand (c ∷ word) = not (c == 45)

-- status 2: the words are outside the usage
abbrev pub usage_text : List ℕ
usage_text =
    codes "usage:\n"
    ++ codes "  doctor [--all] [--json] NET LINKS\n"
    ++ codes "  doctor [--all] [--json] OLD NEW LINKS [NEWLINKS]\n"
    ++ codes "  doctor --help\n"
    ++ codes "  doctor --version\n"

-- `--help`: the usage, and what each word means
abbrev pub help_text : List ℕ
help_text =
    usage_text
    ++ codes "Says what has to be looked at before a comparison of networks is believed, a line each:\n"
    ++ codes "PATH:LINE: WHAT: the line as it stands. The last line is 'warnings N'.\n"
    ++ codes "  - each file's first refusal, and files that aren't read\n"
    ++ codes "  - lines that are passed over and look like a command that is read\n"
    ++ codes "  - lines that are passed over and stand in one folder alone, or more often there\n"
    ++ codes "  - places that no network has, links, lists, routes and translations that do nothing\n"
    ++ codes "Where there is a warning, lines 'limit: ..' tell the limits of the model that are met.\n"
    ++ codes "  --all  the limits, and every line that is passed over, counted by its first words\n"
    ++ codes "  --json  the same as one document of JSON\n"
    ++ codes "Statuses: 0 no warning, 1 a warning, 2 usage, 4 cannot read, 5 too long or too many,\n"
    ++ codes "6 cannot write, 7 no memory, 8 not found.\n"

-- `--version`
abbrev pub version_text : List ℕ
version_text = codes "doctor of Diqenyu, schema 1\n"
