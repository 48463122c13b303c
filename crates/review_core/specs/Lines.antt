-- What is written where the words are outside the usage.
use Rattle.std.specs.Prelude.{ℕ, List, ◌++◌, codes}

-- status 2
abbrev pub usage_text : List ℕ
usage_text =
    codes "usage:\n"
    ++ codes "  compare OLD NEW LINKS [NEWLINKS] [--workers N] [--ttl T]\n"
    ++ codes "  ask NET LINKS QUESTIONS [--workers N] [--ttl T]\n"
    ++ codes "  trace NET LINKS DEVICE INTERFACE HEADER [--ttl T]\n"
    ++ codes "  read NET\n"
    ++ codes "  gen NUMBER SIZE [--workers N]\n"
