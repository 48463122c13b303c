-- The texts on the error output that are always the same.
use Rattle.std.specs.Prelude.{ℕ, List, codes}

-- status 6: the output took no more
abbrev pub cannot_write_text : List ℕ
cannot_write_text = codes "cannot write\n"

-- status 7: there was no memory
abbrev pub no_memory_text : List ℕ
no_memory_text = codes "no memory\n"
