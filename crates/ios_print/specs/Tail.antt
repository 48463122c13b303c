-- The words of a line after its first one.
use Rattle.std.specs.Prelude.{◌∷◌, flat_map}
use Rattle.ios_lines.specs.Words.{Word, Words}

-- each word after a blank
abbrev pub after_blank : Word → Word
after_blank w = 32 ∷ w

abbrev pub tail : Words → Word
tail ws = flat_map after_blank ws
