-- The limits on texts and on the words that are told of them.
use Rattle.std.specs.Prelude.{ℕ}

-- a text that is read has at most 16,777,216 bytes, 2 ^ 24
abbrev pub text_limit : ℕ
text_limit = 16777216

-- of a word that is told, as in a refusal, at most the first 64 bytes
abbrev pub word_limit : ℕ
word_limit = 64
