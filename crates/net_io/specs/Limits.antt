-- The limit on files.
use Rattle.std.specs.Prelude.{ℕ}

-- a file that is read whole has at most 16,777,216 bytes, 2 ^ 24
abbrev pub file_limit : ℕ
file_limit = 16777216
