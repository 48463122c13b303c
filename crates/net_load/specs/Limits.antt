-- The limits on folders.
use Rattle.std.specs.Prelude.{ℕ}

-- of the files of a folder, at most 1,024 have names of configurations
abbrev pub files_limit : ℕ
files_limit = 1024

-- the configurations of a folder have at most 67,108,864 bytes together, 2 ^ 26
abbrev pub folder_limit : ℕ
folder_limit = 67108864
