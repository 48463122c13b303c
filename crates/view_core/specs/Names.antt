-- The names that a text's own lines have.
use Rattle.std.specs.Prelude.{ℕ, Bool, List, [], codes, nat_eq, if◌then◌else◌}
use Rattle.std.specs.List.{flat_map, slice_split, starts_with}
use Rattle.net_text.specs.Lines.{is_line_end}
use Rattle.net_text.specs.Texts.{words}
use Rattle.topo_links.specs.Names.{sorted_names}

-- the lines of a text
abbrev pub text_lines : List ℕ → List (List ℕ)
text_lines bytes = slice_split is_line_end bytes

-- a line that begins so is that of a cube, and has no names
abbrev pub is_cube : List ℕ → Bool
is_cube line = starts_with nat_eq line (codes "dst ")

-- the words of a line that may have names
abbrev pub line_names : List ℕ → List (List ℕ)
line_names line = if is_cube line then [] else words line

-- the words of all these lines
abbrev pub all_names : List (List ℕ) → List (List ℕ)
all_names lines = flat_map line_names lines

-- those of a text, in the order of their bytes, each once
abbrev pub names_of : List ℕ → List (List ℕ)
names_of bytes = sorted_names (all_names (text_lines bytes))
