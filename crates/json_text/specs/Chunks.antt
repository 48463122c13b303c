-- A text that is added in chunks.
use Rattle.std.specs.Prelude.{ℕ, List, ◌++◌, decimal}
use Rattle.json_text.specs.declared.chunks.Chunk.{Chunk}
use Rattle.json_text.specs.declared.chunks.Chunk.TheVariants.{Bytes, Number, String}
use Rattle.json_text.specs.Json.{string_text}

-- bytes as they are, a number in decimal, and a text in quotes, as a document of JSON has it
abbrev pub chunk_text : Chunk → List ℕ
chunk_text (Bytes bytes) = bytes.now
chunk_text (Number n) = decimal n
chunk_text (String text) = string_text text.now

-- a number behind its words
abbrev pub count_text : List ℕ → ℕ → List ℕ
count_text front n = front ++ decimal n
