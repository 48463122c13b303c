-- What the lines of a text of answers say. What is read may still be written otherwise: that it prints as the same bytes is a test
-- of its own.
use Rattle.std.specs.Prelude.{ℕ, List, Option, Some, None, option_map, option_to_list, codes, if◌then◌else◌}
use Rattle.std.specs.List.{flat_map}
use Rattle.std.specs.Str.{bytes_eq}
use Rattle.hdr_bits.specs.declared.header.Header.{Header}
use Rattle.net_types.specs.declared.question.Answer.{Answer}
use Rattle.net_types.specs.declared.question.Answer.TheVariants.{Holds, Fails}
use Rattle.ios_words.specs.Words.{address_of, number_of}
use Rattle.report_text.specs.Reading.{next_word, skip_word, ◌>>=◌}
use Rattle.view_core.specs.Names.{text_lines}

-- the value behind its name, and what stands behind it
unfoldable pub value_at : (List ℕ → Option ℕ) → List ℕ → Option (ℕ × List ℕ)
value_at value text = option_map (λ n. (n, skip_word (skip_word text))) (value (next_word (skip_word text)))

-- the header that six fields say
unfoldable pub header_at : List ℕ → Option Header
header_at text = do
  dst ← value_at address_of text
  src ← value_at address_of dst.1
  proto ← value_at (number_of 0 255) src.1
  dport ← value_at (number_of 0 65535) proto.1
  sport ← value_at (number_of 0 65535) dport.1
  flags ← value_at (number_of 0 255) sport.1
  Some (record { dst = dst.0; src = src.0; proto = proto.0; dport = dport.0; sport = sport.0; flags = flags.0 })

-- what this word and the text behind it say
abbrev pub said_by : List ℕ → List ℕ → Option Answer
said_by word rest =
    if bytes_eq word (codes "holds") then Some Holds
    else (if bytes_eq word (codes "fails") then option_map Fails (header_at rest) else None)

-- a line says an answer by its second word
abbrev pub said_of : List ℕ → Option Answer
said_of line = said_by (next_word (skip_word line)) (skip_word (skip_word line))

abbrev pub said_at : List ℕ → List Answer
said_at line = option_to_list (said_of line)

-- the answers that the lines of a text say, in their order
abbrev pub said_in : List ℕ → List Answer
said_in bytes = flat_map said_at (text_lines bytes)
