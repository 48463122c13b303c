-- The words of a line of a text, each with a byte between it and the next, are no longer than the text; so are built texts.
use Rattle.std.proofs.Common.{◌≡◌, ℕ, ◌+◌, ◌-◌, ◌≤◌, ◌<◌, zero, suc, Bool, true, false, cond, List, [], ◌∷◌, ◌++◌, length, map, take, drop, get_or, ap, ◌∙◌, arith}
use Rattle.std.specs.Prelude.{nat_lt, filter, codes, ◌*◌}
use Rattle.std.specs.List.{list_any, slice_split, onto_first}
use Rattle.std.proofs.lemmas.List.{length-append, take_all}
use Rattle.net_text.specs.declared.Line.{Line}
use Rattle.net_text.specs.declared.Span.{Span}
use Rattle.net_text.specs.Lines.{is_line_end, is_separator, is_filled, placed, piece, lines_of, lines_at, line_at, add_line, word_spans}
use Rattle.net_types.specs.declared.config.Interface.{Interface}
use Rattle.net_text.specs.Limits.{text_limit}
use Rattle.edit_lines.specs.Refusals.{Word}
use Rattle.edit_lines.specs.Built.{edits_limit, entry_text, is_port, kind_word, list_head, list_line, port_line, route_text, spaced, third, words_line}

-- the bytes of parts, with one byte more for each
size : List (List ℕ) → ℕ
size [] = 0
size (q ∷ qs) = length q + 1 + size qs

span_size : List Span → ℕ
span_size [] = 0
span_size (s ∷ ss) = (s.end - s.start) + 1 + span_size ss

line_sizes : List Line → ℕ
line_sizes [] = 0
line_sizes (l ∷ ls) = span_size l.words + line_sizes ls

size_onto : (x n : ℕ) (qs : List (List ℕ)) → size qs ≤ n + 1 → size (onto_first x qs) ≤ n + 2
unfolding size
size_onto x n [] h = omega arith
size_onto x n (q ∷ qs) h = omega (arith, h)

size_split : (p : ℕ → Bool) (xs : List ℕ) → size (slice_split p xs) ≤ length xs + 1
unfolding size
size_split p [] = omega arith
size_split p (x ∷ xs) = elim (p x) as (λ b. size (cond b ([] ∷ slice_split p xs) (onto_first x (slice_split p xs))) ≤ suc (length xs) + 1) [
  | true ↦ omega (arith, size_split p xs)
  | false ↦ omega (arith, size_onto x (length xs) (slice_split p xs) (size_split p xs))
]

filter_size : (ss : List Span) → span_size (filter is_filled ss) ≤ span_size ss
unfolding span_size
filter_size [] = omega arith
filter_size (s ∷ ss) = elim (is_filled s) as (λ b. span_size (cond b (s ∷ filter is_filled ss) (filter is_filled ss)) ≤ (s.end - s.start) + 1 + span_size ss) [
  | true ↦ omega (arith, filter_size ss)
  | false ↦ omega (arith, filter_size ss)
]

placed_size : (n : ℕ) (parts : List (List ℕ)) → span_size (placed n parts) ≤ size parts
unfolding span_size size
placed_size n [] = omega arith
placed_size n (q ∷ qs) = omega (arith, placed_size (n + length q + 1) qs)

words_size : (n : ℕ) (line : List ℕ) → span_size (word_spans n line) ≤ length line + 1
words_size n line = omega (arith, filter_size (placed n (slice_split is_separator line)), placed_size n (slice_split is_separator line), size_split is_separator line)

add_size : (l : Line) (ls : List Line) → line_sizes (add_line l ls) ≤ span_size l.words + line_sizes ls
unfolding line_sizes
add_size l ls = elim (nat_lt 0 (length l.words)) as (λ b. line_sizes (cond b (l ∷ ls) ls) ≤ span_size l.words + line_sizes ls) [ true ↦ omega arith | false ↦ omega arith ]

lines_size : (number n : ℕ) (parts : List (List ℕ)) → line_sizes (lines_at number n parts) ≤ size parts
unfolding line_sizes size
lines_size number n [] = omega arith
lines_size number n (q ∷ qs) = omega (arith, add_size (line_at number n q) (lines_at (number + 1) (n + length q + 1) qs), words_size n q, lines_size (number + 1) (n + length q + 1) qs)

one_size : (ls : List Line) (i : ℕ) (l : Line) → i < length ls → l ≡ get_or ls i l → span_size l.words ≤ line_sizes ls
unfolding line_sizes
one_size [] i l h e = absurd (omega (arith, h))
one_size (x ∷ ls) zero l h e = let same : span_size l.words ≡ span_size x.words = ap (λ (y : Line). span_size y.words) e in omega (arith, same)
one_size (x ∷ ls) (suc i) l h e = omega (arith, one_size ls i l (omega (arith, h)) e)

take_size : (n : ℕ) (xs : List ℕ) → length (take n xs) ≤ n
take_size zero xs = omega arith
take_size (suc n) [] = omega arith
take_size (suc n) (x ∷ xs) = omega (arith, take_size n xs)

piece_size : (bytes : List ℕ) (s : Span) → length (piece bytes s) ≤ s.end - s.start
piece_size bytes s = take_size (s.end - s.start) (drop s.start bytes)

spaced_size : (bytes : List ℕ) (ss : List Span) → length (spaced (map (piece bytes) ss)) ≤ span_size ss
unfolding span_size
spaced_size bytes [] = omega arith
spaced_size bytes (s ∷ ss) = omega (arith, piece_size bytes s, spaced_size bytes ss, length-append (piece bytes s) (spaced (map (piece bytes) ss)))

pub line_size : (bytes : List ℕ) (lines : List Line) → lines ≡ lines_of bytes → (i : ℕ) (l : Line) → i < length lines → l ≡ get_or lines i l → length (spaced (map (piece bytes) l.words)) ≤ length bytes + 1
line_size bytes lines are i l h e =
    let all : line_sizes lines ≡ line_sizes (lines_of bytes) = ap line_sizes are in
    omega (arith, all, spaced_size bytes l.words, one_size lines i l h e, lines_size 1 0 (slice_split is_line_end bytes), size_split is_line_end bytes)

-- ---- built texts

kind_size : (extended : Bool) → length (kind_word extended) ≤ 8
unfolding kind_word
kind_size true = omega arith
kind_size false = omega arith

head_size : (extended : Bool) → length (list_head extended) ≤ 23
unfolding list_head
head_size extended = omega (arith, kind_size extended, length-append (codes "ip access-list ") (kind_word extended))

list_size : (extended : Bool) (name : Word) → length (list_line extended name) ≤ length name + 25
unfolding list_line
list_size extended name = omega (arith, head_size extended, length-append (list_head extended ++ codes " " ++ name) (codes "\n"), length-append (list_head extended ++ codes " ") name, length-append (list_head extended) (codes " "))

words_line_size : (words : List Word) → length (words_line words) ≤ length (spaced words) + 1
unfolding words_line
words_line_size words = omega (arith, length-append (spaced words) (codes "\n"))

entry_size : (extended : Bool) (device name : Word) (words : List Word) → length (entry_text extended name words) ≤ length (spaced (device ∷ name ∷ words)) + 40
unfolding entry_text
entry_size extended device name words = omega (
  arith,
  list_size extended name,
  words_line_size words,
  length-append (list_line extended name) (words_line words),
  length-append (32 ∷ device) (spaced (name ∷ words)),
  length-append (32 ∷ name) (spaced words),
)

port_size : (interfaces : List Interface) (words : List Word) → length (port_line interfaces (third words)) ≤ length (spaced words) + 11
port_size interfaces [] = omega arith
port_size interfaces (a ∷ []) = omega arith
port_size interfaces (a ∷ b ∷ []) = omega arith
port_size interfaces (a ∷ b ∷ w ∷ words) =
    elim (list_any (is_port w) interfaces) as (λ t. length (cond t (codes "interface " ++ w ++ codes "\n") []) ≤ length (spaced (a ∷ b ∷ w ∷ words)) + 11) [
      | true ↦ omega (arith, length-append w (codes "\n"), length-append (codes "interface " ++ w) (codes "\n"), length-append (32 ∷ a) (spaced (b ∷ w ∷ words)), length-append (32 ∷ b) (spaced (w ∷ words)), length-append (32 ∷ w) (spaced words))
      | false ↦ omega arith
    ]

route_size : (interfaces : List Interface) (device : Word) (words : List Word) → length (route_text interfaces words) ≤ 2 * length (spaced (device ∷ words)) + 40
unfolding route_text
route_size interfaces device words = omega (
  arith,
  port_size interfaces words,
  words_line_size words,
  length-append (port_line interfaces (third words) ++ codes "ip route") (words_line words),
  length-append (port_line interfaces (third words)) (codes "ip route"),
  length-append (32 ∷ device) (spaced words),
)

all_taken : (device : Word) (rest : List Word) → take (length (device ∷ rest) - 1) (drop 1 (device ∷ rest)) ≡ rest
all_taken device rest = take_all (length (device ∷ rest) - 1) rest (omega arith)

two_taken : (device name : Word) (rest : List Word) → take (length (device ∷ name ∷ rest) - 2) (drop 2 (device ∷ name ∷ rest)) ≡ rest
two_taken device name rest = take_all (length (device ∷ name ∷ rest) - 2) rest (omega arith)

pub entry_fits : (extended : Bool) (name : Word) (all : List Word) → 2 ≤ length all → name ≡ get_or all 1 name → length (spaced all) ≤ edits_limit + 1 → length (entry_text extended name (take (length all - 2) (drop 2 all))) ≤ text_limit
entry_fits extended name [] many is fits = absurd (omega (arith, many))
entry_fits extended name (device ∷ []) many is fits = absurd (omega (arith, many))
entry_fits extended name (device ∷ second ∷ rest) many is fits =
    let same : length (entry_text extended name (take (length (device ∷ second ∷ rest) - 2) (drop 2 (device ∷ second ∷ rest)))) ≡ length (entry_text extended second rest) =
    ap (λ ws. length (entry_text extended name ws)) (two_taken device second rest) ∙ ap (λ n. length (entry_text extended n rest)) is in
    omega (arith, fits, same, entry_size extended device second rest)

pub route_fits : (interfaces : List Interface) (all : List Word) → 1 ≤ length all → length (spaced all) ≤ edits_limit + 1 → length (route_text interfaces (take (length all - 1) (drop 1 all))) ≤ text_limit
route_fits interfaces [] many fits = absurd (omega (arith, many))
route_fits interfaces (device ∷ rest) many fits =
    let same : length (route_text interfaces (take (length (device ∷ rest) - 1) (drop 1 (device ∷ rest)))) ≡ length (route_text interfaces rest) = ap (λ ws. length (route_text interfaces ws)) (all_taken device rest) in
    omega (arith, fits, same, route_size interfaces device rest)
