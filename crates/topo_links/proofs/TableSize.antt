-- A table has no more names than its text has bytes.
use Rattle.std.proofs.Common.{◌≡◌, ℕ, ◌+◌, ◌≤◌, suc, true, false, cond, List, [], ◌∷◌, ◌++◌, length, map, refl, sym, ap, ◌∙◌, arith}
use Rattle.std.specs.Prelude.{Option, Some, None, Result, Ok, Err, flat_map, option_to_list}
use Rattle.std.specs.List.{list_any}
use Rattle.std.proofs.lemmas.Grind.{flat_map-append}
use Rattle.std.proofs.lemmas.List.{length-append, length-map}
use Rattle.net_text.specs.declared.Line.{Line}
use Rattle.net_text.specs.Lines.{piece, lines_of}
use Rattle.topo_links.specs.declared.table.LinkKind.{LinkKind}
use Rattle.topo_links.specs.declared.table.LinkLine.{LinkLine}
use Rattle.topo_links.specs.declared.table.LinkTable.{LinkTable}
use Rattle.topo_links.specs.declared.table.LinkRefusal.TheVariants as refusal
use Rattle.topo_links.specs.declared.table.LinkFail.{LinkFail}
use Rattle.topo_links.specs.Ends.{Word, End, is_full, is_enough, is_taken, ends_of, refused}
use Rattle.topo_links.specs.Table.{Effect, effect_of, begins_mark, kind_of, link_effect, line_with, taken_for, rows, row_of, line_effect, effects_after, effects, first_fail, table_by, table_of, is_ingress, end_names, table_names}
use Rattle.topo_links.proofs.Effects.{rows_new}
use Rattle.net_text.proofs.TextSize.{words_of, words_bytes}

ends_count : Result (List End) LinkFail → ℕ
ends_count (Ok ends) = length (end_names ends)
ends_count (Err e) = 0

names_push : (ends : List End) (e : End) → length (end_names (ends ++ e ∷ [])) ≡ length (end_names ends) + 2
names_push ends e = ap length (flat_map-append (λ e. e.0 ∷ e.1 ∷ []) ends (e ∷ [])) ∙ length-append (end_names ends) (e.0 ∷ e.1 ∷ [])

ends_size : (k : LinkKind) (n : ℕ) (taken ends : List End) (words : List Word) → ends_count (ends_of k n taken ends words) ≤ length (end_names ends) + length words
unfolding ends_of ends_count
ends_size k n taken ends [] = elim (is_enough k (length ends)) as (λ b. ends_count (cond b (Ok ends) (Err (refused refusal.MissingWord n []))) ≤ length (end_names ends) + 0) [ true ↦ omega arith | false ↦ omega arith ]
ends_size k n taken ends (d ∷ []) = elim (is_full k (length ends)) as (λ b. ends_count (cond b (Err (refused refusal.BadWord n d)) (Err (refused refusal.MissingWord n []))) ≤ length (end_names ends) + 1) [ true ↦ omega arith | false ↦ omega arith ]
ends_size k n taken ends (d ∷ i ∷ words) =
    elim (is_full k (length ends)) as (λ b. ends_count (cond b (Err (refused refusal.BadWord n d)) (cond (is_taken (d, i) (taken ++ ends)) (Err (refused refusal.EndTaken n i)) (ends_of k n taken (ends ++ (d, i) ∷ []) words))) ≤ length (end_names ends) + suc (suc (length words))) [
      | true ↦ omega arith
      | false ↦ elim (is_taken (d, i) (taken ++ ends)) as (λ b. ends_count (cond b (Err (refused refusal.EndTaken n i)) (ends_of k n taken (ends ++ (d, i) ∷ []) words)) ≤ length (end_names ends) + suc (suc (length words))) [
        | true ↦ omega arith
        | false ↦ omega (arith, ends_size k n taken (ends ++ (d, i) ∷ []) words, names_push ends (d, i))
      ]
    ]

-- the names of a line
row_names : Option LinkLine → List Word
row_names None = []
row_names (Some l) = end_names l.ends

effect_count : Effect → ℕ
effect_count e = length (row_names (row_of e))

with_count : (k : LinkKind) (n : ℕ) (r : Result (List End) LinkFail) → effect_count (line_with k n r) ≡ ends_count r
unfolding effect_count row_names ends_count
with_count k n (Ok ends) = refl
with_count k n (Err e) = refl

link_size : (o : Option LinkKind) (n : ℕ) (before : List LinkLine) (w : Word) (words : List Word) → effect_count (link_effect o n before w words) ≤ suc (length words)
unfolding effect_count row_names
link_size None n before w words = omega arith
link_size (Some k) n before w words = omega (arith, with_count k n (ends_of k n (taken_for k before) [] words), ends_size k n (taken_for k before) [] words)

effect_size : (n : ℕ) (before : List LinkLine) (words : List Word) → effect_count (effect_of n before words) ≤ length words
unfolding effect_of effect_count row_names
effect_size n before [] = omega arith
effect_size n before (w ∷ words) = elim (begins_mark w) as (λ b. effect_count (cond b (Ok None) (link_effect (kind_of w) n before w words)) ≤ suc (length words)) [
  | true ↦ omega arith
  | false ↦ link_size (kind_of w) n before w words
]

rows_count : List LinkLine → ℕ
rows_count ls = length (flat_map (λ l. end_names l.ends) ls)

one_row : (o : Option LinkLine) → rows_count (option_to_list o) ≡ length (row_names o)
unfolding rows_count row_names
one_row None = refl
one_row (Some l) = length-append (end_names l.ends) [] ∙ omega arith

rows_push : (es : List Effect) (e : Effect) → rows_count (rows (es ++ e ∷ [])) ≡ rows_count (rows es) + effect_count e
unfolding rows_count effect_count
rows_push es e =
    ap (λ ls. length (flat_map (λ l. end_names l.ends) ls)) (rows_new es e)
    ∙ ap length (flat_map-append (λ l. end_names l.ends) (rows es) (option_to_list (row_of e)))
    ∙ length-append (flat_map (λ l. end_names l.ends) (rows es)) (flat_map (λ l. end_names l.ends) (option_to_list (row_of e)))
    ∙ ap (λ n. length (flat_map (λ l. end_names l.ends) (rows es)) + n) (one_row (row_of e))

effects_size : (bytes : List ℕ) (es : List Effect) (ls : List Line) → rows_count (rows (effects_after bytes es ls)) ≤ rows_count (rows es) + words_of ls
unfolding words_of
effects_size bytes es [] = omega arith
effects_size bytes es (l ∷ ls) = omega (arith, effects_size bytes (es ++ line_effect bytes es l ∷ []) ls, rows_push es (line_effect bytes es l), effect_size l.number (rows es) (map (piece bytes) l.words), length-map l.words (piece bytes))

none_before : rows_count (rows []) ≡ 0
unfolding rows_count
none_before = refl

table_lines : (f : Option LinkFail) (ls : List LinkLine) (t : LinkTable) → table_by f ls ≡ Ok t → t.lines ≡ ls
table_lines (Some e) ls t h = cc
table_lines None ls t h = (elim (list_any is_ingress ls) as (λ b. cond b (Ok (record { lines = ls })) (Err (refused refusal.NoIngress 0 [])) ≡ Ok t → t.lines ≡ ls) [
  | true ↦ λ e. sym (made e)
  | false ↦ λ e. cc
]) h
  where
    made : ◌≡◌ {A = Result LinkTable LinkFail} (Ok (record { lines = ls })) (Ok t) → ls ≡ t.lines
    made e = let same : ◌≡◌ {A = LinkTable} (record { lines = ls }) t = cc in ap (λ (x : LinkTable). x.lines) same

pub table_size : (bytes : List ℕ) (t : LinkTable) → table_of bytes ≡ Ok t → length (table_names t) ≤ length bytes
unfolding table_of rows_count
table_size bytes t h =
    let lines : t.lines ≡ rows (effects bytes) = table_lines (first_fail (effects bytes)) (rows (effects bytes)) t h in
    let count : length (table_names t) ≡ rows_count (rows (effects bytes)) = ap rows_count lines in
    omega (arith, count, effects_size bytes [] (lines_of bytes), none_before, words_bytes bytes)
