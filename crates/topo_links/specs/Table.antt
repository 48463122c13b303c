-- What a link table's text says: a table, or the first line that is refused.
use Rattle.std.specs.Prelude.{ℕ, Bool, true, false, List, [], ◌∷◌, ◌++◌, map, filter_map, flat_map, Option, Some, None, Result, Ok, Err, codes, if◌then◌else◌, ◌==◌}
use Rattle.std.specs.List.{list_any}
use Rattle.std.specs.Str.{bytes_eq}
use Rattle.net_text.specs.declared.Line.{Line}
use Rattle.net_text.specs.Lines.{piece, lines_of}
use Rattle.topo_links.specs.declared.table.LinkKind.{LinkKind}
use Rattle.topo_links.specs.declared.table.LinkKind.TheVariants as kind
use Rattle.topo_links.specs.declared.table.LinkLine.{LinkLine}
use Rattle.topo_links.specs.declared.table.LinkTable.{LinkTable}
use Rattle.topo_links.specs.declared.table.LinkRefusal.TheVariants as refusal
use Rattle.topo_links.specs.declared.table.LinkFail.{LinkFail}
use Rattle.topo_links.specs.Ends.{Word, End, refused, ends_of}

-- the kind that a line's first word names
abbrev pub kind_of : Word → Option LinkKind
kind_of w =
    if bytes_eq w (codes "p2p") then Some kind.P2p
    else (if bytes_eq w (codes "lan") then Some kind.Lan
    else (if bytes_eq w (codes "ingress") then Some kind.Ingress
    else None))

-- the line names an ingress
abbrev pub is_ingress : LinkLine → Bool
is_ingress l = elim (l.kind) [ kind.P2p ↦ false | kind.Lan ↦ false | kind.Ingress ↦ true ]

-- what a line of this kind with these ends puts on the segments, and what it names as an ingress
abbrev pub segment_part : LinkKind → List End → List End
segment_part kind.P2p ends = ends
segment_part kind.Lan ends = ends
segment_part kind.Ingress ends = []

-- the ends of an ingress line, and none of the others
abbrev pub ingress_part : LinkKind → List End → List End
ingress_part kind.P2p ends = []
ingress_part kind.Lan ends = []
ingress_part kind.Ingress ends = ends

-- the ends that stand on the segments, and those that are named as an ingress
abbrev pub segment_ends : List LinkLine → List End
segment_ends ls = flat_map (λ l. segment_part l.kind l.ends) ls

-- the ingresses of lines
abbrev pub ingress_ends : List LinkLine → List End
ingress_ends ls = flat_map (λ l. ingress_part l.kind l.ends) ls

-- the ends that a line of this kind may not name again
abbrev pub taken_in : LinkKind → List End → List End → List End
taken_in kind.P2p on_segments ingresses = on_segments
taken_in kind.Lan on_segments ingresses = on_segments
taken_in kind.Ingress on_segments ingresses = ingresses

-- the same of the lines before
abbrev pub taken_for : LinkKind → List LinkLine → List End
taken_for k ls = taken_in k (segment_ends ls) (ingress_ends ls)

-- What a line says: nothing, a line of the table, or a refusal.
abbrev pub Effect : Type 0
Effect = Result (Option LinkLine) LinkFail

-- a line with its ends, or their refusal
abbrev pub line_with : LinkKind → ℕ → Result (List End) LinkFail → Effect
line_with k n (Ok ends) = Ok (Some (record { line = n; kind = k; ends = ends }))
line_with k n (Err e) = Err e

abbrev pub link_effect : Option LinkKind → ℕ → List LinkLine → Word → List Word → Effect
link_effect None n before w words = Err (refused refusal.BadWord n w)
link_effect (Some k) n before w words = line_with k n (ends_of k n (taken_for k before) [] words)

abbrev pub begins_mark : Word → Bool
begins_mark [] = false
begins_mark (b ∷ bs) = b == 33

-- line n by its words and the lines of the table before it; a comment begins with `!`
unfoldable pub effect_of : ℕ → List LinkLine → List Word → Effect
effect_of n before [] = Ok None
effect_of n before (w ∷ words) = if begins_mark w then Ok None else link_effect (kind_of w) n before w words

abbrev pub row_of : Effect → Option LinkLine
row_of (Ok row) = row
row_of (Err e) = None

abbrev pub fail_of : Effect → Option LinkFail
fail_of (Ok row) = None
fail_of (Err e) = Some e

-- the table's lines among the effects
abbrev pub rows : List Effect → List LinkLine
rows es = filter_map row_of es

abbrev pub first : {A : Type 0} → List A → Option A
first [] = None
first (x ∷ xs) = Some x

-- the first refused line decides
abbrev pub first_fail : List Effect → Option LinkFail
first_fail es = first (filter_map fail_of es)

-- each line's effect, by its words and the effects before it
abbrev pub line_effect : List ℕ → List Effect → Line → Effect
line_effect bytes before l = effect_of l.number (rows before) (map (piece bytes) l.words)

abbrev pub effects_after : List ℕ → List Effect → List Line → List Effect
effects_after bytes before [] = before
effects_after bytes before (l ∷ ls) = effects_after bytes (before ++ line_effect bytes before l ∷ []) ls

-- the effects of all lines
abbrev pub effects : List ℕ → List Effect
effects bytes = effects_after bytes [] (lines_of bytes)

-- where no line is refused, one at least is an ingress line
abbrev pub whole_table : List LinkLine → Result LinkTable LinkFail
whole_table ls = if list_any is_ingress ls then Ok (record { lines = ls }) else Err (refused refusal.NoIngress 0 [])

abbrev pub table_by : Option LinkFail → List LinkLine → Result LinkTable LinkFail
table_by (Some e) ls = Err e
table_by None ls = whole_table ls

-- the table that the text says, or its refusal
unfoldable pub table_of : List ℕ → Result LinkTable LinkFail
table_of bytes = table_by (first_fail (effects bytes)) (rows (effects bytes))

-- the names of the table: those of its ends, in their order
abbrev pub end_names : List End → List Word
end_names ends = flat_map (λ e. e.0 ∷ e.1 ∷ []) ends

-- the names of all ends
abbrev pub table_names : LinkTable → List Word
table_names t = flat_map (λ l. end_names l.ends) t.lines
