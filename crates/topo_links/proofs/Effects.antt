-- The effects of the lines so far.
use Rattle.std.proofs.Common.{◌≡◌, ℕ, ◌+◌, ◌<◌, List, [], ◌∷◌, ◌++◌, length, map, refl, sym, ap, ◌∙◌, take, drop, get_or}
use Rattle.std.specs.Prelude.{Option, Some, None, Ok, Err, filter_map, option_to_list}
use Rattle.std.specs.List.{cons_option}
use Rattle.std.proofs.lemmas.List.{take_more, take-append-drop}
use Rattle.std.proofs.lemmas.List.Elements.{filter_map-append}
use Rattle.net_text.specs.declared.Line.{Line}
use Rattle.net_text.specs.Lines.{piece}
use Rattle.topo_links.specs.declared.table.LinkLine.{LinkLine}
use Rattle.topo_links.specs.declared.table.LinkFail.{LinkFail}
use Rattle.topo_links.specs.declared.table.LinkFail.TheVariants as fail
use Rattle.topo_links.specs.Ends.{Word, GivesFail}
use Rattle.topo_links.specs.Table.{Effect, effect_of, row_of, fail_of, rows, first, first_fail, line_effect, effects_after}
use Rattle.topo_links.specs.Draft.{AreRows, FirstFail}

-- the effects of the first i lines
abbrev pub so_far : List ℕ → List Line → ℕ → List Effect
so_far bytes lines i = effects_after bytes [] (take i lines)

effects_more : (bytes : List ℕ) (es : List Effect) (ls : List Line) (l : Line) → effects_after bytes es (ls ++ l ∷ []) ≡ effects_after bytes es ls ++ line_effect bytes (effects_after bytes es ls) l ∷ []
effects_more bytes es [] l = refl
effects_more bytes es (x ∷ ls) l = effects_more bytes (es ++ line_effect bytes es x ∷ []) ls l

effects_on : (bytes : List ℕ) (es : List Effect) (xs ys : List Line) → effects_after bytes es (xs ++ ys) ≡ effects_after bytes (effects_after bytes es xs) ys
effects_on bytes es [] ys = refl
effects_on bytes es (x ∷ xs) ys = effects_on bytes (es ++ line_effect bytes es x ∷ []) xs ys

all_lines : (bytes : List ℕ) (lines : List Line) (i : ℕ) → effects_after bytes [] lines ≡ effects_after bytes (so_far bytes lines i) (drop i lines)
all_lines bytes lines i = ap (effects_after bytes []) (sym (take-append-drop i lines)) ∙ effects_on bytes [] (take i lines) (drop i lines)

next_far : (bytes : List ℕ) (lines : List Line) (i : ℕ) (l : Line) → i < length lines → l ≡ get_or lines i l → so_far bytes lines (i + 1) ≡ so_far bytes lines i ++ line_effect bytes (so_far bytes lines i) l ∷ []
next_far bytes lines i l k e = ap (effects_after bytes []) (take_more lines i l k ∙ ap (λ x. take i lines ++ x ∷ []) (sym e)) ∙ effects_more bytes [] (take i lines) l

-- one more effect: the refusals and the rows
first_kept : {A : Type 0} (xs ys : List A) (x : A) → first xs ≡ Some x → first (xs ++ ys) ≡ Some x
first_kept [] ys x h = cc
first_kept (z ∷ xs) ys x h = h

first_new : {A : Type 0} (xs ys : List A) → first xs ≡ None → first (xs ++ ys) ≡ first ys
first_new [] ys h = refl
first_new (x ∷ xs) ys h = cc

fail_kept : (es : List Effect) (e : Effect) (f : LinkFail) → first_fail es ≡ Some f → first_fail (es ++ e ∷ []) ≡ Some f
fail_kept es e f h = ap first (filter_map-append fail_of es (e ∷ [])) ∙ first_kept (filter_map fail_of es) (filter_map fail_of (e ∷ [])) f h

one_fail : (o : Option LinkFail) → first (cons_option o []) ≡ o
one_fail None = refl
one_fail (Some f) = refl

fail_new : (es : List Effect) (e : Effect) → first_fail es ≡ None → first_fail (es ++ e ∷ []) ≡ fail_of e
fail_new es e h = ap first (filter_map-append fail_of es (e ∷ [])) ∙ first_new (filter_map fail_of es) (filter_map fail_of (e ∷ [])) h ∙ one_fail (fail_of e)

one_row : (o : Option LinkLine) → cons_option o [] ≡ option_to_list o
one_row None = refl
one_row (Some l) = refl

pub rows_new : (es : List Effect) (e : Effect) → rows (es ++ e ∷ []) ≡ rows es ++ option_to_list (row_of e)
rows_new es e = filter_map-append row_of es (e ∷ []) ∙ ap (λ ls. rows es ++ ls) (one_row (row_of e))

fail_stays : (bytes : List ℕ) (ls : List Line) (es : List Effect) (f : LinkFail) → first_fail es ≡ Some f → first_fail (effects_after bytes es ls) ≡ Some f
fail_stays bytes [] es f h = h
fail_stays bytes (l ∷ ls) es f h = fail_stays bytes ls (es ++ line_effect bytes es l ∷ []) f (fail_kept es (line_effect bytes es l) f h)

-- the effect of a line, by the rows so far
same_effect : (bytes : List ℕ) (es : List Effect) (l : Line) (words : List Word) (ls : List LinkLine) → AreRows es ls → words ≡ map (piece bytes) l.words → line_effect bytes es l ≡ effect_of l.number ls words
same_effect bytes es l words ls h w = ap (λ r. effect_of l.number r (map (piece bytes) l.words)) (sym h.lines) ∙ ap (effect_of l.number ls) (sym w)

-- a line that is accepted adds its row
pub next_rows : (bytes : List ℕ) (lines : List Line) (i : ℕ) (l : Line) (words : List Word) (ls ms : List LinkLine) (row : Option LinkLine) → i < length lines → l ≡ get_or lines i l
    → AreRows (so_far bytes lines i) ls → words ≡ map (piece bytes) l.words → effect_of l.number ls words ≡ Ok row → ms ≡ ls ++ option_to_list row
    → AreRows (so_far bytes lines (i + 1)) ms
next_rows bytes lines i l words ls ms row k e h w f m =
    let es = so_far bytes lines i in
    let this : line_effect bytes es l ≡ Ok row = same_effect bytes es l words ls h w ∙ f in
    let next = next_far bytes lines i l k e in
    record {
      accepted = ap first_fail next ∙ fail_new es (line_effect bytes es l) h.accepted ∙ ap fail_of this;
      lines = m ∙ ap (λ r. r ++ option_to_list row) h.lines ∙ sym (ap rows next ∙ rows_new es (line_effect bytes es l) ∙ ap (λ e. rows es ++ option_to_list (row_of e)) this);
    }

refused_here : (bytes : List ℕ) (lines : List Line) (i : ℕ) (l : Line) (words : List Word) (ls : List LinkLine) (f : LinkFail) → i < length lines → l ≡ get_or lines i l
    → AreRows (so_far bytes lines i) ls → words ≡ map (piece bytes) l.words → effect_of l.number ls words ≡ Err f
    → first_fail (effects_after bytes [] lines) ≡ Some f
refused_here bytes lines i l words ls f k e h w g =
    let es = so_far bytes lines i in
    let this : line_effect bytes es l ≡ Err f = same_effect bytes es l words ls h w ∙ g in
    let now : first_fail (so_far bytes lines (i + 1)) ≡ Some f = ap first_fail (next_far bytes lines i l k e) ∙ fail_new es (line_effect bytes es l) h.accepted ∙ ap fail_of this in
    ap first_fail (all_lines bytes lines (i + 1)) ∙ fail_stays bytes (drop (i + 1) lines) (so_far bytes lines (i + 1)) f now

-- the first line that is refused decides
pub refused_first : (bytes : List ℕ) (lines : List Line) (i : ℕ) (l : Line) (words : List Word) (ls : List LinkLine) (f : LinkFail) → i < length lines → l ≡ get_or lines i l
    → AreRows (so_far bytes lines i) ls → words ≡ map (piece bytes) l.words → GivesFail f (effect_of l.number ls words)
    → FirstFail f (effects_after bytes [] lines)
refused_first bytes lines i l words ls fail.NoMemory k e h w g = tt
refused_first bytes lines i l words ls (fail.Refused a b c) k e h w g = refused_here bytes lines i l words ls (fail.Refused a b c) k e h w g
