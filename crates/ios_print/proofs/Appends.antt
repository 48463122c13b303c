-- Texts that are written one after the other.
use Rattle.std.proofs.Common.{◌≡◌, ℕ, ◌+◌, ◌<◌, Bool, List, [], ◌∷◌, ◌++◌, length, get_or, drop, map, ap, sym, ◌∙◌, append-nil, append_assoc}
use Rattle.std.proofs.lemmas.List.{drop_more}
use Rattle.std.specs.Prelude.{OnOk, Result, Ok, Err, flat_map}
use Rattle.net_text.specs.Texts.{spell, indentation}
use Rattle.ios_lines.specs.Words.{Word, Words}
use Rattle.ios_print.specs.Print.{Row}
use Rattle.ios_print.specs.Tail.{tail}
use Rattle.ios_print.proofs.Tails.{joined, tail_on, spelled_on}

-- a text, and then what the last call adds
pub text_after : {T E : Type 0} (r : Result T E) (old mid new a b : List ℕ) → mid ≡ old ++ a → OnOk r (new ≡ mid ++ b) → OnOk r (new ≡ old ++ (a ++ b))
text_after (Ok x) old mid new a b e f = f ∙ ap (λ t. t ++ b) e ∙ append_assoc old a b
text_after (Err x) old mid new a b e f = tt

-- words, and then more words
pub words_after : {T E : Type 0} (r : Result T E) (old mid new : List ℕ) (ws vs : Words) → mid ≡ old ++ tail ws → OnOk r (new ≡ mid ++ tail vs) → OnOk r (new ≡ old ++ tail (ws ++ vs))
words_after (Ok x) old mid new ws vs e f = f ∙ ap (λ t. t ++ tail vs) e ∙ append_assoc old (tail ws) (tail vs) ∙ ap (λ t. old ++ t) (sym (tail_on ws vs))
words_after (Err x) old mid new ws vs e f = tt

-- one last word, and last words
pub last_word : {T E : Type 0} (r : Result T E) (old new w : List ℕ) → OnOk r (new ≡ old ++ 32 ∷ w) → OnOk r (new ≡ old ++ tail (w ∷ []))
last_word (Ok x) old new w f = f ∙ ap (λ t. old ++ (32 ∷ t)) (sym (append-nil w))
last_word (Err x) old new w f = tt

pub last_words : {T E : Type 0} (r : Result T E) (old new : List ℕ) (ws : Words) → OnOk r (new ≡ old ++ tail ws) → OnOk r (new ≡ old ++ tail (ws ++ []))
last_words (Ok x) old new ws f = f ∙ ap (λ t. old ++ tail t) (sym (append-nil ws))
last_words (Err x) old new ws f = tt

-- lines, and then more lines
pub rows_after : {T E : Type 0} (r : Result T E) (old mid new : List ℕ) (rs qs : List Row) → mid ≡ old ++ flat_map spell rs → OnOk r (new ≡ mid ++ flat_map spell qs) → OnOk r (new ≡ old ++ flat_map spell (rs ++ qs))
rows_after (Ok x) old mid new rs qs e f = f ∙ ap (λ t. t ++ flat_map spell qs) e ∙ append_assoc old (flat_map spell rs) (flat_map spell qs) ∙ ap (λ t. old ++ t) (sym (spelled_on rs qs))
rows_after (Err x) old mid new rs qs e f = tt

-- how a line is spelled, by its first word and the others
pub spelled : (i : Bool) (w : Word) (ws : Words) → spell (i, w ∷ ws) ≡ indentation i ++ (w ++ (tail ws ++ 10 ∷ []))
spelled i w ws =
    ap (λ t. (indentation i ++ t) ++ 10 ∷ []) (joined w ws)
    ∙ append_assoc (indentation i) (w ++ tail ws) (10 ∷ [])
    ∙ ap (λ t. indentation i ++ t) (append_assoc w (tail ws) (10 ∷ []))

-- the start of a line, its other words, and its end
pub line : {T E : Type 0} (r : Result T E) (old first more new head text : List ℕ) (ws : Words) → first ≡ old ++ head → more ≡ first ++ tail ws → OnOk r (new ≡ more ++ 10 ∷ []) → text ≡ head ++ (tail ws ++ 10 ∷ []) → OnOk r (new ≡ old ++ text)
line (Ok x) old first more new head text ws e f g h =
    g ∙ ap (λ t. t ++ 10 ∷ []) f ∙ append_assoc first (tail ws) (10 ∷ []) ∙ ap (λ t. t ++ (tail ws ++ 10 ∷ [])) e
    ∙ append_assoc old head (tail ws ++ 10 ∷ []) ∙ ap (λ t. old ++ t) (sym h)
line (Err x) old first more new head text ws e f g h = tt

-- the lines of the next item of a list, and the lines of the items after it
pub next_rows : {X : Type 0} (f : X → List Row) (xs : List X) (i : ℕ) (x : X) (mid new whole : List ℕ) → i < length xs → x ≡ get_or xs i x → new ≡ mid ++ flat_map spell (f x)
    → mid ++ flat_map spell (flat_map f (drop i xs)) ≡ whole → new ++ flat_map spell (flat_map f (drop (i + 1) xs)) ≡ whole
next_rows f xs i x mid new whole h e a rest =
    let left = drop (i + 1) xs in
    ap (λ t. t ++ flat_map spell (flat_map f left)) a
    ∙ append_assoc mid (flat_map spell (f x)) (flat_map spell (flat_map f left))
    ∙ ap (λ t. mid ++ t) (sym (spelled_on (f x) (flat_map f left)))
    ∙ ap (λ y. mid ++ flat_map spell (f y ++ flat_map f left)) e
    ∙ sym (ap (λ ys. mid ++ flat_map spell (flat_map f ys)) (drop_more xs i x h))
    ∙ rest

-- the same where each item has one line
pub next_row : {X : Type 0} (f : X → Row) (xs : List X) (i : ℕ) (d : X) (mid new whole : List ℕ) → i < length xs → new ≡ mid ++ spell (f (get_or xs i d))
    → mid ++ flat_map spell (map f (drop i xs)) ≡ whole → new ++ flat_map spell (map f (drop (i + 1) xs)) ≡ whole
next_row f xs i d mid new whole h a rest =
    let left = drop (i + 1) xs in
    ap (λ t. t ++ flat_map spell (map f left)) a
    ∙ append_assoc mid (spell (f (get_or xs i d))) (flat_map spell (map f left))
    ∙ sym (ap (λ ys. mid ++ flat_map spell (map f ys)) (drop_more xs i d h))
    ∙ rest
