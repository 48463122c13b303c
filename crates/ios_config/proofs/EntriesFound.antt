-- The lines that write entries, among the lines so far.
use Rattle.std.proofs.Common.{◌≡◌, ℕ, ◌+◌, ◌<◌, ◌≤◌, List, [], ◌∷◌, ◌++◌, length, sym, ap, ◌∙◌, drop, get_or, append-nil, append_assoc}
use Rattle.std.specs.Prelude.{option_to_list}
use Rattle.std.proofs.lemmas.List.{at_drop_more, drop_all}
use Rattle.net_text.specs.declared.Line.{Line}
use Rattle.net_text.specs.Lines.{lines_of}
use Rattle.ios_lines.specs.declared.effect.Effect.{Effect}
use Rattle.ios_config.specs.declared.draft.Draft.{Draft}
use Rattle.ios_config.specs.declared.entries.EntryLine.{EntryLine}
use Rattle.ios_config.specs.Rules.{about_list}
use Rattle.ios_config.specs.Draft.{parts, parts_of}
use Rattle.ios_config.specs.Effects.{effect_of}
use Rattle.ios_config.specs.Answers.{seen_in}
use Rattle.ios_config.specs.EntryLines.{entry_written, entries_after, entry_lines}
use Rattle.ios_config.proofs.Folds.{so_far, next_far, same_effect}

dropped : {A : Type 0} (xs : List A) (i : ℕ) (x : A) → i < length xs → x ≡ get_or xs i x → drop i xs ≡ x ∷ drop (i + 1) xs
dropped xs i x l e = at_drop_more (λ ys. ys) xs i x l ∙ ap (λ z. z ∷ drop (i + 1) xs) (sym e)

same : {A : Type 0} (f : Effect → List Effect → A) {d e : Effect} {b c : List Effect} → d ≡ e → b ≡ c → f d b ≡ f e c
same f p q = cc

-- what was found so far, and what the lines behind write, are all of them
abbrev pub AreFound : List ℕ → List Line → ℕ → List EntryLine → Type 0
AreFound bytes lines i found = found ++ entries_after bytes (so_far bytes lines i) (drop i lines) ≡ entry_lines bytes

pub first_found : (bytes : List ℕ) (lines : List Line) (found : List EntryLine) → lines ≡ lines_of bytes → found ≡ [] → AreFound bytes lines 0 found
first_found bytes lines found e f = ap (λ x. x ++ entries_after bytes [] lines) f ∙ ap (entries_after bytes []) e

-- one more line, with what it writes
pub next_found : (bytes : List ℕ) (lines : List Line) (i : ℕ) (l : Line) (d : Draft) (e : Effect) (before after : List EntryLine)
    → i < length lines → l ≡ get_or lines i l → parts d ≡ parts_of (so_far bytes lines i) → e ≡ effect_of bytes (seen_in d) l
    → after ≡ before ++ option_to_list (entry_written l (about_list e)) → AreFound bytes lines i before → AreFound bytes lines (i + 1) after
next_found bytes lines i l d e before after k g h m n r =
    let now = same_effect bytes (so_far bytes lines i) d l e h m in
    ap (λ x. x ++ entries_after bytes (so_far bytes lines (i + 1)) (drop (i + 1) lines)) n
    ∙ append_assoc before (option_to_list (entry_written l (about_list e))) (entries_after bytes (so_far bytes lines (i + 1)) (drop (i + 1) lines))
    ∙ same (λ x es. before ++ (option_to_list (entry_written l (about_list x)) ++ entries_after bytes es (drop (i + 1) lines))) now (next_far bytes lines i l k g)
    ∙ sym (ap (λ ls. before ++ entries_after bytes (so_far bytes lines i) ls) (dropped lines i l k g))
    ∙ r

pub all_found : (bytes : List ℕ) (lines : List Line) (i : ℕ) (found : List EntryLine) → length lines ≤ i → AreFound bytes lines i found → found ≡ entry_lines bytes
all_found bytes lines i found k r =
    sym (ap (λ ls. found ++ entries_after bytes (so_far bytes lines i) ls) (drop_all i lines k) ∙ append-nil found) ∙ r
