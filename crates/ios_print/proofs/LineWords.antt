-- The words of a text's lines are words.
use Rattle.std.proofs.Common.{◌≡◌, ℕ, Bool, true, false, cond, not, ◌||◌, List, [], ◌∷◌, length, map, refl, sym, subst}
use Rattle.std.specs.Prelude.{filter, nat_lt}
use Rattle.std.specs.List.{AllByRecursion, slice_split, onto_first}
use Rattle.net_text.specs.declared.Line.{Line}
use Rattle.net_text.specs.Lines.{is_line_end, is_separator, is_indented, lines_of}
use Rattle.net_text.specs.Texts.{is_word, words, texts_of, text_at, is_inside, IsWord}
use Rattle.net_text.proofs.Whole.{texts_there}
use Rattle.ios_config.specs.Effects.{line_words}
use Rattle.ios_print.proofs.Has.{Each}

-- the parts between bytes that pass a test have only bytes of the list that don't
module _ (p : ℕ → Bool) (P Q : ℕ → Type 0) (keeps : (b : ℕ) → P b → p b ≡ false → Q b) where
  onto_all : (b : ℕ) (parts : List (List ℕ)) → Q b → AllByRecursion (λ w. AllByRecursion Q w) parts → AllByRecursion (λ w. AllByRecursion Q w) (onto_first b parts)
  onto_all b [] q a = ((q, tt), tt)
  onto_all b (w ∷ parts) q a = ((q, a.0), a.1)

  parts_all : (bs : List ℕ) → AllByRecursion P bs → AllByRecursion (λ w. AllByRecursion Q w) (slice_split p bs)
  parts_all [] a = (tt, tt)
  parts_all (b ∷ bs) a = go (p b) refl (parts_all bs a.1)
    where
      go : (t : Bool) → p b ≡ t → AllByRecursion (λ w. AllByRecursion Q w) (slice_split p bs) → AllByRecursion (λ w. AllByRecursion Q w) (cond t ([] ∷ slice_split p bs) (onto_first b (slice_split p bs)))
      go true e h = (tt, h)
      go false e h = onto_all b (slice_split p bs) (keeps b a.0 e) h

both_no : (s l : Bool) → s ≡ false → l ≡ false → not (s || l) ≡ true
both_no s l h k = rw (h, k) refl

inside_is : (b : ℕ) → is_line_end b ≡ false → is_separator b ≡ false → is_inside b ≡ true
inside_is b h k = both_no (is_separator b) (is_line_end b) k h

is_a_word : (w : List ℕ) → is_word w ≡ true → AllByRecursion (λ b. is_inside b ≡ true) w → IsWord w
is_a_word [] h a = absurd (cc)
is_a_word (b ∷ w) h a = a

filled_words : (ws : List (List ℕ)) → AllByRecursion (λ w. AllByRecursion (λ b. is_inside b ≡ true) w) ws → Each (filter is_word ws)
filled_words [] a = tt
filled_words (w ∷ ws) a = go (is_word w) refl (filled_words ws a.1)
  where
    go : (t : Bool) → is_word w ≡ t → Each (filter is_word ws) → Each (cond t (w ∷ filter is_word ws) (filter is_word ws))
    go true e h = (is_a_word w e a.0, h)
    go false e h = h

words_are : (line : List ℕ) → AllByRecursion (λ b. is_line_end b ≡ false) line → Each (words line)
words_are line a = filled_words (slice_split is_separator line) (parts_all is_separator (λ b. is_line_end b ≡ false) (λ b. is_inside b ≡ true) inside_is line a)

texts_are : (lines : List (List ℕ)) → AllByRecursion (λ line. AllByRecursion (λ b. is_line_end b ≡ false) line) lines → AllByRecursion (λ t. Each t.1) (texts_of lines)
texts_are [] a = tt
texts_are (line ∷ lines) a = go (nat_lt 0 (length (words line))) (texts_are lines a.1)
  where
    go : (t : Bool) → AllByRecursion (λ t. Each t.1) (texts_of lines) → AllByRecursion (λ t. Each t.1) (cond t ((is_indented line, words line) ∷ texts_of lines) (texts_of lines))
    go true h = (words_are line a.0, h)
    go false h = h

any_bytes : (bytes : List ℕ) → AllByRecursion (λ b. Unit {0}) bytes
any_bytes [] = tt
any_bytes (b ∷ bytes) = (tt, any_bytes bytes)

line_by_line : (bytes : List ℕ) (ls : List Line) → AllByRecursion (λ t. Each t.1) (map (text_at bytes) ls) → AllByRecursion (λ l. Each (line_words bytes l)) ls
line_by_line bytes [] a = tt
line_by_line bytes (l ∷ ls) a = (a.0, line_by_line bytes ls a.1)

pub lines_are : (bytes : List ℕ) → AllByRecursion (λ l. Each (line_words bytes l)) (lines_of bytes)
lines_are bytes = line_by_line bytes (lines_of bytes) (subst (λ ts. AllByRecursion (λ t. Each t.1) ts) (sym (texts_there bytes))
    (texts_are (slice_split is_line_end bytes) (parts_all is_line_end (λ b. Unit {0}) (λ b. is_line_end b ≡ false) (λ b u e. e) bytes (any_bytes bytes))))
