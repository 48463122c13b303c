-- The words of a text are names.
use Rattle.std.proofs.Common.{◌≡◌, ℕ, Bool, true, false, cond, not, ◌||◌, List, [], ◌∷◌, ◌++◌, refl, sym, ap, ◌∙◌}
use Rattle.std.specs.Prelude.{filter}
use Rattle.std.specs.List.{AllByRecursion, slice_split, onto_first}
use Rattle.std.specs.declared.cmp.Ordering.TheVariants.{Less, Equal, Greater}
use Rattle.std.proofs.lemmas.Grind.{flat_map-append, fold-append}
use Rattle.net_text.specs.Lines.{is_line_end, is_separator}
use Rattle.net_text.specs.Texts.{is_word, words, is_inside, IsWord}
use Rattle.net_types.specs.Order.{put_in_order}
use Rattle.net_types.proofs.Ordered.{in_order_sorted}
use Rattle.report_text.specs.Reports.{AreNames}
use Rattle.topo_links.specs.Names.{name_cmp, add_name, add_names, sorted_names}
use Rattle.topo_links.proofs.NameOrder.{name_total, name_exact, sorted_once}
use Rattle.view_core.specs.Names.{text_lines, is_cube, line_names, all_names, names_of}

-- the parts between bytes that pass a test have only bytes of the list that don't
module _ (p : ℕ → Bool) (P Q : ℕ → Type 0) (keeps : (b : ℕ) → P b → p b ≡ false → Q b) where
  onto_all : (b : ℕ) (parts : List (List ℕ)) → Q b → AllByRecursion (λ w. AllByRecursion Q w) parts → AllByRecursion (λ w. AllByRecursion Q w) (onto_first b parts)
  onto_all b [] q a = ((q, tt), tt)
  onto_all b (w ∷ parts) q a = ((q, a.0), a.1)

  parts_all : (bs : List ℕ) → AllByRecursion P bs → AllByRecursion (λ w. AllByRecursion Q w) (slice_split p bs)
  parts_all [] a = (tt, tt)
  parts_all (b ∷ bs) a = go (p b) refl (parts_all bs a.1)
    where
      go : (t : Bool) → p b ≡ t → AllByRecursion (λ w. AllByRecursion Q w) (slice_split p bs) → AllByRecursion (λ w. AllByRecursion Q w) (cond t ([] ∷ slice_split p bs) (onto_first b (slice_split p bs)))
      go true e h = (tt, h)
      go false e h = onto_all b (slice_split p bs) (keeps b a.0 e) h

both_no : (s l : Bool) → s ≡ false → l ≡ false → not (s || l) ≡ true
both_no s l h k = rw (h, k) refl

inside_is : (b : ℕ) → is_line_end b ≡ false → is_separator b ≡ false → is_inside b ≡ true
inside_is b h k = both_no (is_separator b) (is_line_end b) k h

is_a_word : (w : List ℕ) → is_word w ≡ true → AllByRecursion (λ b. is_inside b ≡ true) w → IsWord w
is_a_word [] h a = absurd (cc)
is_a_word (b ∷ w) h a = a

abbrev AreWords : List (List ℕ) → Type 0
AreWords ws = AllByRecursion IsWord ws

filled_words : (ws : List (List ℕ)) → AllByRecursion (λ w. AllByRecursion (λ b. is_inside b ≡ true) w) ws → AreWords (filter is_word ws)
filled_words [] a = tt
filled_words (w ∷ ws) a = go (is_word w) refl (filled_words ws a.1)
  where
    go : (t : Bool) → is_word w ≡ t → AreWords (filter is_word ws) → AreWords (cond t (w ∷ filter is_word ws) (filter is_word ws))
    go true e h = (is_a_word w e a.0, h)
    go false e h = h

line_names_are : (line : List ℕ) → AllByRecursion (λ b. is_line_end b ≡ false) line → AreWords (line_names line)
line_names_are line a = go (is_cube line)
  where
    go : (t : Bool) → AreWords (cond t [] (words line))
    go true = tt
    go false = filled_words (slice_split is_separator line) (parts_all is_separator (λ b. is_line_end b ≡ false) (λ b. is_inside b ≡ true) inside_is line a)

more_words : (xs ys : List (List ℕ)) → AreWords xs → AreWords ys → AreWords (xs ++ ys)
more_words [] ys a b = b
more_words (x ∷ xs) ys a b = (a.0, more_words xs ys a.1 b)

all_names_are : (lines : List (List ℕ)) → AllByRecursion (λ line. AllByRecursion (λ b. is_line_end b ≡ false) line) lines → AreWords (all_names lines)
all_names_are [] a = tt
all_names_are (line ∷ lines) a = more_words (line_names line) (all_names lines) (line_names_are line a.0) (all_names_are lines a.1)

any_bytes : (bytes : List ℕ) → AllByRecursion (λ b. Unit {0}) bytes
any_bytes [] = tt
any_bytes (b ∷ bytes) = (tt, any_bytes bytes)

put_words : (x : List ℕ) (xs : List (List ℕ)) → IsWord x → AreWords xs → AreWords (put_in_order name_cmp x xs)
put_words x [] h a = (h, tt)
put_words x (y ∷ ys) h a =
    elim (name_cmp x y) as (λ r. AreWords (elim r as (λ _. List (List ℕ)) [ Less ↦ x ∷ y ∷ ys | Equal ↦ y ∷ ys | Greater ↦ y ∷ put_in_order name_cmp x ys ])) [
      | Less ↦ (h, a)
      | Equal ↦ a
      | Greater ↦ (a.0, put_words x ys h a.1)
    ]

sorted_words : (xs : List (List ℕ)) → AreWords xs → AreWords (sorted_names xs)
sorted_words [] a = tt
sorted_words (x ∷ xs) a = put_words x (sorted_names xs) a.0 (sorted_words xs a.1)

-- the names of any text are words in order
pub own_names : (bytes : List ℕ) → AreNames (names_of bytes)
own_names bytes = record {
  order = in_order_sorted name_cmp name_total name_exact (all_names (text_lines bytes));
  words = sorted_words (all_names (text_lines bytes)) (all_names_are (text_lines bytes) (parts_all is_line_end (λ b. Unit {0}) (λ b. is_line_end b ≡ false) (λ b _ e. e) bytes (any_bytes bytes)));
}

-- names that were added one after the other, and put in order
pub names_sorted : (bytes : List ℕ) (lines : List (List ℕ)) (names : List (List ℕ)) → lines ≡ text_lines bytes → names ≡ add_names [] (all_names lines) → sorted_names names ≡ names_of bytes
names_sorted bytes lines names same added = ap sorted_names added ∙ sorted_once (all_names lines) ∙ ap (λ ls. sorted_names (all_names ls)) same

pub one_line : (names after : List (List ℕ)) (lines : List (List ℕ)) (line : List ℕ) → names ≡ add_names [] (all_names lines) → after ≡ add_names names (line_names line) → after ≡ add_names [] (all_names (lines ++ line ∷ []))
one_line names after lines line h k =
    k ∙ ap (λ ns. add_names ns (line_names line)) h ∙ sym (fold-append add_name [] (all_names lines) (line_names line)) ∙ ap (add_names []) (sym (flat_map-append line_names lines (line ∷ []) ∙ ap (λ ws. all_names lines ++ ws) (none (line_names line))))
  where
    none : (ws : List (List ℕ)) → ws ++ [] ≡ ws
    none [] = refl
    none (w ∷ ws) = ap (λ l. w ∷ l) (none ws)
