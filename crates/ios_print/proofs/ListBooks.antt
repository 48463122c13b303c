-- What the lists of a text are, line by line.
use Rattle.std.proofs.Common.{◌≡◌, ℕ, ◌+◌, ◌<◌, ◌≤◌, Bool, true, false, cond, not, List, [], ◌∷◌, ◌++◌, map, refl, sym, subst, arith, Ordering, Less, Equal, Greater}
use Rattle.std.specs.Prelude.{Option, Some, None, nat_lt, option_and_then, slice_get}
use Rattle.std.specs.List.{AllByRecursion}
use Rattle.std.specs.Ordering.{nat_cmp, MatchOrdering, match_ordering}
use Rattle.std.specs.Str.{bytes_eq}
use Rattle.std.proofs.lemmas.Bool.{ltb-false}
use Rattle.std.proofs.lemmas.Cmp.{ranked}
use Rattle.net_text.specs.Texts.{IsWord}
use Rattle.net_types.specs.declared.config.Entry.{Entry}
use Rattle.ios_lines.specs.declared.effect.WrittenList.{WrittenList}
use Rattle.ios_lines.specs.declared.effect.ListLine.{ListLine}
use Rattle.ios_lines.specs.Words.{Word, Words}
use Rattle.ios_lines.specs.Lists.{place_of, place_after}
use Rattle.ios_lines.specs.Books.{Book, put_entry, next_sequence, next_after, greatest}
use Rattle.ios_lines.proofs.Keyed.{same_is, itself, other_way, none_first, Once}
use Rattle.ios_lists.specs.ListCommands.{has_range, list_at, other_kind}
use Rattle.ios_config.specs.Rules.{list_of}
use Rattle.ios_config.specs.Draft.{put_line, with_line, new_list, put_list}
use Rattle.ios_print.specs.PrintableLists.{IsEntry, AreEntries, AreLists}

-- ---- books

-- an entry with a sequence that may be written
pub record IsSequenced (extended : Bool) (e : Entry) : Type 0 where
  pub some : 1 ≤ e.sequence
  pub most : e.sequence ≤ 2147483647
  pub entry : IsEntry extended e

abbrev pub IsEntryIfAny : Bool → Option Entry → Type 0
IsEntryIfAny extended None = Unit {0}
IsEntryIfAny extended (Some e) = IsSequenced extended e

-- entries by rising sequence
abbrev pub IsBook : Bool → ℕ → Book → Type 0
IsBook extended below [] = Unit {0}
IsBook extended below (x ∷ b) = (x.0 ≡ x.1.sequence) × (below < x.0) × IsSequenced extended x.1 × IsBook extended x.0 b

put_is : (extended : Bool) (e : Entry) → IsSequenced extended e → (below : ℕ) (b : Book) → below < e.sequence → IsBook extended below b → IsBook extended below (put_entry b e)
put_is extended e is below [] h a = (refl, h, is, tt)
put_is extended e is below (x ∷ b) h a = by (nat_cmp e.sequence x.0) (ranked e.sequence x.0 (nat_cmp e.sequence x.0) refl) (λ k. put_is extended e is x.0 b k a.3)
  where
    by : (r : Ordering) → MatchOrdering r (e.sequence < x.0) (e.sequence ≡ x.0) (x.0 < e.sequence) → (x.0 < e.sequence → IsBook extended x.0 (put_entry b e))
        → IsBook extended below (match_ordering r ((e.sequence, e) ∷ x ∷ b) ((x.0, e) ∷ b) (x ∷ put_entry b e))
    by Less k ih = (refl, h, is, (a.0, k, a.2, a.3))
    by Equal k ih = (sym k, a.1, is, a.3)
    by Greater k ih = (a.0, a.1, a.2, ih k)

pub put_line_is : (extended : Bool) (b : Book) (o : Option Entry) → IsEntryIfAny extended o → IsBook extended 0 b → IsBook extended 0 (put_line b o)
put_line_is extended b None is a = a
put_line_is extended b (Some e) is a = put_is extended e is 0 b (omega (arith, is.some)) a

entries_are : (extended : Bool) (below : ℕ) (b : Book) → IsBook extended below b → AreEntries extended below (map (λ x. x.1) b)
entries_are extended below [] a = tt
entries_are extended below (x ∷ b) a = (omega (arith, a.0, a.1), a.2.most, a.2.entry, subst (λ n. AreEntries extended n (map (λ y. y.1) b)) a.0 (entries_are extended x.0 b a.3))

-- the next sequence may be written
pub next_bounds : (b : Book) (n : ℕ) → next_sequence b ≡ Some n → (1 ≤ n) × (n ≤ 2147483647)
next_bounds b n h = go (greatest b) h
  where
    go : (o : Option ℕ) → next_after o ≡ Some n → (1 ≤ n) × (n ≤ 2147483647)
    go None k = let e : 10 ≡ n = cc in (omega (arith, e), omega (arith, e))
    go (Some m) k = (elim (nat_lt 2147483637 m) as (λ t. nat_lt 2147483637 m ≡ t → cond t None (Some (m + 10)) ≡ Some n → (1 ≤ n) × (n ≤ 2147483647)) [
      | true ↦ λ e j. absurd (cc)
      | false ↦ λ e j. let v : m + 10 ≡ n = cc in (omega (arith, v), omega (arith, v, ltb-false 2147483637 m e))
    ]) refl k

-- ---- lists

pub record IsWritten (l : WrittenList) : Type 0 where
  pub name : IsWord l.name
  pub range : has_range l.extended l.name ≡ true
  pub book : IsBook l.extended 0 l.book

-- a line of a list of this name
pub record IsListLine (n : Word) (l : ListLine) : Type 0 where
  pub name : IsWord n
  pub range : has_range l.extended n ≡ true
  pub entry : IsEntryIfAny l.extended l.entry

abbrev pub Agrees : Word → Bool → WrittenList → Type 0
Agrees n extended l = l.name ≡ n → l.extended ≡ extended

-- the lists of this name have this kind
abbrev pub AllAgree : Word → Bool → List WrittenList → Type 0
AllAgree n extended ls = AllByRecursion (Agrees n extended) ls

abbrev pub AllWritten : List WrittenList → Type 0
AllWritten ls = AllByRecursion IsWritten ls

abbrev pub names_in : List WrittenList → Words
names_in ls = map (λ l. l.name) ls

all_append : (Q : WrittenList → Type 0) (ls : List WrittenList) (l : WrittenList) → AllByRecursion Q ls → Q l → AllByRecursion Q (ls ++ l ∷ [])
all_append Q [] l a q = (q, tt)
all_append Q (x ∷ ls) l a q = (a.0, all_append Q ls l a.1 q)

-- one more line, where it makes of the lists of its name and of a new one what each is to be, and the others are so
module _ (R Q : WrittenList → Type 0) (n : Word) (line : ListLine) (new : Q (with_line (new_list n) line)) (others : (l : WrittenList) → R l → Q l) (own : (l : WrittenList) → l.name ≡ n → R l → Q (with_line l line)) where
  all_others : (ls : List WrittenList) → AllByRecursion R ls → AllByRecursion Q ls
  all_others [] a = tt
  all_others (l ∷ ls) a = (others l a.0, all_others ls a.1)

  put_all : (ls : List WrittenList) → AllByRecursion R ls → AllByRecursion Q (put_list (place_of n (names_in ls)) ls n line)
  put_all [] a = (new, tt)
  put_all (l ∷ ls) a = go (bytes_eq n l.name) (place_of n (names_in ls)) refl (put_all ls a.1)
    where
      go : (b : Bool) (o : Option ℕ) → bytes_eq n l.name ≡ b → AllByRecursion Q (put_list o ls n line) → AllByRecursion Q (put_list (place_after b o) (l ∷ ls) n line)
      go true o e ih = (own l (sym (same_is n l.name e)) a.0, all_others ls a.1)
      go false None e ih = (others l a.0, ih)
      go false (Some i) e ih = (others l a.0, ih)

both_all : (n : Word) (extended : Bool) (ls : List WrittenList) → AllWritten ls → AllAgree n extended ls → AllByRecursion (λ l. IsWritten l × Agrees n extended l) ls
both_all n extended [] a b = tt
both_all n extended (l ∷ ls) a b = ((a.0, b.0), both_all n extended ls a.1 b.1)

new_written : (n : Word) (line : ListLine) → IsListLine n line → IsWritten (with_line (new_list n) line)
new_written n line is = record { name = is.name; range = is.range; book = put_line_is line.extended [] line.entry is.entry tt }

more_written : (n : Word) (line : ListLine) → IsListLine n line → (l : WrittenList) → l.name ≡ n → IsWritten l × Agrees n line.extended l → IsWritten (with_line l line)
more_written n line is l e w = record {
  name = w.0.name;
  range = subst (λ m. has_range line.extended m ≡ true) (sym e) is.range;
  book = put_line_is line.extended l.book line.entry is.entry (subst (λ k. IsBook k 0 l.book) (w.1 e) w.0.book);
}

-- a line of the kind of its list leaves lists so
pub put_written : (n : Word) (line : ListLine) (ls : List WrittenList) → IsListLine n line → AllWritten ls → AllAgree n line.extended ls → AllWritten (put_list (place_of n (names_in ls)) ls n line)
put_written n line ls is a b = put_all (λ l. IsWritten l × Agrees n line.extended l) IsWritten n line (new_written n line is) (λ l w. w.0) (more_written n line is) ls (both_all n line.extended ls a b)

pub put_agree : (n : Word) (line : ListLine) (ls : List WrittenList) → AllAgree n line.extended ls → AllAgree n line.extended (put_list (place_of n (names_in ls)) ls n line)
put_agree n line ls a = put_all (Agrees n line.extended) (Agrees n line.extended) n line (λ e. refl) (λ l w. w) (λ l e w f. refl) ls a

-- a list of another name
other_agrees : (n : Word) (extended : Bool) (l : WrittenList) → bytes_eq n l.name ≡ false → Agrees n extended l
other_agrees n extended l h e = let same : bytes_eq n l.name ≡ true = subst (λ m. bytes_eq n m ≡ true) (sym e) (itself n) in absurd (cc)

absent_agree : (n : Word) (extended : Bool) (ls : List WrittenList) → place_of n (names_in ls) ≡ None → AllAgree n extended ls
absent_agree n extended [] h = tt
absent_agree n extended (l ∷ ls) h = let p = none_first n l.name (names_in ls) h in (other_agrees n extended l p.0, absent_agree n extended ls p.1)

same_kind : (extended : Bool) (l : WrittenList) → other_kind extended (Some l) ≡ false → l.extended ≡ extended
same_kind true l h = go l.extended h
  where
    go : (b : Bool) → not b ≡ false → b ≡ true
    go true e = refl
    go false e = absurd (cc)
same_kind false l h = h

-- a kind that the list of the name, if there is one, doesn't clash with
pub open_agree : (n : Word) (extended : Bool) (ls : List WrittenList) → Once (names_in ls) → other_kind extended (list_at (names_in ls) ls n) ≡ false → AllAgree n extended ls
open_agree n extended [] o h = tt
open_agree n extended (l ∷ ls) o h = go (bytes_eq n l.name) (place_of n (names_in ls)) refl h (λ k. open_agree n extended ls o.1 k)
  where
    go : (b : Bool) (p : Option ℕ) → bytes_eq n l.name ≡ b → other_kind extended (option_and_then (slice_get (l ∷ ls)) (place_after b p)) ≡ false
        → (other_kind extended (option_and_then (slice_get ls) p) ≡ false → AllAgree n extended ls) → AllAgree n extended (l ∷ ls)
    go true p e k ih = ((λ f. same_kind extended l k), absent_agree n extended ls (subst (λ m. place_of m (names_in ls) ≡ None) (sym (same_is n l.name e)) o.0))
    go false None e k ih = (other_agrees n extended l e, ih k)
    go false (Some i) e k ih = (other_agrees n extended l e, ih k)

-- ---- lists of a configuration

new_behind : (n m : Word) (ns : Words) → place_of n ns ≡ None → bytes_eq n m ≡ false → place_of n (ns ++ m ∷ []) ≡ None
new_behind n m [] h g = rw g refl
new_behind n m (x ∷ ns) h g = let p = none_first n x ns h in let e = new_behind n m ns p.1 g in let f = p.0 in rw (f, e) refl

abbrev AllNew : Words → List WrittenList → Type 0
AllNew before ls = AllByRecursion (λ l. place_of l.name before ≡ None) ls

still_new : (before : Words) (n : Word) (ls : List WrittenList) → AllNew before ls → place_of n (names_in ls) ≡ None → AllNew (before ++ n ∷ []) ls
still_new before n [] a h = tt
still_new before n (l ∷ ls) a h = let p = none_first n l.name (names_in ls) h in (new_behind l.name n before a.0 (other_way n l.name p.0), still_new before n ls a.1 p.1)

lists_behind : (before : Words) (ls : List WrittenList) → AllWritten ls → Once (names_in ls) → AllNew before ls → AreLists before (map list_of ls)
lists_behind before [] a o b = tt
lists_behind before (l ∷ ls) a o b = (
  record { name = a.0.name; new = b.0; range = a.0.range; entries = entries_are l.extended 0 l.book a.0.book },
  lists_behind (before ++ l.name ∷ []) ls a.1 o.1 (still_new before l.name ls b.1 o.0),
)

all_new : (ls : List WrittenList) → AllNew [] ls
all_new [] = tt
all_new (l ∷ ls) = (refl, all_new ls)

pub lists_are : (ls : List WrittenList) → AllWritten ls → Once (names_in ls) → AreLists [] (map list_of ls)
lists_are ls a o = lists_behind [] ls a o (all_new ls)
