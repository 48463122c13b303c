-- The lines of an access list are read as it.
use Rattle.std.proofs.Common.{◌≡◌, ℕ, ◌+◌, ◌<◌, ◌≤◌, suc, Bool, true, false, ◌==◌, List, [], ◌∷◌, ◌++◌, length, map, refl, sym, ap, subst, ◌∙◌, arith, tests, append-nil, append_assoc}
use Rattle.std.specs.Prelude.{flat_map, Some, None, Ok, slice_get, slice_set, slice_index_or, codes, decimal}
use Rattle.std.specs.Char.{is_ascii_digit}
use Rattle.std.specs.Cmp.{nat_cmp_is}
use Rattle.std.specs.declared.cmp.Ordering.TheVariants.{Greater}
use Rattle.std.proofs.lemmas.List.{length-map}
use Rattle.net_types.specs.declared.config.Config.{Config}
use Rattle.net_types.specs.declared.config.AccessList.{AccessList}
use Rattle.net_types.specs.declared.config.Entry.{Entry}
use Rattle.ios_lines.specs.declared.effect.Action.TheVariants as action
use Rattle.ios_lines.specs.declared.effect.Effect.TheVariants as effect
use Rattle.ios_lines.specs.declared.effect.ListLine.{ListLine}
use Rattle.ios_lines.specs.declared.effect.Section.{Section}
use Rattle.ios_lines.specs.declared.effect.Section.TheVariants as section
use Rattle.ios_lines.specs.Words.{Word, Words, allowed_word, ended}
use Rattle.ios_lines.specs.Lists.{place_of}
use Rattle.ios_lines.specs.Books.{Book, put_entry, has_sequence}
use Rattle.ios_lines.proofs.Steps.{map_more}
use Rattle.ios_lists.specs.Entries.{entry_at, extended_entry}
use Rattle.ios_lists.specs.ListCommands.{verb_at, taken_entry, numbered_line, section_line, section_action, list_at, book_by, kind_at, has_range, open_action}
use Rattle.ios_config.specs.Effects.{Seen, begins_mark, is_comment, command_action, global_command}
use Rattle.ios_config.specs.Draft.{with_line, new_list, Parts, parts_after}
use Rattle.ios_print.specs.Print.{masked_words, port_words, icmp_words, flag_words, extended_words, entry_words, kind_word, verb_word, entry_row, list_rows}
use Rattle.ios_print.specs.PrintableLists.{IsExtended, IsEntry, AreEntries, AreLists}
use Rattle.ios_print.proofs.Digits.{number_back, digital_number, Digital}
use Rattle.ios_print.proofs.EntryWords.{endpoint_read, standard_read, proto_read, ports_read, past_address}
use Rattle.ios_print.proofs.Trailing.{trailing_read, past_trailing}
use Rattle.ios_print.proofs.InterfaceLines.{new_place, set_last, at_last}
use Rattle.ios_print.proofs.Runs.{Shows, written_of, seen_by, One, Goes, goes_on}

-- ---- entries

extended_read : (e : Entry) → IsExtended e → extended_entry e.sequence e.permit (extended_words e) ≡ Ok e
unfolding extended_entry
extended_read e is =
    let tail = icmp_words e.icmp ++ flag_words e.flags in
    let t = trailing_read e.proto e.icmp e.flags is.icmp is.flags in
    rw (
      proto_read e.proto (masked_words e.src ++ (port_words e.sport ++ (masked_words e.dst ++ (port_words e.dport ++ (tail))))) is.proto,
      endpoint_read e.src (port_words e.sport ++ (masked_words e.dst ++ (port_words e.dport ++ (tail)))) is.src,
      ports_read e.proto e.sport (masked_words e.dst ++ (port_words e.dport ++ (tail))) is.sport (past_address e.proto e.dst.value _ is.dst.value),
      endpoint_read e.dst (port_words e.dport ++ tail) is.dst,
      ports_read e.proto e.dport tail is.dport (past_trailing e.proto e.icmp e.flags is.icmp is.flags),
      t.read,
    ) refl

entry_read : (extended : Bool) (e : Entry) → IsEntry extended e → entry_at extended e.sequence e.permit (entry_words extended e) ≡ Ok e
entry_read true e is = extended_read e is
entry_read false e is = standard_read e is

-- ---- books

abbrev book_in : List Entry → Book
book_in es = map (λ e. (e.sequence, e)) es

-- the sequences are below this one
abbrev AllBelow : ℕ → List Entry → Type 0
AllBelow n [] = Unit {0}
AllBelow n (e ∷ es) = (e.sequence < n) × AllBelow n es

not_there : (n : ℕ) (es : List Entry) → AllBelow n es → has_sequence n (book_in es) ≡ false
not_there n [] a = refl
not_there n (e ∷ es) a = rw (← nat_cmp_is n e.sequence Greater a.0) (not_there n es a.1)

put_last : (es : List Entry) (e : Entry) → AllBelow e.sequence es → put_entry (book_in es) e ≡ book_in (es ++ e ∷ [])
put_last [] e a = refl
put_last (x ∷ es) e a = rw (← nat_cmp_is e.sequence x.sequence Greater a.0) (ap (λ b. (x.sequence, x) ∷ b) (put_last es e a.1))

-- ---- what the commands are read as

section_by_verb : (extended : Bool) (book : Book) (e : Entry) (b : Bool) → e.permit ≡ b → has_sequence e.sequence book ≡ false → 1 ≤ e.sequence → e.sequence ≤ 2147483647 → IsEntry extended e
    → section_line extended book (decimal e.sequence ∷ verb_word b ∷ entry_words extended e) ≡ Ok (Some e)
unfolding section_line numbered_line taken_entry verb_at allowed_word
section_by_verb extended book e true p t l h is =
    let r : entry_at extended e.sequence true (entry_words extended e) ≡ Ok e = subst (λ x. entry_at extended e.sequence x (entry_words extended e) ≡ Ok e) p (entry_read extended e is) in
    rw (number_back 1 2147483647 e.sequence (omega (arith, h)) l h, t, r) refl
section_by_verb extended book e false p t l h is =
    let r : entry_at extended e.sequence false (entry_words extended e) ≡ Ok e = subst (λ x. entry_at extended e.sequence x (entry_words extended e) ≡ Ok e) p (entry_read extended e is) in
    rw (number_back 1 2147483647 e.sequence (omega (arith, h)) l h, t, r) refl

entry_done : (seen : Seen) (k : ℕ) (n : Word) (extended : Bool) (book : Book) (e : Entry) → seen.section ≡ section.List n extended → book_by (list_at seen.list_names seen.lists n) ≡ book
    → has_sequence e.sequence book ≡ false → 1 ≤ e.sequence → e.sequence ≤ 2147483647 → IsEntry extended e
    → command_action seen k true (entry_row extended e).1 ≡ Ok (action.Entry n (record { extended = extended; entry = Some e }))
unfolding command_action section_action
entry_done seen k n extended book e s b t l h is = rw (s, b, section_by_verb extended book e e.permit refl t l h is) refl

list_open : (seen : Seen) (k : ℕ) (n : Word) (extended : Bool) → list_at seen.list_names seen.lists n ≡ None → has_range extended n ≡ true
    → command_action seen k false (codes "ip" ∷ codes "access-list" ∷ kind_word extended ∷ n ∷ []) ≡ Ok (action.OpenList n extended)
unfolding command_action global_command open_action kind_at allowed_word ended
list_open seen k n true h r = rw (h, r) refl
list_open seen k n false h r = rw (h, r) refl

-- ---- what they make

abbrev pub with_lists : Config → List AccessList → Config
with_lists c ls = record c { lists = ls }

abbrev list_names_in : List AccessList → Words
list_names_in ls = map (λ l. l.name) ls

abbrev with_entries : AccessList → List Entry → AccessList
with_entries l es = record { name = l.name; extended = l.extended; entries = es }

no_more : (n : ℕ) → n + 0 ≡ n
no_more n = omega arith

get_last : {A : Type 0} (xs : List A) (x : A) → slice_get (xs ++ x ∷ []) (length xs) ≡ Some x
get_last [] x = refl
get_last (y ∷ xs) x = get_last xs x

last_place : (p : Parts) (ls : List AccessList) (l : AccessList) → p.list_names ≡ list_names_in (ls ++ l ∷ []) → place_of l.name (list_names_in ls) ≡ None → place_of l.name p.list_names ≡ Some (length (map written_of ls))
last_place p ls l e new = ap (place_of l.name) (e ∙ map_more (λ (l : AccessList). l.name) ls l) ∙ new_place l.name (list_names_in ls) new ∙ ap Some (length-map ls (λ l. l.name) ∙ sym (length-map ls written_of))

last_book : (c : Config) (ls : List AccessList) (l : AccessList) (s : Section) (p : Parts) → place_of l.name (list_names_in ls) ≡ None → Shows (with_lists c (ls ++ l ∷ [])) s p
    → book_by (list_at p.list_names p.lists l.name) ≡ book_in l.entries
last_book c ls l s p new h =
    let place = last_place p ls l h.list_names new in
    let lists : p.lists ≡ map written_of ls ++ written_of l ∷ [] = h.lists ∙ map_more written_of ls l in
    rw (place, lists, get_last (map written_of ls) (written_of l)) refl

entry_shows : (c : Config) (ls : List AccessList) (l : AccessList) (e : Entry) (p : Parts) → place_of l.name (list_names_in ls) ≡ None → AllBelow e.sequence l.entries
    → Shows (with_lists c (ls ++ l ∷ [])) (section.List l.name l.extended) p
    → Shows (with_lists c (ls ++ with_entries l (l.entries ++ e ∷ []) ∷ [])) (section.List l.name l.extended) (parts_after p (effect.Act (action.Entry l.name (record { extended = l.extended; entry = Some e }))))
entry_shows c ls l e p new below h =
    let place = last_place p ls l h.list_names new in
    let lists : p.lists ≡ map written_of ls ++ written_of l ∷ [] = h.lists ∙ map_more written_of ls l in
    let line : ListLine = record { extended = l.extended; entry = Some e } in
    let old : slice_index_or p.lists (length (map written_of ls)) (new_list []) ≡ written_of l = ap (λ xs. slice_index_or xs (length (map written_of ls)) (new_list [])) lists ∙ at_last (map written_of ls) (written_of l) (new_list []) in
    let made : with_line (written_of l) line ≡ written_of (with_entries l (l.entries ++ e ∷ [])) = ap (λ b. record { name = l.name; extended = l.extended; book = b }) (put_last l.entries e below) in
    let set : slice_set p.lists (length (map written_of ls)) (with_line (slice_index_or p.lists (length (map written_of ls)) (new_list [])) line) ≡ map written_of (ls ++ with_entries l (l.entries ++ e ∷ []) ∷ []) =
    ap (λ x. slice_set p.lists (length (map written_of ls)) (with_line x line)) old
    ∙ ap (λ xs. slice_set xs (length (map written_of ls)) (with_line (written_of l) line)) lists
    ∙ set_last (map written_of ls) (written_of l) (with_line (written_of l) line)
    ∙ ap (λ x. map written_of ls ++ x ∷ []) made
    ∙ sym (map_more written_of ls (with_entries l (l.entries ++ e ∷ []))) in
    record {
      host = h.host;
      names = h.names;
      interfaces = h.interfaces;
      routes = ap (map (λ r. r.route)) (append-nil p.routes) ∙ h.routes;
      nat = append-nil p.nat ∙ h.nat;
      list_names = rw place (h.list_names ∙ map_more (λ (l : AccessList). l.name) ls l ∙ sym (map_more (λ (l : AccessList). l.name) ls (with_entries l (l.entries ++ e ∷ []))));
      lists = rw place set;
      section = h.section;
      covered = h.covered;
      passed = no_more p.passed ∙ h.passed;
    }

open_list_shows : (c : Config) (ls : List AccessList) (s : Section) (n : Word) (extended : Bool) (p : Parts) → place_of n (list_names_in ls) ≡ None → Shows (with_lists c ls) s p
    → Shows (with_lists c (ls ++ record { name = n; extended = extended; entries = [] } ∷ [])) (section.List n extended) (parts_after p (effect.Act (action.OpenList n extended)))
open_list_shows c ls s n extended p new h =
    let place : place_of n p.list_names ≡ None = ap (place_of n) h.list_names ∙ new in
    let l : AccessList = record { name = n; extended = extended; entries = [] } in
    record {
      host = h.host;
      names = h.names;
      interfaces = h.interfaces;
      routes = ap (map (λ r. r.route)) (append-nil p.routes) ∙ h.routes;
      nat = append-nil p.nat ∙ h.nat;
      list_names = rw place (ap (λ ns. ns ++ n ∷ []) h.list_names ∙ sym (map_more (λ (l : AccessList). l.name) ls l));
      lists = rw place (ap (λ xs. xs ++ written_of l ∷ []) h.lists ∙ sym (map_more written_of ls l));
      section = refl;
      covered = h.covered;
      passed = no_more p.passed ∙ h.passed;
    }

-- ---- from list to list

-- a digit is no exclamation mark
no_mark_first : (c : ℕ) → is_ascii_digit c ≡ true → (c == 33) ≡ false
no_mark_first c h = grind (arith, tests)

no_mark : (w : Word) → Digital w → begins_mark w ≡ false
no_mark w d = rw d.is (no_mark_first d.first d.digit)

below_more : (n m : ℕ) (es : List Entry) → n ≤ m → AllBelow n es → AllBelow m es
below_more n m [] h a = tt
below_more n m (e ∷ es) h a = (omega (arith, h, a.0), below_more n m es h a.1)

below_last : (n : ℕ) (es : List Entry) (e : Entry) → AllBelow n es → e.sequence < n → AllBelow n (es ++ e ∷ [])
below_last n [] e a h = (h, tt)
below_last n (x ∷ es) e a h = (a.0, below_last n es e a.1 h)

entries_go : (c : Config) (ls : List AccessList) (n : Word) (extended : Bool) (before es : List Entry) (m : ℕ) → place_of n (list_names_in ls) ≡ None → AllBelow (suc m) before → AreEntries extended m es
    → Goes (map (entry_row extended) es) (with_lists c (ls ++ record { name = n; extended = extended; entries = before } ∷ [])) (section.List n extended) (with_lists c (ls ++ record { name = n; extended = extended; entries = before ++ es } ∷ [])) (section.List n extended)
entries_go c ls n extended before [] m new below is = (ap (λ x. with_lists c (ls ++ record { name = n; extended = extended; entries = x } ∷ [])) (sym (append-nil before)), refl)
entries_go c ls n extended before (e ∷ es) m new below is =
    let l : AccessList = record { name = n; extended = extended; entries = before } in
    let under : AllBelow e.sequence before = below_more (suc m) e.sequence before (omega (arith, is.0)) below in (
      with_lists c (ls ++ record { name = n; extended = extended; entries = before ++ e ∷ [] } ∷ []),
      section.List n extended,
      record {
        plain = digit_plain;
        command = refl;
        acts = λ p k h. (
          action.Entry n (record { extended = extended; entry = Some e }),
          entry_done (seen_by p) k n extended (book_in before) e h.section (last_book c ls l (section.List n extended) p new h) (not_there e.sequence before under) (omega (arith, is.0)) is.1 is.2,
          entry_shows c ls l e p new under h,
        );
      },
      subst (λ x. Goes (map (entry_row extended) es) (with_lists c (ls ++ record { name = n; extended = extended; entries = before ++ e ∷ [] } ∷ [])) (section.List n extended) (with_lists c (ls ++ record { name = n; extended = extended; entries = x } ∷ [])) (section.List n extended)) (append_assoc before (e ∷ []) es)
          (entries_go c ls n extended (before ++ e ∷ []) es e.sequence new (below_last (suc e.sequence) before e (below_more e.sequence (suc e.sequence) before (omega arith) under) (omega arith)) is.3),
    )
  where
    digit_plain : is_comment (decimal e.sequence ∷ verb_word e.permit ∷ entry_words extended e) ≡ false
    digit_plain = no_mark (decimal e.sequence) (digital_number e.sequence (omega (arith, is.1)))

pub lists_go : (c : Config) (before ls : List AccessList) (s : Section) → AreLists (list_names_in before) ls → (t : Section) × Goes (flat_map list_rows ls) (with_lists c before) s (with_lists c (before ++ ls)) t
lists_go c before [] s k = (s, (ap (with_lists c) (sym (append-nil before)), refl))
lists_go c before (l ∷ ls) s k =
    let is = k.0 in
    let rest = lists_go c (before ++ l ∷ []) ls (section.List l.name l.extended) (subst (λ ns. AreLists ns ls) (sym (map_more (λ (l : AccessList). l.name) before l)) k.1) in
    let first : One (false, codes "ip" ∷ codes "access-list" ∷ kind_word l.extended ∷ l.name ∷ []) (with_lists c before) s (with_lists c (before ++ with_entries l [] ∷ [])) (section.List l.name l.extended) =
    record { plain = refl; command = refl; acts = λ p n h. (action.OpenList l.name l.extended, list_open (seen_by p) n l.name l.extended (unknown_list p before l.name (h.list_names) is.new) is.range, open_list_shows c before s l.name l.extended p is.new h) } in (
      rest.0,
      goes_on (list_rows l) (flat_map list_rows ls) (with_lists c before) s (with_lists c (before ++ l ∷ [])) (section.List l.name l.extended) (with_lists c (before ++ l ∷ ls)) rest.0
          (with_lists c (before ++ with_entries l [] ∷ []), section.List l.name l.extended, first, entries_go c before l.name l.extended [] l.entries 0 is.new tt is.entries)
          (subst (λ x. Goes (flat_map list_rows ls) (with_lists c (before ++ l ∷ [])) (section.List l.name l.extended) (with_lists c x) rest.0) (append_assoc before (l ∷ []) ls) rest.1),
    )
  where
    unknown_list : (p : Parts) (ls : List AccessList) (n : Word) → p.list_names ≡ list_names_in ls → place_of n (list_names_in ls) ≡ None → list_at p.list_names p.lists n ≡ None
    unknown_list p ls n e new = rw (e, new) refl
