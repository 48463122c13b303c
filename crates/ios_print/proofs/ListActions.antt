-- What the commands of an accepted text do to access lists.
use Rattle.std.proofs.Common.{◌≡◌, ℕ, ◌≤◌, Bool, true, false, cond, not, ◌&&◌, ◌||◌, List, [], ◌∷◌, drop, refl, sym, ap, subst, ◌∙◌, arith}
use Rattle.std.specs.Prelude.{Option, Some, None, Result, Ok, Err, ok_or, codes, option_map, option_and_then, find, length}
use Rattle.std.specs.Str.{bytes_eq}
use Rattle.std.specs.Str.Parse.{digits_value}
use Rattle.net_text.specs.Texts.{IsWord}
use Rattle.net_types.specs.declared.config.Entry.{Entry}
use Rattle.net_types.specs.declared.config.NatRule.{NatRule}
use Rattle.net_types.specs.declared.config.NatKind.{NatKind}
use Rattle.net_types.specs.declared.config.NatKind.TheVariants as nat
use Rattle.net_types.specs.declared.config.Side.TheVariants as side
use Rattle.ios_words.specs.Words.{number_of, is_numeral, is_within}
use Rattle.ios_lines.specs.declared.fault.Fault.{Fault}
use Rattle.ios_lines.specs.declared.fault.Kind.TheVariants as kind
use Rattle.ios_lists.specs.declared.refused.ListPart.TheVariants as list_part
use Rattle.ios_lists.specs.Refused.{list_refuses}
use Rattle.ios_commands.specs.declared.refused.CommandPart.TheVariants as command_part
use Rattle.ios_commands.specs.Refused.{command_refuses}
use Rattle.ios_lines.specs.declared.effect.Action.{Action}
use Rattle.ios_lines.specs.declared.effect.Action.TheVariants as action
use Rattle.ios_lines.specs.declared.effect.Change.{Change}
use Rattle.ios_lines.specs.declared.effect.Change.TheVariants as change
use Rattle.ios_lines.specs.declared.effect.Section.{Section}
use Rattle.ios_lines.specs.declared.effect.Section.TheVariants as section
use Rattle.ios_lines.specs.declared.effect.WrittenList.{WrittenList}
use Rattle.ios_lines.specs.Words.{none_refused, Word, Words, fault_of, head_word, next_word, allowed_word, address_at, number_at, ended, begins}
use Rattle.ios_lines.specs.Books.{Book, next_sequence, has_sequence}
use Rattle.ios_lines.proofs.Keyed.{Once}
use Rattle.ios_commands.specs.Interfaces.{after_link_kind, interface_action, written_at, begins_secondary, after_secondary, address_action, plain_action, direction_at, group_action}
use Rattle.ios_commands.specs.Routes.{route_at, route_action}
use Rattle.ios_commands.specs.Translation.{clash, extendable_at, rule_action, address_rule, port_rule, static_action, outer_action}
use Rattle.ios_commands.specs.Tables.{fits_row, refused_by, uncovered, global_rows, interface_rows}
use Rattle.ios_lists.specs.declared.lists.Verb.{Verb}
use Rattle.ios_lists.specs.declared.lists.Verb.TheVariants as verb
use Rattle.ios_lists.specs.Entries.{entry_at}
use Rattle.ios_lists.specs.ListCommands.{range_of, kind_by_number, verb_at, some_entry, taken_entry, numbered_by, numbered_line, next_entry, unnumbered_by, unnumbered_line, section_by, section_line, list_at, book_by, section_action, numbered_action, kind_at, in_range, has_range, other_kind, opened, open_action}
use Rattle.ios_config.specs.Effects.{Seen, hostname_action, interface_command, global_command, sub_command, command_action}
use Rattle.ios_print.proofs.Has.{Each, Has, then_has, some_has, if_has, next_has, allowed_has, number_bounds}
use Rattle.ios_print.proofs.ListEntries.{any_then, each_drop, IsEntryAt, entry_is}
use Rattle.ios_print.proofs.ListBooks.{IsEntryIfAny, next_bounds, IsListLine, AllAgree, AllWritten, names_in, open_agree}

-- ---- lines of lists

entry_has : (extended : Bool) (n : ℕ) (permit : Bool) (ws : Words) → (1 ≤ n) × (n ≤ 2147483647) → Each ws → Has (IsEntryIfAny extended) (some_entry (entry_at extended n permit ws))
entry_has extended n permit ws h e = go (entry_at extended n permit ws) (entry_is extended n permit ws e)
  where
    go : (r : Result Entry Fault) → Has (IsEntryAt extended n) r → Has (IsEntryIfAny extended) (some_entry r)
    go (Ok x) k = record { some = omega (arith, k.0, h.0); most = omega (arith, k.0, h.1); entry = k.1 }
    go (Err f) k = tt

abbrev IsVerbAt : Verb × Words → Type 0
IsVerbAt v = Each v.1

verb_has : (ws : Words) → Each ws → Has IsVerbAt (verb_at ws)
unfolding verb_at
verb_has ws e = then_has (λ w. IsWord w.0 × (list_refuses list_part.Entry w.0 ≡ false) × Each w.1) IsVerbAt (allowed_word (list_refuses list_part.Entry) ws) _ (allowed_has (list_refuses list_part.Entry) ws e) (λ w h.
    if_has IsVerbAt (bytes_eq w.0 (codes "permit")) (Ok (verb.Permit, w.1)) _ (λ b. h.2) (λ b.
    if_has IsVerbAt (bytes_eq w.0 (codes "deny")) (Ok (verb.Deny, w.1)) _ (λ c. h.2) (λ c.
    if_has IsVerbAt (bytes_eq w.0 (codes "remark")) (Ok (verb.Remark, w.1)) (Err (fault_of kind.BadWord w.0)) (λ d. h.2) (λ d. tt))))

taken_has : (extended taken : Bool) (w : Word) (n : ℕ) (permit : Bool) (ws : Words) → (1 ≤ n) × (n ≤ 2147483647) → Each ws → Has (IsEntryIfAny extended) (taken_entry extended taken w n permit ws)
unfolding taken_entry
taken_has extended taken w n permit ws h e = if_has (IsEntryIfAny extended) taken (Err (fault_of kind.SequenceTaken w)) (some_entry (entry_at extended n permit ws)) (λ b. tt) (λ b. entry_has extended n permit ws h e)

numbered_by_has : (extended taken : Bool) (w : Word) (n : ℕ) (v : Verb × Words) → (1 ≤ n) × (n ≤ 2147483647) → Each v.1 → Has (IsEntryIfAny extended) (numbered_by extended taken w n v)
numbered_by_has extended taken w n (verb.Permit, ws) h e = taken_has extended taken w n true ws h e
numbered_by_has extended taken w n (verb.Deny, ws) h e = taken_has extended taken w n false ws h e
numbered_by_has extended taken w n (verb.Remark, ws) h e = tt

numbered_has : (extended taken : Bool) (w : Word) (n : ℕ) (ws : Words) → (1 ≤ n) × (n ≤ 2147483647) → Each ws → Has (IsEntryIfAny extended) (numbered_line extended taken w n ws)
unfolding numbered_line
numbered_has extended taken w n ws h e = then_has IsVerbAt (IsEntryIfAny extended) (verb_at ws) _ (verb_has ws e) (λ v k. numbered_by_has extended taken w n v h k)

next_entry_has : (extended : Bool) (b : Book) (w : Word) (permit : Bool) (ws : Words) → Each ws → Has (IsEntryIfAny extended) (next_entry extended (next_sequence b) w permit ws)
next_entry_has extended b w permit ws e = go (next_sequence b) refl
  where
    go : (o : Option ℕ) → next_sequence b ≡ o → Has (IsEntryIfAny extended) (next_entry extended o w permit ws)
    go None h = tt
    go (Some n) h = entry_has extended n permit ws (next_bounds b n h) e

unnumbered_by_has : (extended : Bool) (b : Book) (w : Word) (v : Verb × Words) → Each v.1 → Has (IsEntryIfAny extended) (unnumbered_by extended (next_sequence b) w v)
unnumbered_by_has extended b w (verb.Permit, ws) e = next_entry_has extended b w true ws e
unnumbered_by_has extended b w (verb.Deny, ws) e = next_entry_has extended b w false ws e
unnumbered_by_has extended b w (verb.Remark, ws) e = tt

unnumbered_has : (extended : Bool) (b : Book) (ws : Words) → Each ws → Has (IsEntryIfAny extended) (unnumbered_line extended (next_sequence b) ws)
unfolding unnumbered_line
unnumbered_has extended b ws e = then_has IsVerbAt (IsEntryIfAny extended) (verb_at ws) _ (verb_has ws e) (λ v k. unnumbered_by_has extended b (head_word ws) v k)

section_by_has : (extended : Bool) (b : Book) (ws : Words) (w : Word) (rest : Words) → Each ws → Each rest → Has (IsEntryIfAny extended) (section_by extended b ws w rest (number_of 1 2147483647 w))
section_by_has extended b ws w rest e f = go (number_of 1 2147483647 w) refl
  where
    go : (o : Option ℕ) → number_of 1 2147483647 w ≡ o → Has (IsEntryIfAny extended) (section_by extended b ws w rest o)
    go None h = unnumbered_has extended b ws e
    go (Some n) h = numbered_has extended (has_sequence n b) w n rest (number_bounds 1 2147483647 w n h) f

section_has : (extended : Bool) (b : Book) (ws : Words) → Each ws → Has (IsEntryIfAny extended) (section_line extended b ws)
unfolding section_line
section_has extended b ws e = then_has (λ w. IsWord w.0 × Each w.1) (IsEntryIfAny extended) (next_word ws) _ (next_has ws e) (λ w h. section_by_has extended b ws w.0 w.1 e h.1)

-- ---- the kind of a numbered list

numeral_is : (w : Word) (k : Bool) → kind_by_number w ≡ Some k → is_numeral w ≡ true
numeral_is w k h = (elim (is_numeral w) as (λ b. option_and_then range_of (cond (b && is_within 0 4294967295 (digits_value 10 w)) (Some (digits_value 10 w)) None) ≡ Some k → b ≡ true) [
  | true ↦ λ e. refl
  | false ↦ λ e. absurd (cc)
]) h

own_range : (k : Bool) → in_range k (Some k) ≡ true
own_range true = refl
own_range false = refl

only_range : (j k : Bool) → in_range j (Some k) ≡ true → j ≡ k
only_range true true h = refl
only_range true false h = absurd (cc)
only_range false true h = absurd (cc)
only_range false false h = refl

number_range : (w : Word) (k : Bool) → kind_by_number w ≡ Some k → has_range k w ≡ true
number_range w k h = ap (λ o. not (is_numeral w) || in_range k o) h ∙ end (not (is_numeral w)) (in_range k (Some k)) (own_range k)
  where
    end : (a b : Bool) → b ≡ true → (a || b) ≡ true
    end true b e = refl
    end false b e = e

range_kind : (w : Word) (j k : Bool) → kind_by_number w ≡ Some k → has_range j w ≡ true → j ≡ k
range_kind w j k h r =
    let e : has_range j w ≡ in_range j (Some k) = ap (λ b. not b || in_range j (kind_by_number w)) (numeral_is w k h) ∙ ap (in_range j) h in
    only_range j k (sym e ∙ r)

number_agree : (w : Word) (k : Bool) → kind_by_number w ≡ Some k → (ls : List WrittenList) → AllWritten ls → AllAgree w k ls
number_agree w k h [] a = tt
number_agree w k h (l ∷ ls) a = ((λ e. range_kind w l.extended k h (subst (λ m. has_range l.extended m ≡ true) e a.0.range)), number_agree w k h ls a.1)

-- ---- what a command may do to lists, in this section

abbrev pub IsFineSection : List WrittenList → Section → Type 0
IsFineSection ls section.Other = Unit {0}
IsFineSection ls (section.Interface n) = Unit {0}
IsFineSection ls (section.List n extended) = IsWord n × (has_range extended n ≡ true) × AllAgree n extended ls

abbrev pub IsFineAction : List WrittenList → Section → Action → Type 0
IsFineAction ls s (action.OpenList n extended) = IsListLine n (record { extended = extended; entry = None }) × AllAgree n extended ls
IsFineAction ls s (action.Numbered n l) = IsListLine n l × AllAgree n l.extended ls
IsFineAction ls s (action.Entry n l) = IsListLine n l × AllAgree n l.extended ls × (s ≡ section.List n l.extended)
IsFineAction ls s _ = Unit {0}

kind_has : (ws : Words) → Each ws → Has (λ k. Each k.1) (kind_at ws)
unfolding kind_at
kind_has ws e = then_has (λ w. IsWord w.0 × (list_refuses list_part.Kind w.0 ≡ false) × Each w.1) (λ k. Each k.1) (allowed_word (list_refuses list_part.Kind) ws) _ (allowed_has (list_refuses list_part.Kind) ws e) (λ w h. h.2)

is_true : (b : Bool) → not b ≡ false → b ≡ true
is_true true h = refl
is_true false h = absurd (cc)

opened_has : (k : Bool) (o : Option WrittenList) (w : Word) → Has (λ u. (has_range k w ≡ true) × (other_kind k o ≡ false)) (opened k o w)
opened_has k o w =
    if_has (λ u. (has_range k w ≡ true) × (other_kind k o ≡ false)) (not (has_range k w)) (Err (fault_of kind.BadListNumber w)) _ (λ b. tt) (λ b.
    if_has (λ u. (has_range k w ≡ true) × (other_kind k o ≡ false)) (other_kind k o) (Err (fault_of kind.ListKindClash w)) (Ok tt) (λ c. tt) (λ c. (is_true (has_range k w) b, c)))

module _ (ls : List WrittenList) (s : Section) where
  section_fine : (n : Word) (extended : Bool) (ws : Words) → s ≡ section.List n extended → IsFineSection ls (section.List n extended) → Each ws → Has (IsFineAction ls s) (section_action (names_in ls) ls n extended ws)
  unfolding section_action
  section_fine n extended ws h is e =
      then_has (IsEntryIfAny extended) (IsFineAction ls s) (section_line extended (book_by (list_at (names_in ls) ls n)) ws) _ (section_has extended (book_by (list_at (names_in ls) ls n)) ws e) (λ x k.
      (record { name = is.0; range = is.1; entry = k }, is.2, h))

  numbered_fine : (ws : Words) → AllWritten ls → Each ws → Has (IsFineAction ls s) (numbered_action (names_in ls) ls ws)
  unfolding numbered_action
  numbered_fine ws a e =
      then_has (λ w. IsWord w.0 × Each w.1) (IsFineAction ls s) (next_word ws) _ (next_has ws e) (λ w h.
      then_has (λ k. kind_by_number w.0 ≡ Some k) (IsFineAction ls s) (ok_or (kind_by_number w.0) (fault_of kind.BadListNumber w.0)) _ (some_has (λ k. kind_by_number w.0 ≡ Some k) (kind_by_number w.0) (fault_of kind.BadListNumber w.0) (λ k i. i)) (λ k i.
      then_has (IsEntryIfAny k) (IsFineAction ls s) (unnumbered_line k (next_sequence (book_by (list_at (names_in ls) ls w.0))) w.1) _ (unnumbered_has k (book_by (list_at (names_in ls) ls w.0)) w.1 h.1) (λ x j.
      (record { name = h.0; range = number_range w.0 k i; entry = j }, number_agree w.0 k i ls a))))

  open_fine : (ws : Words) → Once (names_in ls) → Each ws → Has (IsFineAction ls s) (open_action (names_in ls) ls ws)
  unfolding open_action
  open_fine ws o e =
      then_has (λ k. Each k.1) (IsFineAction ls s) (kind_at ws) _ (kind_has ws e) (λ k h.
      then_has (λ w. IsWord w.0 × Each w.1) (IsFineAction ls s) (next_word k.1) _ (next_has k.1 h) (λ w i.
      then_has (λ u. (has_range k.0 w.0 ≡ true) × (other_kind k.0 (list_at (names_in ls) ls w.0) ≡ false)) (IsFineAction ls s) (opened k.0 (list_at (names_in ls) ls w.0) w.0) _ (opened_has k.0 (list_at (names_in ls) ls w.0) w.0) (λ u j.
      any_then (IsFineAction ls s) (ended none_refused w.1) _ (λ v.
      (record { name = i.0; range = j.0; entry = tt }, open_agree w.0 k.0 ls o j.1)))))

  -- ---- other commands

  host_fine : (ws : Words) → Has (IsFineAction ls s) (hostname_action ws)
  unfolding hostname_action
  host_fine ws =
      any_then (IsFineAction ls s) (next_word ws) _ (λ w.
      any_then (IsFineAction ls s) (ended none_refused w.1) _ (λ u. tt))

  interface_fine : (ws : Words) → Has (IsFineAction ls s) (interface_action ws)
  unfolding interface_action
  interface_fine ws =
      any_then (IsFineAction ls s) (next_word ws) _ (λ w.
      any_then (IsFineAction ls s) (ended none_refused (after_link_kind w.1)) _ (λ u.
      if_has (IsFineAction ls s) (bytes_eq w.0 (codes "Null0")) (Ok (action.Pass true)) (Ok (action.Interface w.0 change.Open)) (λ b. tt) (λ b. tt)))

  address_fine : (n : Word) (line : ℕ) (ws : Words) → Has (IsFineAction ls s) (address_action n line ws)
  unfolding address_action
  address_fine n line ws =
      any_then (IsFineAction ls s) (written_at line ws) _ (λ a.
      any_then (IsFineAction ls s) (ended (command_refuses command_part.Address) (after_secondary (begins_secondary a.1) a.1)) _ (λ u. tt))

  plain_fine : (n : Word) (c : Change) (ws : Words) → Has (IsFineAction ls s) (plain_action n c ws)
  unfolding plain_action
  plain_fine n c ws = any_then (IsFineAction ls s) (ended none_refused ws) _ (λ u. tt)

  group_fine : (n : Word) (ws : Words) → Has (IsFineAction ls s) (group_action n ws)
  unfolding group_action
  group_fine n ws =
      any_then (IsFineAction ls s) (next_word ws) _ (λ w.
      any_then (IsFineAction ls s) (direction_at w.0 w.1) _ (λ c.
      any_then (IsFineAction ls s) (ended none_refused c.1) _ (λ u. tt)))

  route_fine : (line : ℕ) (ws : Words) → Has (IsFineAction ls s) (route_action line ws)
  unfolding route_action
  route_fine line ws = any_then (IsFineAction ls s) (route_at ws) _ (λ r. tt)

  rule_fine : (rules : List NatRule) (r : NatRule) (l g : Word) (ws : Words) → Has (IsFineAction ls s) (rule_action rules r l g ws)
  unfolding rule_action
  rule_fine rules r l g ws =
      any_then (IsFineAction ls s) (clash rules r l g) _ (λ c.
      any_then (IsFineAction ls s) (extendable_at ws) _ (λ u. tt))

  address_rule_fine : (rules : List NatRule) (ws : Words) → Has (IsFineAction ls s) (address_rule rules ws)
  unfolding address_rule
  address_rule_fine rules ws =
      any_then (IsFineAction ls s) (address_at (command_refuses command_part.NatLocal) ws) _ (λ l.
      any_then (IsFineAction ls s) (address_at (command_refuses command_part.NatGlobal) l.1) _ (λ g. rule_fine rules _ _ _ g.1))

  port_rule_fine : (rules : List NatRule) (k : NatKind) (ws : Words) → Has (IsFineAction ls s) (port_rule rules k ws)
  unfolding port_rule
  port_rule_fine rules k ws =
      any_then (IsFineAction ls s) (address_at (command_refuses command_part.NatLocal) ws) _ (λ l.
      any_then (IsFineAction ls s) (number_at none_refused 1 65535 l.1) _ (λ m.
      any_then (IsFineAction ls s) (address_at (command_refuses command_part.NatGlobal) m.1) _ (λ g.
      any_then (IsFineAction ls s) (number_at none_refused 1 65535 g.1) _ (λ n. rule_fine rules _ _ _ n.1))))

  static_fine : (rules : List NatRule) (ws : Words) → Has (IsFineAction ls s) (static_action rules ws)
  unfolding static_action
  static_fine rules ws =
      any_then (IsFineAction ls s) (allowed_word (command_refuses command_part.NatLocal) ws) _ (λ w.
      if_has (IsFineAction ls s) (bytes_eq w.0 (codes "tcp")) (port_rule rules nat.Tcp w.1) _ (λ b. port_rule_fine rules nat.Tcp w.1) (λ b.
      if_has (IsFineAction ls s) (bytes_eq w.0 (codes "udp")) (port_rule rules nat.Udp w.1) (address_rule rules ws) (λ c. port_rule_fine rules nat.Udp w.1) (λ c. address_rule_fine rules ws)))

  outer_fine : (rules : List NatRule) (ws : Words) → Has (IsFineAction ls s) (outer_action rules ws)
  unfolding outer_action
  outer_fine rules ws =
      any_then (IsFineAction ls s) (address_at (command_refuses command_part.OuterGlobal) ws) _ (λ g.
      any_then (IsFineAction ls s) (address_at none_refused g.1) _ (λ l. rule_fine rules _ _ _ l.1))

  uncovered_fine : (rows : List Words) (ws : Words) (g : Bool) → Has (IsFineAction ls s) (uncovered rows ws (action.Pass g))
  uncovered_fine rows ws g = go (option_map length (find (fits_row ws) rows))
    where
      go : (o : Option ℕ) → Has (IsFineAction ls s) (refused_by ws o (action.Pass g))
      go None = tt
      go (Some n) = tt

  in_interface : (n : Word) (line : ℕ) (ws : Words) → Has (IsFineAction ls s) (interface_command n line ws)
  unfolding interface_command
  in_interface n line ws =
      if_has (IsFineAction ls s) (begins (codes "ip" ∷ codes "address" ∷ []) ws) (address_action n line (drop 2 ws)) _ (λ b. address_fine n line (drop 2 ws)) (λ b.
      if_has (IsFineAction ls s) (begins (codes "no" ∷ codes "ip" ∷ codes "address" ∷ []) ws) (plain_action n change.Clear (drop 3 ws)) _ (λ b. plain_fine n change.Clear (drop 3 ws)) (λ b.
      if_has (IsFineAction ls s) (begins (codes "shutdown" ∷ []) ws) (plain_action n (change.Shut true) (drop 1 ws)) _ (λ b. plain_fine n (change.Shut true) (drop 1 ws)) (λ b.
      if_has (IsFineAction ls s) (begins (codes "no" ∷ codes "shutdown" ∷ []) ws) (plain_action n (change.Shut false) (drop 2 ws)) _ (λ b. plain_fine n (change.Shut false) (drop 2 ws)) (λ b.
      if_has (IsFineAction ls s) (begins (codes "ip" ∷ codes "access-group" ∷ []) ws) (group_action n (drop 2 ws)) _ (λ b. group_fine n (drop 2 ws)) (λ b.
      if_has (IsFineAction ls s) (begins (codes "ip" ∷ codes "nat" ∷ codes "inside" ∷ []) ws) (plain_action n (change.OnSide side.Inside) (drop 3 ws)) _ (λ b. plain_fine n (change.OnSide side.Inside) (drop 3 ws)) (λ b.
      if_has (IsFineAction ls s) (begins (codes "ip" ∷ codes "nat" ∷ codes "outside" ∷ []) ws) (plain_action n (change.OnSide side.Outside) (drop 3 ws)) _ (λ b. plain_fine n (change.OnSide side.Outside) (drop 3 ws)) (λ b.
      uncovered_fine interface_rows ws false)))))))

-- what is seen of the lists
pub record AreSeen (seen : Seen) : Type 0 where
  pub names : seen.list_names ≡ names_in seen.lists
  pub once : Once (names_in seen.lists)
  pub written : AllWritten seen.lists
  pub section : IsFineSection seen.lists seen.section

abbrev pub IsFine : Seen → Action → Type 0
IsFine seen a = IsFineAction seen.lists seen.section a

global_fine : (seen : Seen) (line : ℕ) (ws : Words) → AreSeen seen → Each ws → Has (IsFine seen) (global_command seen line ws)
unfolding global_command
global_fine seen line ws are e =
    if_has (IsFine seen) (begins (codes "hostname" ∷ []) ws) (hostname_action (drop 1 ws)) _ (λ b. host_fine seen.lists seen.section (drop 1 ws)) (λ b.
    if_has (IsFine seen) (begins (codes "interface" ∷ []) ws) (interface_action (drop 1 ws)) _ (λ b. interface_fine seen.lists seen.section (drop 1 ws)) (λ b.
    if_has (IsFine seen) (begins (codes "ip" ∷ codes "route" ∷ []) ws) (route_action line (drop 2 ws)) _ (λ b. route_fine seen.lists seen.section line (drop 2 ws)) (λ b.
    if_has (IsFine seen) (begins (codes "ip" ∷ codes "nat" ∷ codes "inside" ∷ codes "source" ∷ codes "static" ∷ []) ws) (static_action seen.nat (drop 5 ws)) _ (λ b. static_fine seen.lists seen.section seen.nat (drop 5 ws)) (λ b.
    if_has (IsFine seen) (begins (codes "ip" ∷ codes "nat" ∷ codes "outside" ∷ codes "source" ∷ codes "static" ∷ []) ws) (outer_action seen.nat (drop 5 ws)) _ (λ b. outer_fine seen.lists seen.section seen.nat (drop 5 ws)) (λ b.
    if_has (IsFine seen) (begins (codes "access-list" ∷ []) ws) (numbered_action seen.list_names seen.lists (drop 1 ws)) _
    (λ b. subst (λ ns. Has (IsFine seen) (numbered_action ns seen.lists (drop 1 ws))) (sym are.names) (numbered_fine seen.lists seen.section (drop 1 ws) are.written (each_drop 1 ws e))) (λ b.
    if_has (IsFine seen) (begins (codes "ip" ∷ codes "access-list" ∷ []) ws) (open_action seen.list_names seen.lists (drop 2 ws)) _
    (λ b. subst (λ ns. Has (IsFine seen) (open_action ns seen.lists (drop 2 ws))) (sym are.names) (open_fine seen.lists seen.section (drop 2 ws) are.once (each_drop 2 ws e))) (λ b.
    uncovered_fine seen.lists seen.section global_rows ws true)))))))

sub_fine : (seen : Seen) (s : Section) (line : ℕ) (ws : Words) → seen.section ≡ s → AreSeen seen → Each ws → Has (IsFine seen) (sub_command seen s line ws)
sub_fine seen section.Other line ws h are e = tt
sub_fine seen (section.Interface n) line ws h are e = in_interface seen.lists seen.section n line ws
sub_fine seen (section.List n extended) line ws h are e = subst (λ ns. Has (IsFine seen) (section_action ns seen.lists n extended ws)) (sym are.names)
    (section_fine seen.lists seen.section n extended ws h (subst (IsFineSection seen.lists) h are.section) e)

pub command_fine : (seen : Seen) (line : ℕ) (indent : Bool) (ws : Words) → AreSeen seen → Each ws → Has (IsFine seen) (command_action seen line indent ws)
unfolding command_action
command_fine seen line true ws are e = sub_fine seen seen.section line ws refl are e
command_fine seen line false ws are e = global_fine seen line ws are e
