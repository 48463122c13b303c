-- The commands of access lists.
use Rattle.std.specs.Prelude.{ℕ, Bool, true, false, ◌||◌, not, List, [], Option, Some, None, option_and_then, slice_get, Result, Ok, Err, ok_or, if◌then◌else◌, codes}
use Rattle.std.specs.Str.{bytes_eq}
use Rattle.net_types.specs.declared.config.Entry.{Entry}
use Rattle.ios_words.specs.Words.{number_of, is_numeral, is_within}
use Rattle.ios_lines.specs.declared.fault.Fault.{Fault}
use Rattle.ios_lines.specs.declared.fault.Kind.TheVariants as kind
use Rattle.ios_lists.specs.declared.refused.ListPart.TheVariants as list_part
use Rattle.ios_lists.specs.Refused.{list_refuses}
use Rattle.ios_lines.specs.declared.effect.Action.{Action}
use Rattle.ios_lines.specs.declared.effect.Action.TheVariants as action
use Rattle.ios_lines.specs.declared.effect.WrittenList.{WrittenList}
use Rattle.ios_lists.specs.declared.lists.Verb.{Verb}
use Rattle.ios_lists.specs.declared.lists.Verb.TheVariants as verb
use Rattle.ios_lines.specs.Words.{none_refused, ◌>>=◌, Word, Words, fault_of, head_word, next_word, allowed_word, ended}
use Rattle.ios_lines.specs.Lists.{place_of}
use Rattle.ios_lists.specs.Entries.{entry_at}
use Rattle.ios_lines.specs.Books.{Book, last_sequence, next_sequence, has_sequence}

-- the range of a list's number: standard (false) or extended (true)
abbrev pub range_of : ℕ → Option Bool
range_of n =
    if is_within 1 99 n || is_within 1300 1999 n then Some false
    else (if is_within 100 199 n || is_within 2000 2699 n then Some true
    else None)

-- the kind of a list whose name is this number
abbrev pub kind_by_number : Word → Option Bool
kind_by_number w = option_and_then range_of (number_of 0 4294967295 w)

-- permit, deny or remark
unfoldable pub verb_at : Words → Result (Verb × Words) Fault
verb_at words = do
  w ← allowed_word (list_refuses list_part.Entry) words
  if bytes_eq w.0 (codes "permit") then Ok (verb.Permit, w.1)
      else (if bytes_eq w.0 (codes "deny") then Ok (verb.Deny, w.1)
      else (if bytes_eq w.0 (codes "remark") then Ok (verb.Remark, w.1)
      else Err (fault_of kind.BadWord w.0)))

-- an entry, if it is one
abbrev pub some_entry : Result Entry Fault → Result (Option Entry) Fault
some_entry (Ok e) = Ok (Some e)
some_entry (Err f) = Err f

-- with a sequence number, which may not be taken; before remark it is ignored
unfoldable pub taken_entry : Bool → Bool → Word → ℕ → Bool → Words → Result (Option Entry) Fault
taken_entry extended taken w n permit words = if taken then Err (fault_of kind.SequenceTaken w) else some_entry (entry_at extended n permit words)

-- SEQ, then permit, deny or remark
abbrev pub numbered_by : Bool → Bool → Word → ℕ → Verb × Words → Result (Option Entry) Fault
numbered_by extended taken w n (verb.Permit, words) = taken_entry extended taken w n true words
numbered_by extended taken w n (verb.Deny, words) = taken_entry extended taken w n false words
numbered_by extended taken w n (verb.Remark, words) = Ok None

-- the rest of a line behind its SEQ
unfoldable pub numbered_line : Bool → Bool → Word → ℕ → Words → Result (Option Entry) Fault
numbered_line extended taken w n words = do
  v ← verb_at words
  numbered_by extended taken w n v

-- without one it gets the next; where there is none, the word permit or deny is wrong
abbrev pub next_entry : Bool → Option ℕ → Word → Bool → Words → Result (Option Entry) Fault
next_entry extended None w permit words = Err (fault_of kind.BadWord w)
next_entry extended (Some n) w permit words = some_entry (entry_at extended n permit words)

-- permit, deny or remark without a SEQ
abbrev pub unnumbered_by : Bool → Option ℕ → Word → Verb × Words → Result (Option Entry) Fault
unnumbered_by extended next w (verb.Permit, words) = next_entry extended next w true words
unnumbered_by extended next w (verb.Deny, words) = next_entry extended next w false words
unnumbered_by extended next w (verb.Remark, words) = Ok None

-- a line without a SEQ
unfoldable pub unnumbered_line : Bool → Option ℕ → Words → Result (Option Entry) Fault
unnumbered_line extended next words = do
  v ← verb_at words
  unnumbered_by extended next (head_word words) v

-- a line of a list's section: [SEQ] permit, deny or remark
abbrev pub section_by : Bool → Book → Words → Word → Words → Option ℕ → Result (Option Entry) Fault
section_by extended book words w rest (Some n) = numbered_line extended (has_sequence n book) w n rest
section_by extended book words w rest None = unnumbered_line extended (next_sequence book) words

-- a line in the section of ip access-list (IOS: ip access-list)
unfoldable pub section_line : Bool → Book → Words → Result (Option Entry) Fault
section_line extended book words = do
  w ← next_word words
  section_by extended book words w.0 w.1 (number_of 1 last_sequence w.0)

-- a list that was written before
abbrev pub list_at : Words → List WrittenList → Word → Option WrittenList
list_at names lists n = option_and_then (slice_get lists) (place_of n names)

-- the entries of a list, which may not be there yet
abbrev pub book_by : Option WrittenList → Book
book_by None = []
book_by (Some l) = l.book

-- a line in the section of this list
unfoldable pub section_action : Words → List WrittenList → Word → Bool → Words → Result Action Fault
section_action names lists n extended words = do
  e ← section_line extended (book_by (list_at names lists n)) words
  Ok (action.Entry n (record { extended = extended; entry = e }))

-- access-list N permit, deny or remark
unfoldable pub numbered_action : Words → List WrittenList → Words → Result Action Fault
numbered_action names lists words = do
  w ← next_word words
  k ← ok_or (kind_by_number w.0) (fault_of kind.BadListNumber w.0)
  e ← unnumbered_line k (next_sequence (book_by (list_at names lists w.0))) w.1
  Ok (action.Numbered w.0 (record { extended = k; entry = e }))

-- ip access-list standard W, ip access-list extended W
unfoldable pub kind_at : Words → Result (Bool × Words) Fault
kind_at words = do
  w ← allowed_word (list_refuses list_part.Kind) words
  Ok (bytes_eq w.0 (codes "extended"), w.1)

-- a name of digits alone has to be in the range of its kind
abbrev pub in_range : Bool → Option Bool → Bool
in_range extended None = false
in_range true (Some k) = k
in_range false (Some k) = not k

-- a name that isn't all digits is in any range
abbrev pub has_range : Bool → Word → Bool
has_range extended w = not (is_numeral w) || in_range extended (kind_by_number w)

-- the list is there as one of the other kind
abbrev pub other_kind : Bool → Option WrittenList → Bool
other_kind extended None = false
other_kind true (Some l) = not l.extended
other_kind false (Some l) = l.extended

-- the range of a name is judged before its kind
abbrev pub opened : Bool → Option WrittenList → Word → Result (Unit {0}) Fault
opened extended list w =
    if not (has_range extended w) then Err (fault_of kind.BadListNumber w)
    else (if other_kind extended list then Err (fault_of kind.ListKindClash w)
    else Ok tt)

-- ip access-list standard W, ip access-list extended W (IOS: ip access-list)
unfoldable pub open_action : Words → List WrittenList → Words → Result Action Fault
open_action names lists words = do
  k ← kind_at words
  w ← next_word k.1
  o ← opened k.0 (list_at names lists w.0) w.0
  e ← ended none_refused w.1
  Ok (action.OpenList w.0 k.0)
