-- The entries of an access list while it is read.
use Rattle.std.specs.Prelude.{ℕ, ◌+◌, ◌-◌, Bool, List, [], fold, length, Option, Some, None, is_some, option_map, slice_get, nat_lt, if◌then◌else◌}
use Rattle.std.specs.Ordering.{nat_cmp, is_eq}
use Rattle.std.specs.Map.{lookup}
use Rattle.std.specs.BTreeMap.{insert_entry}
use Rattle.net_types.specs.declared.config.Entry.{Entry}

-- entries by rising sequence
abbrev pub Book : Type 0
Book = List (ℕ × Entry)

-- one more entry, in the place of its sequence
abbrev pub put_entry : Book → Entry → Book
put_entry b e = insert_entry nat_cmp b e.sequence e

-- the entries one after the other
abbrev pub book_of : List Entry → Book
book_of es = fold put_entry [] es

-- the greatest sequence that an entry may have, 2 ^ 31 - 1 (IOS: ip access-list)
abbrev pub last_sequence : ℕ
last_sequence = 2147483647

-- the sequence of an entry that is written without one: 10 in an empty list, else 10 more than the greatest one, where
-- that is no more than the last sequence (IOS: ip access-list)
abbrev pub greatest : Book → Option ℕ
greatest b = option_map (λ e. e.0) (slice_get b (length b - 1))

-- the sequence after the greatest one, which may be none
abbrev pub next_after : Option ℕ → Option ℕ
next_after None = Some 10
next_after (Some n) = if nat_lt (last_sequence - 10) n then None else Some (n + 10)

-- the sequence of an entry that is written without one
abbrev pub next_sequence : Book → Option ℕ
next_sequence b = next_after (greatest b)

-- an entry has the sequence
abbrev pub has_sequence : ℕ → Book → Bool
has_sequence n b = is_some (lookup (λ k. is_eq (nat_cmp n k)) b)
