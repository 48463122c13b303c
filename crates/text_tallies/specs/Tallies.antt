-- How often each text of a list stands in it, and where first.
use Rattle.std.specs.Prelude.{◌≡◌, ℕ, ◌+◌, ◌-◌, ◌^◌, min, List, Option, Some, None, option_map, count_by, find, map, position, length}
use Rattle.std.specs.List.{IsDistinct}
use Rattle.std.specs.List.Sorted.{IsSortedByKey}
use Rattle.std.specs.Map.{lookup}
use Rattle.std.specs.Ordering.{nat_cmp, ordering_then}
use Rattle.std.specs.Str.{bytes_eq}
use Rattle.std.specs.declared.cmp.Ordering.{Ordering}
use Rattle.text_tallies.specs.declared.tallies.Seen.{Seen}
use Rattle.text_tallies.specs.declared.tallies.Tallies.{Tallies}
use Rattle.text_tallies.specs.declared.tallies.Tally.{Tally}

-- ---- the tallies of a list of texts

-- that of a text
abbrev pub tally_of : List ℕ → List Tally → Option Tally
tally_of text rs = find (λ r. bytes_eq text r.text) rs

-- a text without a tally is never there
abbrev pub count_in : Option Tally → ℕ
count_in None = 0
count_in (Some r) = r.count

-- how many more there could be, and the place of the first one
abbrev pub rank : Tally → ℕ × ℕ
rank r = (2 ^ 64 - 1 - r.count, r.first)

abbrev pub rank_cmp : ℕ × ℕ → ℕ × ℕ → Ordering
rank_cmp p q = ordering_then (nat_cmp p.0 q.0) (nat_cmp p.1 q.1)

-- the most frequent texts come first, and of equally frequent ones those that stand first
abbrev pub IsInOrder : List Tally → Type 0
IsInOrder rs = IsSortedByKey rank rank_cmp rs

-- *the tallies*: of every text how often it stands in the list, and where first
pub record AreTallies (ts : List (List ℕ)) (rs : List Tally) : Type 0 where
  pub counts : (text : List ℕ) → count_in (tally_of text rs) ≡ count_by (bytes_eq text) ts
  pub firsts : (text : List ℕ) → option_map (λ r. r.first) (tally_of text rs) ≡ position (bytes_eq text) ts
  pub once : IsDistinct bytes_eq (map (λ r. r.text) rs)
  pub order : IsInOrder rs

-- ---- the same while they are made

abbrev pub row : List ℕ × Seen → Tally
row e = record { text = e.0; count = e.1.count; first = e.1.first }

abbrev pub rows : Tallies → List Tally
rows t = map (λ e. row (e.0.items, e.1)) t.seen.entries

-- what is kept of a text
abbrev pub kept : Tallies → List ℕ → Option Seen
kept t text = lookup (λ k. bytes_eq text k.items) t.seen.entries

-- a text of which nothing is kept is never there
abbrev pub counted : Option Seen → ℕ
counted None = 0
counted (Some s) = s.count

-- the same with one more, at this place of the list; a count stands still at its type's end
abbrev pub raised : Option Seen → ℕ → Seen
raised None place = record { count = 1; first = place }
raised (Some s) place = record { count = min (s.count + 1) (2 ^ 64 - 1); first = s.first }

pub record AreSeen (ts : List (List ℕ)) (t : Tallies) : Type 0 where
  pub length : t.length ≡ length ts
  pub counts : (text : List ℕ) → counted (kept t text) ≡ count_by (bytes_eq text) ts
  pub firsts : (text : List ℕ) → option_map (λ s. s.first) (kept t text) ≡ position (bytes_eq text) ts
