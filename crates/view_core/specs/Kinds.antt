-- Kinds of change, and the groups of each.
use Rattle.std.specs.Prelude.{ℕ, Bool, ◌==◌, List, [], ◌∷◌, filter, length}
use Rattle.std.specs.List.{flat_map}
use Rattle.report_groups.specs.declared.types.Change.{Change}
use Rattle.report_groups.specs.declared.types.Change.TheVariants as change
use Rattle.report_groups.specs.declared.types.Entry.{Entry}

-- from the most feared kind to the least
abbrev pub rank_of : Change → ℕ
rank_of change.Loops = 0
rank_of change.Closes = 1
rank_of change.Opens = 2
rank_of change.Sometimes = 3
rank_of change.Translated = 4
rank_of change.Moves = 5
rank_of change.LoopGone = 6

unfoldable pub kinds : List Change
kinds =
    change.Loops
    ∷ change.Closes
    ∷ change.Opens
    ∷ change.Sometimes
    ∷ change.Translated
    ∷ change.Moves
    ∷ change.LoopGone
    ∷ []

abbrev pub is_of_kind : Change → Entry → Bool
is_of_kind kind e = rank_of e.change == rank_of kind

-- the groups of one kind
abbrev pub of_kind : List Entry → Change → List Entry
of_kind entries kind = filter (is_of_kind kind) entries

-- how many there are
abbrev pub kind_count : List Entry → Change → ℕ
kind_count entries kind = length (of_kind entries kind)

-- the groups in the order in which they are shown: the most feared kind first
unfoldable pub in_order : List Entry → List Entry
in_order entries = flat_map (of_kind entries) kinds
