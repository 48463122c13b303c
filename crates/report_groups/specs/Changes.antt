-- What a change is to a person: whether packets still get through, before where they get.
use Rattle.std.specs.Prelude.{ℕ, Bool, true, false, ◌==◌, ◌&&◌, ◌||◌, not, List, Option, None, Some, if◌then◌else◌}
use Rattle.std.specs.List.{list_any, list_all}
use Rattle.net_types.specs.declared.label.Outcome.{Outcome}
use Rattle.net_types.specs.declared.label.Outcome.TheVariants.{Dropped, Expired, Local, Exit}
use Rattle.net_types.specs.World.{same_place}
use Rattle.report_groups.specs.declared.types.Change.{Change}
use Rattle.report_groups.specs.declared.types.Change.TheVariants as change

abbrev pub is_dropped : Outcome → Bool
is_dropped Dropped = true
is_dropped _ = false

abbrev pub is_expired : Outcome → Bool
is_expired Expired = true
is_expired _ = false

-- the packet is delivered, or leaves the network
abbrev pub gets_through : Outcome → Bool
gets_through (Local _) = true
gets_through (Exit _ _ _ _ _) = true
gets_through _ = false

-- the packet is dropped, or goes round until it expires
abbrev pub is_lost : Outcome → Bool
is_lost o = not (gets_through o)

-- some outcome of the first list passes the test, and none of the second does
abbrev pub appears : (Outcome → Bool) → List Outcome → List Outcome → Bool
appears test here there = list_any test here && not (list_any test there)

-- they end in the same way at the same place, whatever was translated
abbrev pub ends_alike : Outcome → Outcome → Bool
ends_alike Dropped Dropped = true
ends_alike Expired Expired = true
ends_alike (Local p) (Local q) = same_place p q
ends_alike (Exit p _ _ _ _) (Exit q _ _ _ _) = same_place p q
ends_alike _ _ = false

-- a field is replaced by the same value, or in neither
abbrev pub same_value : Option ℕ → Option ℕ → Bool
same_value None None = true
same_value (Some a) (Some b) = a == b
same_value _ _ = false

-- the same fields are replaced by the same values
abbrev pub translates_alike : Outcome → Outcome → Bool
translates_alike (Exit _ src dst sport dport) (Exit _ src' dst' sport' dport') =
    same_value src src' && (same_value dst dst' && (same_value sport sport' && same_value dport dport'))
translates_alike _ _ = true

abbrev pub is_same : Outcome → Outcome → Bool
is_same o p = ends_alike o p && translates_alike o p

-- each outcome of the first list that gets through is like one of the second
abbrev pub through_among : (Outcome → Outcome → Bool) → List Outcome → List Outcome → Bool
through_among like here there = list_all (λ o. is_lost o || list_any (like o) there) here

-- what gets through is alike in both
abbrev pub through_alike : (Outcome → Outcome → Bool) → List Outcome → List Outcome → Bool
through_alike like old new = through_among like old new && through_among like new old

-- where something gets through in both networks
abbrev pub change_through : List Outcome → List Outcome → Change
change_through old new =
    if appears is_lost old new || appears is_lost new old then change.Sometimes
    else (if not (through_alike is_same old new) then (if through_alike ends_alike old new then change.Translated else change.Moves)
    else (if appears is_expired old new then change.LoopGone else change.Sometimes))

-- A loop that is new comes first; then whether something gets through in one network only; then what is lost without
-- anything that gets through in either (each way of the new network loops, or some way is dropped there)
abbrev pub change_of : List Outcome → List Outcome → Change
change_of old new =
    if appears is_expired new old then change.Loops
    else (if appears gets_through old new then change.Closes
    else (if appears gets_through new old then change.Opens
    else (if list_any gets_through new then change_through old new
    else (if list_any is_dropped new then change.LoopGone else change.Loops))))
