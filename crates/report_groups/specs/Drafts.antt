-- Groups while they are made. No public contract names these.
use Rattle.std.specs.Prelude.{ℕ, ◌≡◌, ◌≤◌, ◌<◌, ◌^◌, ◌⊎◌, List, [], ◌∷◌, ◌++◌, length, map, Some, slice_set, slice_get, slice_index_or, IsPermutation}
use Rattle.std.specs.List.{flat_map, AllByRecursion}
use Rattle.report_groups.specs.declared.types.Group.{Group}
use Rattle.report_groups.specs.declared.types.Pattern.{Pattern}
use Rattle.report_groups.specs.declared.types.Draft.{Draft}
use Rattle.report_groups.specs.Groups.{cells_of, field_at, with_field, without, NoneJoin, HasRows}

-- a draft as the group that it is
abbrev pub shown : Draft → Group
shown d = record { fields = map (λ f. f.items) d.fields.items; old = d.before.items; new = d.after.items }

-- the rows of a draft can be counted by a number of 64 bits
abbrev pub IsCounted : Draft → Type 0
IsCounted d = length (cells_of (shown d)) < 2 ^ 64

-- lists of groups without field k, and of what stood there: a group is added to the one that it equals, or at the end
abbrev pub AddsNew : ℕ → Group → List Group → List (List Pattern) → List Group → List (List Pattern) → Type 0
AddsNew k g keys lists keys' lists' = (keys' ≡ keys ++ without k g ∷ []) × (lists' ≡ lists ++ field_at k g ∷ [])

abbrev pub AddsAt : ℕ → Group → List Group → List (List Pattern) → List Group → List (List Pattern) → ℕ → Type 0
AddsAt k g keys lists keys' lists' i =
    (keys' ≡ keys) × (slice_get keys i ≡ Some (without k g)) × (lists' ≡ slice_set lists i (slice_index_or lists i [] ++ field_at k g))

abbrev pub Adds : ℕ → Group → List Group → List (List Pattern) → List Group → List (List Pattern) → Type 0
Adds k g keys lists keys' lists' = AddsNew k g keys lists keys' lists' ⊎ ((i : ℕ) × AddsAt k g keys lists keys' lists' i)

-- these groups with these patterns as field k, as many as there are of both
abbrev pub filled_of : ℕ → List Group → List (List Pattern) → List Group
filled_of k [] lists = []
filled_of k (g ∷ gs) [] = []
filled_of k (g ∷ gs) (list ∷ lists) = with_field k list g ∷ filled_of k gs lists

-- the lists make groups that stand for what the groups so far do
pub record IsFilled (k : ℕ) (done : List Group) (keys : List Group) (lists : List (List Pattern)) : Type 0 where
  pub filled : List Group
  pub keys_are : keys ≡ map (without k) filled
  pub lists_are : lists ≡ map (field_at k) filled
  pub long : AllByRecursion (λ g. k < length g.fields) filled
  pub same : IsPermutation (flat_map cells_of done) (flat_map cells_of filled)
  pub some : AllByRecursion HasRows done → AllByRecursion HasRows filled
  pub fewer : length filled ≤ length done
  pub none : length filled ≡ length done → filled ≡ done

-- the groups are joined in field k, the first of those that are joined at its place
pub record JoinsIn (k : ℕ) (old new : List Group) : Type 0 where
  pub same : IsPermutation (flat_map cells_of old) (flat_map cells_of new)
  pub apart : NoneJoin k new
  pub some : AllByRecursion HasRows old → AllByRecursion HasRows new
  pub fewer : length new ≤ length old
  pub none : length new ≡ length old → new ≡ old

-- the groups are joined in the fields before field n, once each; where none are fewer then, none can be joined in these
pub record JoinsBelow (n : ℕ) (old new : List Group) : Type 0 where
  pub same : IsPermutation (flat_map cells_of old) (flat_map cells_of new)
  pub some : AllByRecursion HasRows old → AllByRecursion HasRows new
  pub fewer : length new ≤ length old
  pub apart : length new ≡ length old → (k : ℕ) → k < n → NoneJoin k new

-- the groups are joined until none can be joined
pub record Settles (old new : List Group) : Type 0 where
  pub same : IsPermutation (flat_map cells_of old) (flat_map cells_of new)
  pub some : AllByRecursion HasRows old → AllByRecursion HasRows new
  pub apart : (k : ℕ) → k < 6 → NoneJoin k new
