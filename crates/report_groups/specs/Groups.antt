-- Groups of the rows of an ingress: which rows a group stands for, and which groups can be joined.
use Rattle.std.specs.Prelude.{ℕ, Some, ◌≡◌, ◌<◌, List, [], ◌∷◌, map, slice_set, slice_get, slice_index_or, length, IsPermutation}
use Rattle.std.specs.List.{flat_map, AllByRecursion}
use Rattle.hdr_bits.specs.declared.cube.Cube.{Cube}
use Rattle.hdr_bits.specs.declared.header.Header.{Header}
use Rattle.hdr_bits.specs.HeaderBits.{header_of}
use Rattle.net_types.specs.declared.label.Outcome.{Outcome}
use Rattle.net_types.specs.declared.network.Row.{Row}
use Rattle.report_groups.specs.declared.types.Group.{Group}
use Rattle.report_groups.specs.declared.types.Pattern.{Pattern}

-- the six fields of a cube, by their fixed bits and the digits at those
abbrev pub patterns_with : Header → Header → List Pattern
patterns_with f b =
    record { fixed = f.dst; bits = b.dst }
    ∷ record { fixed = f.src; bits = b.src }
    ∷ record { fixed = f.proto; bits = b.proto }
    ∷ record { fixed = f.dport; bits = b.dport }
    ∷ record { fixed = f.sport; bits = b.sport }
    ∷ record { fixed = f.flags; bits = b.flags }
    ∷ []

abbrev pub patterns_of : Cube → List Pattern
patterns_of c = patterns_with (header_of c.fixed) (header_of c.bits)

-- what a row says: the fields of its cube, and its outcomes in the two networks
pub record Cell : Type 0 where
  pub fields : List Pattern
  pub old : List Outcome
  pub new : List Outcome

abbrev pub cell_of : Row → Cell
cell_of row = record { fields = patterns_of row.cube; old = row.old; new = row.new }

-- one item of each list, in each way
abbrev pub choices : {A : Type 0} → List (List A) → List (List A)
choices [] = [] ∷ []
choices (xs ∷ rest) = flat_map (λ x. map (λ c. x ∷ c) (choices rest)) xs

-- the rows that a group stands for: each with one pattern of each of its fields, and all with its outcomes
abbrev pub cells_of : Group → List Cell
cells_of g = map (λ c. record { fields = c; old = g.old; new = g.new }) (choices g.fields)

-- field k of a group
abbrev pub field_at : ℕ → Group → List Pattern
field_at k g = slice_index_or g.fields k []

-- the group with these patterns as its field k
abbrev pub with_field : ℕ → List Pattern → Group → Group
with_field k patterns g = record { fields = slice_set g.fields k patterns; old = g.old; new = g.new }

-- a group without its field k
abbrev pub without : ℕ → Group → Group
without k g = with_field k [] g

-- no item stands twice
pub record AreDistinct {A : Type 0} (items : List A) : Type 0 where
  pub apart : (i j : ℕ) (x : A) → slice_get items i ≡ Some x → slice_get items j ≡ Some x → i ≡ j

-- no two groups have equal outcomes and are equal in all fields but field k
abbrev pub NoneJoin : ℕ → List Group → Type 0
NoneJoin k groups = AreDistinct (map (without k) groups)

-- a group stands for some row
abbrev pub HasRows : Group → Type 0
HasRows g = 0 < length (cells_of g)

-- a group has the six fields of a header
abbrev pub HasFields : Group → Type 0
HasFields g = length g.fields ≡ 6

-- Groups of rows: what the groups stand for are these rows, none left out and each in one group, no group stands for
-- nothing, and no two of them can be joined in a field
pub record IsGrouping (rows : List Row) (groups : List Group) : Type 0 where
  pub same : IsPermutation (map cell_of rows) (flat_map cells_of groups)
  pub some : AllByRecursion HasRows groups
  pub six : AllByRecursion HasFields groups
  pub apart : (k : ℕ) → k < 6 → NoneJoin k groups
