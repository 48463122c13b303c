-- From regions to the pairs of labels of headers.
use Rattle.std.specs.Prelude.{ℕ, ◌≡◌, ◌<◌, ◌^◌, ◌⊎◌, List, Option, Some, None, IsSome, Contains, map, slice_get}
use Rattle.std.specs.Option.{option_or}
use denote.Ref.{Bor}
use Rattle.hdr_bits.specs.Lists.{Extends}
use Rattle.cube_diagram.specs.Combined.{if_both}
use Rattle.cube_diagram.specs.Functions.{Functions, count_of, value_at}
use Rattle.cube_diagram.specs.RowCounts.{IsRowCount}
use Rattle.net_types.specs.declared.network.Row.{Row}
use Rattle.net_types.specs.Report.{labels_if_other}
use Rattle.pair_rows.specs.declared.function.PairFunction.{PairFunction}
use Rattle.pair_rows.specs.Functions.{IsFunctionOf}
use Rattle.pair_rows.specs.Pairs.{AreDistinct, AreRowsWithPairs, Pair}
use Rattle.incr_review.specs.declared.regions.Region.{Region}

abbrev pub AreBelow : Functions → List Region → Type 0
AreBelow fs regions = (r : Region) → Contains regions r → r.headers < count_of fs

-- the regions that are pointed to
abbrev pub regions_at : List (Bor Region) → List Region
regions_at rs = map (λ r. r.now) rs

-- these are some of the regions, and the two labels of any other one are equal
pub record AreDiffering (regions differing : List Region) : Type 0 where
  pub from : (r : Region) → Contains differing r → Contains regions r
  pub rest : (r : Region) → Contains regions r → Contains differing r ⊎ (r.old ≡ r.new)

-- the two labels of the region, where they differ
abbrev pub pair_of : Region → Option Pair
pair_of r = labels_if_other r.old r.new

-- the header is one of a region at the ingress of this position, which has this pair
pub record HasPair (fs : Functions) (slot : ℕ) (regions : List Region) (h : ℕ) (pair : Option Pair) : Type 0 where
  pub region : Region
  pub among : Contains regions region
  pub slot_is : region.slot ≡ slot
  pub inside : IsSome (value_at fs region.headers h)
  pub is : pair ≡ pair_of region

-- a number stands for the pair of a region that has the header; where there is none, the labels of each such region are equal; no
-- pair has two numbers
pub record ArePairsOf (fs : Functions) (slot : ℕ) (regions : List Region) (given : PairFunction) : Type 0 where
  pub number : (h n : ℕ) → h < 2 ^ 112 → value_at given.table given.function h ≡ Some n → HasPair fs slot regions h (slice_get given.pairs n) × IsSome (slice_get given.pairs n)
  pub none : (h : ℕ) (r : Region) → h < 2 ^ 112 → value_at given.table given.function h ≡ None → Contains regions r → r.slot ≡ slot → IsSome (value_at fs r.headers h) → pair_of r ≡ None
  pub distinct : AreDistinct given.pairs

-- the rows of the pairs of these regions at the ingress of this position
pub record AreRowsAt (fs : Functions) (slot : ℕ) (regions : List Region) (rows : List Row) : Type 0 where
  pub given : PairFunction
  pub pairs : ArePairsOf fs slot regions given
  pub right : (g : ℕ → Option Pair) → IsFunctionOf g given → AreRowsWithPairs g rows

-- so many rows they have
pub record IsCountAt (fs : Functions) (slot : ℕ) (regions : List Region) (count : ℕ) : Type 0 where
  pub given : PairFunction
  pub pairs : ArePairsOf fs slot regions given
  pub right : IsRowCount (value_at given.table given.function) count

-- the headers of the set that have no number have this one
abbrev pub IsNumbered : Functions → ℕ → ℕ → ℕ → Functions → ℕ → Type 0
IsNumbered f function set number g r = (h : ℕ) → value_at g r h ≡ option_or (value_at f function h) (if_both (Some number) (value_at f set h))

-- the pair has a number, which the region's headers have that had none
pub record NumbersPair (fs : Functions) (r : Region) (old new : PairFunction) : Type 0 where
  pub index : ℕ
  pub there : slice_get new.pairs index ≡ Some (r.old, r.new)
  pub extends : Extends old.pairs new.pairs
  pub distinct : AreDistinct new.pairs
  pub exact : (h : ℕ) → value_at new.table new.function h ≡ option_or (value_at old.table old.function h) (if_both (Some index) (value_at fs r.headers h))

-- so it is, where the labels differ; else nothing is changed
abbrev pub AddsPair : Functions → Region → PairFunction → PairFunction → Type 0
AddsPair fs r old new = ((r.old ≡ r.new) × (new ≡ old)) ⊎ ((r.old ≡ r.new → ⊥) × NumbersPair fs r old new)
