-- Regions cut in two by a set of headers.
use Rattle.std.specs.Prelude.{ℕ, ◌≡◌, ◌<◌, ◌⊎◌, ◌∷◌, ◌++◌, [], Bool, true, not, List, Contains, count_by, if◌then◌else◌}
use Rattle.hdr_bits.specs.declared.header.Header.{Header}
use Rattle.hdr_bits.specs.HeaderBits.{IsHeader}
use Rattle.cube_diagram.specs.Functions.{Functions, GivesNothing, count_of, value_at}
use Rattle.set_walk.specs.Sets.{InSet, IsSetOf}
use Rattle.incr_review.specs.declared.regions.Region.{Region}
use Rattle.incr_review.specs.Parts.{IsFilled, has_header}
use Rattle.incr_review.specs.Regions.{in_region}

-- the region with other headers
abbrev pub with_headers : Region → ℕ → Region
with_headers r n = record r { headers = n }

-- the region is one of these, with some of its headers, all of which pass the test
pub record IsPiece (f : Functions) (regions : List Region) (keep : Header → Bool) (g : Functions) (r : Region) : Type 0 where
  pub region : Region
  pub among : Contains regions region
  pub is : r ≡ with_headers region r.headers
  pub within : (h : Header) → IsHeader h → InSet g r.headers h → InSet f region.headers h × (keep h ≡ true)

-- the regions with those of their headers that pass the test; where a region has none it is left out
pub record ArePieces (f : Functions) (regions : List Region) (keep : Header → Bool) (g : Functions) (pieces : List Region) : Type 0 where
  pub below : (r : Region) → Contains pieces r → r.headers < count_of g
  pub some : (r : Region) → Contains pieces r → IsFilled g r.headers
  pub from : (r : Region) → Contains pieces r → IsPiece f regions keep g r
  pub one : (s : ℕ) (h : Header) → IsHeader h → count_by (in_region g s h) pieces ≡ (if keep h then count_by (in_region f s h) regions else 0)

-- the region with the headers of the set, if it has some, is one more
abbrev pub AddsPiece : Functions → Region → ℕ → List Region → List Region → Type 0
AddsPiece fs r n old new = (GivesNothing (value_at fs n) × (new ≡ old)) ⊎ (IsFilled fs n × (new ≡ old ++ with_headers r n ∷ []))

-- so it is with those of its headers of which this holds
pub record PutsPiece (f : Functions) (r : Region) (P : Header → Type 0) (g : Functions) (old new : List Region) : Type 0 where
  pub headers : ℕ
  pub below : headers < count_of g
  pub exact : IsSetOf g headers (λ h. InSet f r.headers h × P h)
  pub adds : AddsPiece g r headers old new

-- whether the header is in the set
abbrev pub is_in : Functions → ℕ → Header → Bool
is_in fs set h = has_header fs set h

abbrev pub is_out : Functions → ℕ → Header → Bool
is_out fs set h = not (has_header fs set h)
