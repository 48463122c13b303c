-- The report on two worlds: which headers are affected, and the rows of each ingress.
use Rattle.std.specs.Prelude.{◌≡◌, ℕ, ◌<◌, ◌^◌, Bool, true, false, List, Option, Some, None, map}
use Rattle.std.specs.List.{AllByRecursion, AllZip}
use Rattle.std.specs.Ordering.{is_eq}
use Rattle.std.specs.Cmp.Lexicographic.{slice_cmp}
use Rattle.hdr_bits.specs.HeaderBits.{header_of}
use Rattle.hdr_bits.specs.CubeBits.{IsIn}
use Rattle.hdr_bits.specs.Rows.{AreRows}
use Rattle.net_types.specs.declared.label.Outcome.{Outcome}
use Rattle.net_types.specs.declared.network.Place.{Place}
use Rattle.net_types.specs.declared.network.Row.{Row}
use Rattle.net_types.specs.declared.network.Section.{Section}
use Rattle.net_types.specs.World.{World}
use Rattle.net_types.specs.Walks.{label}
use Rattle.net_types.specs.Order.{outcome_cmp}

-- whether two labels are equal, outcome by outcome. The law is `affected_is_difference`
abbrev pub same_label : List Outcome → List Outcome → Bool
same_label old new = is_eq (slice_cmp outcome_cmp old new)

-- the two labels of a header, where they differ
abbrev pub pair_unless : Bool → List Outcome → List Outcome → Option (List Outcome × List Outcome)
pair_unless true old new = None
pair_unless false old new = Some (old, new)

abbrev pub labels_if_other : List Outcome → List Outcome → Option (List Outcome × List Outcome)
labels_if_other old new = pair_unless (same_label old new) old new

-- a header, by its number, is affected at an ingress where its labels in the two worlds differ: then it has that pair
abbrev pub affected : World → World → ℕ → Place → ℕ → Option (List Outcome × List Outcome)
affected old new t p x = labels_if_other (label old t p (header_of x)) (label new t p (header_of x))

-- the row's labels are those of each header of its cube
abbrev pub HasLabels : World → World → ℕ → Place → Row → Type 0
HasLabels old new t p r = (x : ℕ) → x < 2 ^ 112 → IsIn r.cube x → affected old new t p x ≡ Some (r.old, r.new)

-- the section of an ingress: its place, and the canonical rows of the affected headers in order, each with its labels
pub record IsSection (old new : World) (t : ℕ) (p : Place) (s : Section) : Type 0 where
  pub place : s.place ≡ p
  pub rows : AreRows (affected old new t p) (map (λ r. r.cube) s.rows)
  pub labels : AllByRecursion (HasLabels old new t p) s.rows

-- the report: a section for each ingress, in their order
abbrev pub IsReport : List Place → World → World → ℕ → List Section → Type 0
IsReport ingress old new t sections = AllZip (IsSection old new t) ingress sections
