-- The order of outcomes and of forwarding choices, and sets of them as lists in order, each item once.
use Rattle.std.specs.Prelude.{◌≢◌, ℕ, List, [], ◌∷◌, Option}
use Rattle.std.specs.Ordering.{nat_cmp, ordering_then}
use Rattle.std.specs.Option.{option_cmp}
use Rattle.std.specs.Cmp.Lexicographic.{slice_cmp}
use Rattle.std.specs.List.Sorted.{IsStrictlySortedBy}
use Rattle.std.specs.declared.cmp.Ordering.{Ordering}
use Rattle.std.specs.declared.cmp.Ordering.TheVariants.{Less, Equal, Greater}
use Rattle.net_types.specs.declared.label.Outcome.{Outcome}
use Rattle.net_types.specs.declared.label.Outcome.TheVariants as end
use Rattle.net_types.specs.declared.network.Hop.{Hop}
use Rattle.net_types.specs.declared.network.Hop.TheVariants.{Discard, Out}
use Rattle.net_types.specs.declared.network.Place.{Place}

-- by device, then by interface
abbrev pub place_cmp : Place → Place → Ordering
place_cmp p q = ordering_then (nat_cmp p.device q.device) (nat_cmp p.interface q.interface)

-- an unchanged field comes before every value
abbrev pub field_cmp : Option ℕ → Option ℕ → Ordering
field_cmp = option_cmp nat_cmp

-- dropped, expired, local by place, exit by place and then by src, dst, sport and dport
abbrev pub outcome_cmp : Outcome → Outcome → Ordering
outcome_cmp end.Dropped end.Dropped = Equal
outcome_cmp end.Dropped _ = Less
outcome_cmp end.Expired end.Dropped = Greater
outcome_cmp end.Expired end.Expired = Equal
outcome_cmp end.Expired _ = Less
outcome_cmp (end.Local p) (end.Local q) = place_cmp p q
outcome_cmp (end.Local p) (end.Exit q a b c d) = Less
outcome_cmp (end.Local p) _ = Greater
outcome_cmp (end.Exit p a b c d) (end.Exit q e f g h) =
    ordering_then (place_cmp p q) (ordering_then (field_cmp a e) (ordering_then (field_cmp b f) (ordering_then (field_cmp c g) (field_cmp d h))))
outcome_cmp (end.Exit p a b c d) _ = Greater

-- texts are ordered by their bytes
abbrev pub text_cmp : List ℕ → List ℕ → Ordering
text_cmp = slice_cmp nat_cmp

-- a drop, then by the interface's name and the next address
abbrev pub hop_cmp : Hop → Hop → Ordering
hop_cmp Discard Discard = Equal
hop_cmp Discard (Out name next) = Less
hop_cmp (Out name next) Discard = Greater
hop_cmp (Out name next) (Out other after) = ordering_then (text_cmp name other) (nat_cmp next after)

-- the item in its place in a list in order, once
abbrev pub put_in_order : {X : Type 0} → (X → X → Ordering) → X → List X → List X
put_in_order cmp x [] = x ∷ []
put_in_order cmp x (y ∷ ys) = elim (cmp x y) [ Less ↦ x ∷ y ∷ ys | Equal ↦ y ∷ ys | Greater ↦ y ∷ put_in_order cmp x ys ]

-- the items in order, each once: lists of the same items give the same list
abbrev pub in_order : {X : Type 0} → (X → X → Ordering) → List X → List X
in_order cmp [] = []
in_order cmp (x ∷ xs) = put_in_order cmp x (in_order cmp xs)

-- a label: outcomes in order, each once, at least one
pub record IsLabel (outcomes : List Outcome) : Type 0 where
  pub order : IsStrictlySortedBy outcome_cmp outcomes
  pub some : outcomes ≢ []
