-- Which headers a group holds.
use Rattle.std.specs.Prelude.{ℕ, Bool, true, false, ◌&&◌, List, [], ◌∷◌}
use Rattle.std.specs.List.{list_any}
use Rattle.hdr_bits.specs.declared.header.Header.{Header}
use Rattle.report_groups.specs.declared.types.Group.{Group}
use Rattle.report_groups.specs.declared.types.Pattern.{Pattern}
use Rattle.report_groups.specs.Groups.{Cell}
use Rattle.report_groups.specs.Values.{matches}

-- the six fields of a header
abbrev pub fields_of : Header → List ℕ
fields_of h = h.dst ∷ h.src ∷ h.proto ∷ h.dport ∷ h.sport ∷ h.flags ∷ []

-- each value matches the pattern at its place
abbrev pub each_matches : List ℕ → List Pattern → Bool
each_matches [] [] = true
each_matches (v ∷ vs) (p ∷ ps) = matches v p && each_matches vs ps
each_matches _ _ = false

-- each value matches some pattern of the list at its place
abbrev pub each_matches_some : List ℕ → List (List Pattern) → Bool
each_matches_some [] [] = true
each_matches_some (v ∷ vs) (ps ∷ rest) = list_any (matches v) ps && each_matches_some vs rest
each_matches_some _ _ = false

-- the header is in the row, and in the group
abbrev pub is_in_row : Header → Cell → Bool
is_in_row h c = each_matches (fields_of h) c.fields

abbrev pub is_in_group : Header → Group → Bool
is_in_group h g = each_matches_some (fields_of h) g.fields
