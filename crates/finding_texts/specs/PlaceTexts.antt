-- How findings about places are written, behind their line.
use Rattle.std.specs.Prelude.{ℕ, Bool, true, false, List, [], ◌∷◌, ◌++◌, Option, Some, None, codes}
use Rattle.place_checks.specs.declared.finding.Networks.{Networks}
use Rattle.place_checks.specs.declared.finding.Networks.TheVariants as networks
use Rattle.place_checks.specs.declared.finding.PlaceFinding.{PlaceFinding}
use Rattle.place_checks.specs.declared.finding.PlaceFinding.TheVariants as finding
use Rattle.finding_texts.specs.Shown.{shown}

-- `DEVICE INTERFACE`
abbrev pub place_name : List ℕ × List ℕ → List ℕ
place_name p = shown p.0 ++ 32 ∷ shown p.1

-- the network in which it is so, where there are two and it isn't so in both
abbrev pub where_text : Bool → Networks → List ℕ
where_text true networks.Old = codes " in the old network"
where_text true networks.New = codes " in the new network"
where_text true networks.Both = []
where_text false n = []

abbrev pub near_text : Option (List ℕ × List ℕ) → List ℕ
near_text None = []
near_text (Some p) = codes ", the nearest name is " ++ place_name p

-- the line of the table; 0 where it is about no line
abbrev pub line_of : PlaceFinding → ℕ
line_of (finding.Missing line place near) = line
line_of (finding.Shut line place n) = line
line_of (finding.NoAddress line place n) = line
line_of (finding.Apart line place first n) = line
line_of (finding.Unlinked place other n) = 0

abbrev pub apart_text : Bool → List ℕ × List ℕ → List ℕ × List ℕ → Networks → List ℕ
apart_text two place first n = place_name place ++ codes " has no subnet in common with " ++ place_name first ++ where_text two n

abbrev pub place_text : Bool → PlaceFinding → List ℕ
place_text two (finding.Missing line place near) = codes "no network has " ++ place_name place ++ near_text near
place_text two (finding.Shut line place n) = place_name place ++ codes " is shut" ++ where_text two n
place_text two (finding.NoAddress line place n) = place_name place ++ codes " has no address" ++ where_text two n
place_text two (finding.Apart line place first n) = apart_text two place first n
place_text two (finding.Unlinked place other n) = place_name place ++ codes " has a subnet of " ++ place_name other ++ codes ", and no link joins them" ++ where_text two n
