-- What is wrong with the links of networks, as a whole list: line by line and end by end, then place by place what isn't
-- linked. What is told is this product's choice; what becomes of packets there is said by the rules for places and links.
use Rattle.std.specs.Prelude.{ℕ, Bool, true, false, not, ◌&&◌, ◌||◌, ◌==◌, List, [], ◌∷◌, ◌++◌, Option, Some, None, flat_map, is_some, if◌then◌else◌}
use Rattle.std.specs.Option.{option_or}
use Rattle.std.specs.List.{list_any}
use Rattle.net_types.specs.declared.config.Interface.{Interface}
use Rattle.net_types.specs.declared.config.Loaded.{Loaded}
use Rattle.net_types.specs.declared.config.Subnet.{Subnet}
use Rattle.net_types.specs.Routes.{prefix_number, live_subnets, is_enabled}
use Rattle.topo_links.specs.declared.table.LinkLine.{LinkLine}
use Rattle.topo_links.specs.Ends.{End}
use Rattle.topo_links.specs.Check.{interface_at}
use Rattle.place_checks.specs.declared.finding.Networks.{Networks}
use Rattle.place_checks.specs.declared.finding.Networks.TheVariants.{Old, New, Both}
use Rattle.place_checks.specs.declared.finding.PlaceFinding.{PlaceFinding}
use Rattle.place_checks.specs.declared.finding.PlaceFinding.TheVariants as finding
use Rattle.place_checks.specs.Nearest.{near_in, place_of}
use Rattle.place_checks.specs.Homes.{other_in}

-- the folders of two networks, and which of the two is judged
pub record Pair : Type 0 where
  pub old : List Loaded
  pub new : List Loaded
  pub judged : Networks

abbrev pub judges_old : Networks → Bool
judges_old Old = true
judges_old New = false
judges_old Both = true

abbrev pub judges_new : Networks → Bool
judges_new Old = false
judges_new New = true
judges_new Both = true

-- ---- what is there of a place

-- the line that names it, and the interface of each network, if there is one
pub record Sight : Type 0 where
  pub line : ℕ
  pub place : End
  pub old : Option Interface
  pub new : Option Interface

abbrev pub sight_of : Pair → ℕ → End → Sight
sight_of p n e = record { line = n; place = e; old = interface_at p.old e; new = interface_at p.new e }

-- ---- once, with the networks in which it is so

abbrev pub both_of : Bool → Bool → Option Networks
both_of true true = Some Both
both_of true false = Some Old
both_of false true = Some New
both_of false false = None

-- those of the judged networks in which it is so, if there are any
abbrev pub networks_in : Networks → Bool → Bool → Option Networks
networks_in judged in_old in_new = both_of (judges_old judged && in_old) (judges_new judged && in_new)

abbrev pub told : Option Networks → (Networks → PlaceFinding) → List PlaceFinding
told None f = []
told (Some w) f = f w ∷ []

-- ---- an end of a line

-- neither network has it
abbrev pub is_missing : Sight → Bool
is_missing s = not (is_some s.old) && not (is_some s.new)

abbrev pub nearest : Pair → End → Option End
nearest p e = option_or (near_in p.new e) (near_in p.old e)

abbrev pub missing_findings : Pair → Sight → List PlaceFinding
missing_findings p s = if is_missing s then finding.Missing s.line s.place (nearest p s.place) ∷ [] else []

abbrev pub is_shut : Option Interface → Bool
is_shut None = false
is_shut (Some i) = i.shut

abbrev pub shut_findings : Networks → Sight → List PlaceFinding
shut_findings judged s = told (networks_in judged (is_shut s.old) (is_shut s.new)) (λ w. finding.Shut s.line s.place w)

-- it isn't shut, and has no address
abbrev pub is_bare : Option Interface → Bool
is_bare None = false
is_bare (Some i) = not i.shut && not (is_enabled i)

abbrev pub bare_findings : Networks → Sight → List PlaceFinding
bare_findings judged s = told (networks_in judged (is_bare s.old) (is_bare s.new)) (λ w. finding.NoAddress s.line s.place w)

-- one length, and so many first bits in common
abbrev pub same_subnet : Subnet → Subnet → Bool
same_subnet s t = s.length == t.length && prefix_number s.length s.address == prefix_number s.length t.address

abbrev pub has_subnet : List Subnet → Subnet → Bool
has_subnet ts s = list_any (same_subnet s) ts

abbrev pub has_common : Interface → Interface → Bool
has_common i j = list_any (has_subnet (live_subnets j)) (live_subnets i)

-- both are IP-enabled, and they have no subnet in common
abbrev pub is_apart : Option Interface → Option Interface → Bool
is_apart None o = false
is_apart (Some i) None = false
is_apart (Some i) (Some j) = is_enabled i && is_enabled j && not (has_common i j)

abbrev pub apart_findings : Networks → Sight → Sight → List PlaceFinding
apart_findings judged f s =
    told (networks_in judged (is_apart f.old s.old) (is_apart f.new s.new)) (λ w. finding.Apart s.line s.place f.place w)

-- of an end, beside the first one of its line
abbrev pub sight_findings : Pair → Sight → Sight → List PlaceFinding
sight_findings p f s =
    missing_findings p s ++ shut_findings p.judged s ++ bare_findings p.judged s ++ apart_findings p.judged f s

abbrev pub end_findings : Pair → ℕ → End → End → List PlaceFinding
end_findings p n f e = sight_findings p (sight_of p n f) (sight_of p n e)

abbrev pub ends_findings : Pair → ℕ → List End → List PlaceFinding
ends_findings p n [] = []
ends_findings p n (f ∷ es) = flat_map (end_findings p n f) (f ∷ es)

abbrev pub line_findings : Pair → LinkLine → List PlaceFinding
line_findings p l = ends_findings p l.line l.ends

-- ---- a place beside others of its subnet

abbrev pub other_if : Bool → Option End → Option End
other_if judged o = if judged then o else None

abbrev pub unlinked_by : End → Option End → Option End → List PlaceFinding
unlinked_by e None None = []
unlinked_by e (Some f) None = finding.Unlinked e f Old ∷ []
unlinked_by e None (Some f) = finding.Unlinked e f New ∷ []
unlinked_by e (Some g) (Some f) = finding.Unlinked e f Both ∷ []

abbrev pub unlinked_findings : Pair → List LinkLine → End → List PlaceFinding
unlinked_findings p ls e =
    unlinked_by e (other_if (judges_old p.judged) (other_in ls p.old e)) (other_if (judges_new p.judged) (other_in ls p.new e))

-- the old network doesn't have the place
abbrev pub is_added : Pair → End → Bool
is_added p e = not (is_some (interface_at p.old e))

-- of a place of the old network, or of one of the new network that is told of where the old one doesn't have it
abbrev pub place_unlinked : Bool → Pair → List LinkLine → End → List PlaceFinding
place_unlinked added p ls e = if not added || is_added p e then unlinked_findings p ls e else []

abbrev pub interface_unlinked : Bool → Pair → List LinkLine → Loaded → Interface → List PlaceFinding
interface_unlinked added p ls l i = place_unlinked added p ls (place_of l i)

abbrev pub device_unlinked : Bool → Pair → List LinkLine → Loaded → List PlaceFinding
device_unlinked added p ls l = flat_map (interface_unlinked added p ls l) l.config.interfaces

-- ---- all together

abbrev pub place_findings : Pair → List LinkLine → List PlaceFinding
place_findings p ls =
    flat_map (line_findings p) ls
    ++ flat_map (device_unlinked false p ls) p.old
    ++ flat_map (device_unlinked true p ls) p.new
