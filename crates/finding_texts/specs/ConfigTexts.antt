-- How findings about a configuration are written, behind its file.
use Rattle.std.specs.Prelude.{ℕ, List, [], ◌∷◌, ◌++◌, codes, decimal}
use Rattle.net_types.specs.declared.config.Masked.{Masked}
use Rattle.net_types.specs.declared.config.Subnet.{Subnet}
use Rattle.report_text.specs.FieldText.{address_text}
use Rattle.config_checks.specs.declared.finding.AddressField.{AddressField}
use Rattle.config_checks.specs.declared.finding.AddressField.TheVariants as field
use Rattle.config_checks.specs.declared.finding.ConfigFinding.{ConfigFinding}
use Rattle.config_checks.specs.declared.finding.ConfigFinding.TheVariants as finding
use Rattle.config_checks.specs.declared.finding.Direction.{Direction}
use Rattle.config_checks.specs.declared.finding.Direction.TheVariants as direction
use Rattle.finding_texts.specs.Shown.{shown}

abbrev pub direction_text : Direction → List ℕ
direction_text direction.Input = codes " in"
direction_text direction.Output = codes " out"

abbrev pub field_text : AddressField → List ℕ
field_text field.Source = codes "source "
field_text field.Destination = codes "destination "

-- `interface I names the access list L in`
abbrev pub named_text : List ℕ → Direction → List ℕ → List ℕ
named_text i d l = codes "interface " ++ shown i ++ codes " names the access list " ++ shown l ++ direction_text d

-- an address and its wildcard
abbrev pub masked_text : Masked → List ℕ
masked_text m = address_text m.value ++ 32 ∷ address_text m.wild

-- `route A/N by `
abbrev pub prefix_text : Subnet → List ℕ
prefix_text p = codes "route " ++ address_text p.address ++ codes "/" ++ decimal p.length ++ codes " by "

-- `route A/N by H`
abbrev pub way_text : Subnet → ℕ → List ℕ
way_text p next = prefix_text p ++ address_text next

-- a host that isn't behind its side
abbrev pub host_text : ℕ → List ℕ
host_text a = codes "address translation of " ++ address_text a ++ codes ", to which no route leads out of an interface "

-- of a route: what is odd with its next hop; of another finding nothing
abbrev pub route_text : ConfigFinding → List ℕ
route_text (finding.NextIsOwn p n) = way_text p n ++ codes ": the next hop is the device itself, so it is never valid"
route_text (finding.NextNowhere p n) = way_text p n ++ codes ": no route holds the next hop, so it isn't valid"
route_text (finding.NextByDefault p n) = way_text p n ++ codes ": only a default holds the next hop, so it goes where that leads"
route_text (finding.NextByItself p n) = way_text p n ++ codes ": the next hop is looked up in the route's own prefix, so one of the choices is a drop"
route_text (finding.NextIsBroadcast p n) = way_text p n ++ codes ": the next hop is a broadcast or multicast address, which no neighbour has"
route_text (finding.PortAlone p i) =
    prefix_text p ++ codes "interface " ++ shown i ++ codes " alone: any neighbour that answers for the destination takes the packet; write the next hop beside it"
route_text (finding.NextElsewhere p i n) = way_text p n ++ codes ": no subnet of interface " ++ shown i ++ codes " holds the next hop"
route_text (finding.NeverFloats p d n) =
    way_text p n ++ codes " at distance " ++ decimal d ++ codes ": another route holds the next hop, so the backup never takes over"
route_text _ = []

abbrev pub config_text : ConfigFinding → List ℕ
config_text (finding.NoList i d l) = named_text i d l ++ codes ", which isn't there: every packet passes"
config_text (finding.EmptyList i d l) = named_text i d l ++ codes ", which has no entry: every packet passes"
config_text (finding.UnusedList l) = codes "nothing names the access list " ++ shown l
config_text (finding.MaskAsWildcard l sequence f m) =
    codes "entry " ++ decimal sequence ++ codes " of the access list " ++ shown l ++ codes " has a mask for a wildcard: " ++ field_text f ++ masked_text m
config_text finding.NoInside = codes "address translation without an interface inside that is up"
config_text finding.NoOutside = codes "address translation without an interface outside that is up"
config_text (finding.NotInside a) = host_text a ++ codes "inside"
config_text (finding.NotOutside a) = host_text a ++ codes "outside"
config_text (finding.ShutAbove m b) =
    codes "interface " ++ shown m ++ codes " is shut, and its subinterface " ++ shown b ++ codes " isn't: a router takes that down too"
config_text f = route_text f
