-- Links on Ethernet that a table has as p2p: what arrives is handed to the other end, whatever its address. So what is sent to
-- an address of the link's subnet that neither end has, as the subnet's own one, goes to and fro until it expires. On Ethernet
-- nobody answers for such an address, and nothing is sent.
use Rattle.std.specs.Prelude.{ℕ, Bool, true, false, ◌&&◌, ◌||◌, List, [], ◌∷◌, Option, Some, None, map, filter, nat_eq, nat_lt, codes}
use Rattle.std.specs.List.{list_any, starts_with}
use Rattle.net_types.specs.declared.config.Interface.{Interface}
use Rattle.net_types.specs.declared.config.Subnet.{Subnet}
use Rattle.net_types.specs.Routes.{live_subnets}
use Rattle.topo_links.specs.declared.table.LinkKind.{LinkKind}
use Rattle.topo_links.specs.declared.table.LinkKind.TheVariants as kind
use Rattle.topo_links.specs.declared.table.LinkLine.{LinkLine}
use Rattle.topo_links.specs.Ends.{Word, End}
use Rattle.topo_links.specs.Check.{interface_at}
use Rattle.place_checks.specs.Findings.{Pair, has_subnet, judges_old, judges_new}

-- the names by which IOS calls ports of Ethernet begin so: by their speed
abbrev pub is_port : Word → Bool
is_port name =
    starts_with nat_eq name (codes "Ethernet") || starts_with nat_eq name (codes "FastEthernet")
    || starts_with nat_eq name (codes "GigabitEthernet") || starts_with nat_eq name (codes "TwoGig")
    || starts_with nat_eq name (codes "FiveGig") || starts_with nat_eq name (codes "TenGig")
    || starts_with nat_eq name (codes "TwentyFiveGig") || starts_with nat_eq name (codes "FortyGig")
    || starts_with nat_eq name (codes "HundredGig")

-- and those of what stands for several ports: a VLAN, a channel of ports, a bridge domain
abbrev pub is_bundle : Word → Bool
is_bundle name =
    starts_with nat_eq name (codes "Vlan") || starts_with nat_eq name (codes "Port-channel") || starts_with nat_eq name (codes "BDI")

abbrev pub is_ethernet : Word → Bool
is_ethernet name = is_port name || is_bundle name

-- a subnet of four addresses or more, of which at least that of the subnet itself is no end's
abbrev pub has_spare : Subnet → Bool
has_spare s = nat_lt s.length 31

-- such a subnet, which the other interface has too
abbrev pub is_common : Interface → Subnet → Bool
is_common j s = has_spare s && has_subnet (live_subnets j) s

abbrev pub share_spare : Option Interface → Option Interface → Bool
share_spare None o = false
share_spare (Some i) None = false
share_spare (Some i) (Some j) = list_any (is_common j) (live_subnets i)

-- in one of the judged networks
abbrev pub are_joined : Pair → End → End → Bool
are_joined p e f =
    judges_old p.judged && share_spare (interface_at p.old e) (interface_at p.old f)
    || judges_new p.judged && share_spare (interface_at p.new e) (interface_at p.new f)

abbrev pub has_both : Pair → List End → Bool
has_both p (e ∷ f ∷ []) = is_ethernet e.1 && are_joined p e f
has_both p ends = false

abbrev pub is_p2p : LinkKind → Bool
is_p2p kind.P2p = true
is_p2p kind.Lan = false
is_p2p kind.Ingress = false

abbrev pub is_met : Pair → LinkLine → Bool
is_met p l = is_p2p l.kind && has_both p l.ends

-- the numbers of these lines
abbrev pub ethernet_links : Pair → List LinkLine → List ℕ
ethernet_links p ls = map (λ l. l.line) (filter (is_met p) ls)
