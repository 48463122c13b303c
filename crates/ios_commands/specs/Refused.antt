-- The words that the commands of interfaces, routes and translation don't cover, where they are read as the next word.
use Rattle.std.specs.Prelude.{Bool, not, ◌||◌, codes}
use Rattle.std.specs.Str.{bytes_eq}
use Rattle.ios_lines.specs.Words.{Word}
use Rattle.ios_commands.specs.declared.refused.CommandPart.{CommandPart}
use Rattle.ios_commands.specs.declared.refused.CommandPart.TheVariants as command_part

-- addresses that are learned (IOS: ip address); routes of a VRF, and routes that depend on more than the interfaces (IOS:
-- ip route); translation of networks and of ESP, and to an interface's address (IOS: ip nat inside source); translation of
-- networks, ports and ESP of the outer side (IOS: ip nat outside source)
abbrev pub command_refuses : CommandPart → Word → Bool
command_refuses command_part.Address w = bytes_eq w (codes "dhcp") || bytes_eq w (codes "negotiated")
command_refuses command_part.RoutePrefix w = bytes_eq w (codes "vrf")
command_refuses command_part.RouteTail w = bytes_eq w (codes "permanent") || bytes_eq w (codes "track") || bytes_eq w (codes "multicast") || bytes_eq w (codes "dhcp")
command_refuses command_part.NatLocal w = bytes_eq w (codes "network") || bytes_eq w (codes "esp")
command_refuses command_part.NatGlobal w = bytes_eq w (codes "interface")
command_refuses command_part.OuterGlobal w = bytes_eq w (codes "network") || bytes_eq w (codes "tcp") || bytes_eq w (codes "udp") || bytes_eq w (codes "esp")
command_refuses command_part.NatEnd w = not (bytes_eq w (codes "extendable"))
