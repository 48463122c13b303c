-- The words that the commands of access lists don't cover, where they are read as the next word.
use Rattle.std.specs.Prelude.{Bool, not, ◌||◌, codes}
use Rattle.std.specs.Str.{bytes_eq}
use Rattle.ios_lines.specs.Words.{Word}
use Rattle.ios_lists.specs.declared.refused.ListPart.{ListPart}
use Rattle.ios_lists.specs.declared.refused.ListPart.TheVariants as list_part

-- tests of a packet that have no place in a header here (IOS: access-list, extended)
unfoldable pub refused_after_destination : Word → Bool
refused_after_destination w = bytes_eq w (codes "fragments") || bytes_eq w (codes "dscp") || bytes_eq w (codes "precedence") || bytes_eq w (codes "tos") || bytes_eq w (codes "ttl") || bytes_eq w (codes "option") || bytes_eq w (codes "time-range") || bytes_eq w (codes "reflect")

-- each other kind of list; reflexive and dynamic entries; groups of objects (IOS: ip access-list, access-list)
abbrev pub list_refuses : ListPart → Word → Bool
list_refuses list_part.Kind w = not (bytes_eq w (codes "standard") || bytes_eq w (codes "extended"))
list_refuses list_part.Entry w = bytes_eq w (codes "evaluate") || bytes_eq w (codes "dynamic") || bytes_eq w (codes "no")
list_refuses list_part.Protocol w = bytes_eq w (codes "0") || bytes_eq w (codes "object-group")
list_refuses list_part.Endpoint w = bytes_eq w (codes "object-group") || bytes_eq w (codes "interface")
list_refuses list_part.Trailing w = refused_after_destination w
