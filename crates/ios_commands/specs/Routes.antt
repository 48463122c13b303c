-- The command of static routes: ip route P M TAIL.
use Rattle.std.specs.Prelude.{ℕ, ◌-◌, ◌%◌, ◌^◌, Bool, true, false, not, ◌&&◌, [], ◌∷◌, drop, Option, Some, None, is_some, unwrap_or, Result, Ok, Err, ok_or, ◌==◌, if◌then◌else◌, codes}
use Rattle.std.specs.Str.{bytes_eq}
use Rattle.net_types.specs.declared.config.Subnet.{Subnet}
use Rattle.net_types.specs.declared.config.Route.{Route}
use Rattle.net_types.specs.declared.config.RouteExit.{RouteExit}
use Rattle.net_types.specs.declared.config.RouteExit.TheVariants as exit
use Rattle.ios_words.specs.Words.{address_of, number_of}
use Rattle.ios_lines.specs.declared.fault.Fault.{Fault}
use Rattle.ios_lines.specs.declared.fault.Kind.TheVariants as kind
use Rattle.ios_commands.specs.declared.refused.CommandPart.TheVariants as command_part
use Rattle.ios_commands.specs.Refused.{command_refuses}
use Rattle.ios_lines.specs.declared.effect.Action.{Action}
use Rattle.ios_lines.specs.declared.effect.Action.TheVariants as action
use Rattle.ios_commands.specs.declared.routes.RouteOptions.{RouteOptions}
use Rattle.ios_lines.specs.Words.{none_refused, ◌>>=◌, Word, Words, fault_of, head_word, next_word, allowed_word, address_at, mask_at, number_at, ended}
use Rattle.ios_lines.specs.Words.{hop_of}
use Rattle.ios_commands.specs.Interfaces.{subnet_of}

-- a prefix has no bit after its length
abbrev pub is_prefix : Subnet → Bool
is_prefix s = s.address % 2 ^ (32 - s.length) == 0

-- P M, where a bad mask decides before bits after it
unfoldable pub prefix_at : Words → Result (Subnet × Words) Fault
prefix_at words = do
  a ← address_at (command_refuses command_part.RoutePrefix) words
  m ← mask_at none_refused 0 a.1
  if is_prefix (subnet_of a.0 m.0) then Ok (subnet_of a.0 m.0, m.1) else Err (fault_of kind.HostBits (head_word words))

-- an interface name and optionally a next hop
abbrev pub port_by : Word → Option ℕ → RouteExit
port_by name None = exit.Port name
port_by name (Some a) = exit.Both name a

-- [A]
abbrev pub after_hop : Option ℕ → Words → Words
after_hop None words = words
after_hop (Some a) words = drop 1 words

-- a next hop; or Null0; or an interface name and optionally a next hop
abbrev pub exit_by : Option ℕ → Word → Words → RouteExit × Words
exit_by (Some a) w words = (exit.Next a, words)
exit_by None w words = if bytes_eq w (codes "Null0") then (exit.Null, words) else (port_by w (hop_of words), after_hop (hop_of words) words)

-- what a route names behind its mask (IOS: ip route)
unfoldable pub exit_at : Words → Result (RouteExit × Words) Fault
exit_at words = do
  w ← allowed_word (command_refuses command_part.RouteTail) words
  Ok (exit_by (address_of w.0) w.0 w.1)

-- then a distance, a name and a tag, each at most once and in any order
abbrev pub no_options : RouteOptions
no_options = record { distance = None; named = false; tagged = false }

-- 1 to 255, where no distance is written yet
abbrev pub free_distance : RouteOptions → Word → Option ℕ
free_distance o w = if is_some o.distance then None else number_of 1 255 w

-- D
unfoldable pub distance_option : RouteOptions → Word → Words → Result (RouteOptions × Words) Fault
distance_option o w words = do
  n ← ok_or (free_distance o w) (fault_of kind.ExtraWord w)
  Ok (record o { distance = Some n }, words)

-- name W
unfoldable pub name_option : RouteOptions → Words → Result (RouteOptions × Words) Fault
name_option o words = do
  w ← next_word words
  Ok (record o { named = true }, w.1)

-- tag N
unfoldable pub tag_option : RouteOptions → Words → Result (RouteOptions × Words) Fault
tag_option o words = do
  n ← number_at (command_refuses command_part.RouteTail) 0 4294967295 words
  Ok (record o { tagged = true }, n.1)

-- name, where none is written yet
abbrev pub is_name_option : RouteOptions → Word → Bool
is_name_option o w = bytes_eq w (codes "name") && not o.named

-- tag, where none is written yet
abbrev pub is_tag_option : RouteOptions → Word → Bool
is_tag_option o w = bytes_eq w (codes "tag") && not o.tagged

-- an option by its first word
unfoldable pub option_by : RouteOptions → Word → Words → Result (RouteOptions × Words) Fault
option_by o w words =
    if is_name_option o w then name_option o words
    else (if is_tag_option o w then tag_option o words
    else distance_option o w words)

-- one option, where a word is left
unfoldable pub option_at : RouteOptions → Words → Result (RouteOptions × Words) Fault
option_at o [] = Ok (o, [])
option_at o (x ∷ xs) = do
  w ← allowed_word (command_refuses command_part.RouteTail) (x ∷ xs)
  option_by o w.0 w.1

-- up to three options (IOS: ip route)
unfoldable pub options_at : Words → Result RouteOptions Fault
options_at words = do
  a ← option_at no_options words
  b ← option_at a.0 a.1
  c ← option_at b.0 b.1
  e ← ended (command_refuses command_part.RouteTail) c.1
  Ok c.0

-- the distance is 1 unless one is written
unfoldable pub route_at : Words → Result Route Fault
route_at words = do
  p ← prefix_at words
  x ← exit_at p.1
  o ← options_at x.1
  Ok (record { prefix = p.0; exit = x.0; distance = unwrap_or o.distance 1 })

-- ip route P M TAIL (IOS: ip route)
unfoldable pub route_action : ℕ → Words → Result Action Fault
route_action line words = do
  r ← route_at words
  Ok (action.Route (record { route = r; line = line }))
