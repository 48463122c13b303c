-- The commands about interfaces.
use Rattle.std.specs.Prelude.{ℕ, min, Bool, true, false, ◌||◌, [], ◌∷◌, drop, Result, Ok, Err, if◌then◌else◌, codes}
use Rattle.std.proofs.Math.Nat.{min-le_right}
use Rattle.std.specs.Str.{bytes_eq}
use Rattle.net_types.specs.declared.config.Subnet.{Subnet}
use Rattle.ios_lines.specs.declared.fault.Fault.{Fault}
use Rattle.ios_lines.specs.declared.fault.Kind.TheVariants as kind
use Rattle.ios_commands.specs.declared.refused.CommandPart.TheVariants as command_part
use Rattle.ios_commands.specs.Refused.{command_refuses}
use Rattle.ios_lines.specs.declared.effect.Action.{Action}
use Rattle.ios_lines.specs.declared.effect.Action.TheVariants as action
use Rattle.ios_lines.specs.declared.effect.Change.{Change}
use Rattle.ios_lines.specs.declared.effect.Change.TheVariants as change
use Rattle.ios_lines.specs.declared.effect.WrittenAddress.{WrittenAddress}
use Rattle.ios_lines.specs.Words.{none_refused, ◌>>=◌, Word, Words, fault_of, head_word, next_word, address_at, mask_at, ended}

-- interface W [point-to-point or multipoint]
abbrev pub is_link_kind : Word → Bool
is_link_kind w = bytes_eq w (codes "point-to-point") || bytes_eq w (codes "multipoint")

-- [point-to-point or multipoint]
abbrev pub after_link_kind : Words → Words
after_link_kind [] = []
after_link_kind (w ∷ ws) = if is_link_kind w then ws else w ∷ ws

-- Null0 is passed over with its section
unfoldable pub interface_action : Words → Result Action Fault
interface_action words = do
  w ← next_word words
  e ← ended none_refused (after_link_kind w.1)
  if bytes_eq w.0 (codes "Null0") then Ok (action.Pass true) else Ok (action.Interface w.0 change.Open)

-- an address with the length of its mask
abbrev pub subnet_of : ℕ → ℕ → Subnet
subnet_of a n = record { address = a; length = min n 32; in_range = min-le_right n 32 }

-- A M, with a mask other than 0.0.0.0
unfoldable pub written_at : ℕ → Words → Result (WrittenAddress × Words) Fault
written_at line words = do
  a ← address_at (command_refuses command_part.Address) words
  m ← mask_at (command_refuses command_part.Address) 1 a.1
  Ok (record { subnet = subnet_of a.0 m.0; line = line; word = head_word words }, m.1)

-- ip address A M [secondary]
abbrev pub begins_secondary : Words → Bool
begins_secondary [] = false
begins_secondary (w ∷ ws) = bytes_eq w (codes "secondary")

-- with secondary or without
abbrev pub address_change : Bool → WrittenAddress → Change
address_change true a = change.Secondary a
address_change false a = change.Primary a

-- [secondary]
abbrev pub after_secondary : Bool → Words → Words
after_secondary true words = drop 1 words
after_secondary false words = words

-- ip address A M [secondary] (IOS: ip address)
unfoldable pub address_action : Word → ℕ → Words → Result Action Fault
address_action name line words = do
  a ← written_at line words
  e ← ended (command_refuses command_part.Address) (after_secondary (begins_secondary a.1) a.1)
  Ok (action.Interface name (address_change (begins_secondary a.1) a.0))

-- a command that has no word after it
unfoldable pub plain_action : Word → Change → Words → Result Action Fault
plain_action name c words = do
  e ← ended none_refused words
  Ok (action.Interface name c)

-- ip access-group W in, ip access-group W out
unfoldable pub direction_at : Word → Words → Result (Change × Words) Fault
direction_at list words = do
  w ← next_word words
  if bytes_eq w.0 (codes "in") then Ok (change.Input list, w.1) else (if bytes_eq w.0 (codes "out") then Ok (change.Output list, w.1) else Err (fault_of kind.BadWord w.0))

-- ip access-group W in, ip access-group W out (IOS: ip access-group)
unfoldable pub group_action : Word → Words → Result Action Fault
group_action name words = do
  w ← next_word words
  c ← direction_at w.0 w.1
  e ← ended none_refused c.1
  Ok (action.Interface name c.0)
