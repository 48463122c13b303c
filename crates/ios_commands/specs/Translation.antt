-- The commands of static address translation: ip nat inside source static and ip nat outside source static.
use Rattle.std.specs.Prelude.{ℕ, Bool, false, ◌&&◌, List, [], ◌∷◌, Result, Ok, Err, ◌==◌, if◌then◌else◌, codes}
use Rattle.std.specs.List.{list_any}
use Rattle.std.specs.Str.{bytes_eq}
use Rattle.net_types.specs.declared.config.NatRule.{NatRule}
use Rattle.net_types.specs.declared.config.NatKind.{NatKind}
use Rattle.net_types.specs.declared.config.NatKind.TheVariants as nat
use Rattle.ios_lines.specs.declared.fault.Fault.{Fault}
use Rattle.ios_lines.specs.declared.fault.Kind.TheVariants as kind
use Rattle.ios_commands.specs.declared.refused.CommandPart.TheVariants as command_part
use Rattle.ios_commands.specs.Refused.{command_refuses}
use Rattle.ios_lines.specs.declared.effect.Action.{Action}
use Rattle.ios_lines.specs.declared.effect.Action.TheVariants as action
use Rattle.ios_commands.specs.declared.translation.NatSide.{NatSide}
use Rattle.ios_commands.specs.declared.translation.NatSide.TheVariants as side
use Rattle.ios_lines.specs.Words.{none_refused, ◌>>=◌, Word, Words, fault_of, head_word, allowed_word, address_at, number_at, ended}

-- a side is the address, with the port in a port rule
abbrev pub side_by : NatKind → ℕ → ℕ → NatSide
side_by nat.Plain address port = side.Plain address
side_by nat.Tcp address port = side.Tcp address port
side_by nat.Udp address port = side.Udp address port
side_by nat.Outer address port = side.Outer address

-- L, or L LP
abbrev pub local_side : NatRule → NatSide
local_side r = side_by r.kind r.local r.local_port

-- G, or G GP
abbrev pub global_side : NatRule → NatSide
global_side r = side_by r.kind r.global r.global_port

-- two sides of one kind are equal
abbrev pub same_side : NatSide → NatSide → Bool
same_side (side.Plain a) (side.Plain b) = a == b
same_side (side.Tcp a m) (side.Tcp b n) = a == b && m == n
same_side (side.Udp a m) (side.Udp b n) = a == b && m == n
same_side (side.Outer a) (side.Outer b) = a == b
same_side _ _ = false

-- a rule of the same kind has this side
abbrev pub has_local : List NatRule → NatSide → Bool
has_local rules s = list_any (λ r. same_side s (local_side r)) rules

-- the same of the global side
abbrev pub has_global : List NatRule → NatSide → Bool
has_global rules s = list_any (λ r. same_side s (global_side r)) rules

-- two rules of one kind have neither the same local nor the same global side
abbrev pub clash : List NatRule → NatRule → Word → Word → Result (Unit {0}) Fault
clash rules r local global = if has_local rules (local_side r) then Err (fault_of kind.NatClash local) else (if has_global rules (global_side r) then Err (fault_of kind.NatClash global) else Ok tt)

-- [extendable]
unfoldable pub extendable_at : Words → Result (Unit {0}) Fault
extendable_at [] = Ok tt
extendable_at (x ∷ xs) = do
  w ← allowed_word (command_refuses command_part.NatEnd) (x ∷ xs)
  ended (command_refuses command_part.NatEnd) w.1

-- a complete rule, with the words of its addresses
unfoldable pub rule_action : List NatRule → NatRule → Word → Word → Words → Result Action Fault
rule_action rules r local global words = do
  c ← clash rules r local global
  e ← extendable_at words
  Ok (action.Nat r)

-- L G
unfoldable pub address_rule : List NatRule → Words → Result Action Fault
address_rule rules words = do
  l ← address_at (command_refuses command_part.NatLocal) words
  g ← address_at (command_refuses command_part.NatGlobal) l.1
  rule_action rules (record { kind = nat.Plain; local = l.0; local_port = 0; global = g.0; global_port = 0 }) (head_word words) (head_word l.1) g.1

-- L LP G GP, with ports 1 to 65535
unfoldable pub port_rule : List NatRule → NatKind → Words → Result Action Fault
port_rule rules k words = do
  l ← address_at (command_refuses command_part.NatLocal) words
  m ← number_at none_refused 1 65535 l.1
  g ← address_at (command_refuses command_part.NatGlobal) m.1
  n ← number_at none_refused 1 65535 g.1
  rule_action rules (record { kind = k; local = l.0; local_port = m.0; global = g.0; global_port = n.0 }) (head_word words) (head_word m.1) n.1

-- static L G, static tcp L LP G GP, static udp L LP G GP
unfoldable pub static_action : List NatRule → Words → Result Action Fault
static_action rules words = do
  w ← allowed_word (command_refuses command_part.NatLocal) words
  if bytes_eq w.0 (codes "tcp") then port_rule rules nat.Tcp w.1
      else (if bytes_eq w.0 (codes "udp") then port_rule rules nat.Udp w.1
      else address_rule rules words)

-- static G L of the outer side
unfoldable pub outer_action : List NatRule → Words → Result Action Fault
outer_action rules words = do
  g ← address_at (command_refuses command_part.OuterGlobal) words
  l ← address_at none_refused g.1
  rule_action rules (record { kind = nat.Outer; local = l.0; local_port = 0; global = g.0; global_port = 0 }) (head_word g.1) (head_word words) l.1
