-- What a configuration has to be so that its text is read as it: what each accepted one is.
use Rattle.std.specs.Prelude.{◌≡◌, ◌<◌, ◌≤◌, false, true, List, [], ◌∷◌, ◌++◌, Option, Some, None}
use Rattle.std.specs.List.{AllByRecursion}
use Rattle.std.specs.Str.{bytes_eq}
use Rattle.std.specs.Prelude.{codes}
use Rattle.net_text.specs.Texts.{IsWord}
use Rattle.net_types.specs.declared.config.Interface.{Interface}
use Rattle.net_types.specs.declared.config.Subnet.{Subnet}
use Rattle.net_types.specs.declared.config.Route.{Route}
use Rattle.net_types.specs.declared.config.RouteExit.{RouteExit}
use Rattle.net_types.specs.declared.config.RouteExit.TheVariants as exit
use Rattle.net_types.specs.declared.config.NatRule.{NatRule}
use Rattle.net_types.specs.declared.config.NatKind.{NatKind}
use Rattle.net_types.specs.declared.config.NatKind.TheVariants as nat
use Rattle.ios_words.specs.Words.{address_of}
use Rattle.ios_commands.specs.declared.refused.CommandPart.TheVariants as command_part
use Rattle.ios_commands.specs.Refused.{command_refuses}
use Rattle.ios_lines.specs.Words.{Word, Words}
use Rattle.ios_lines.specs.Lists.{place_of}
use Rattle.ios_commands.specs.Routes.{is_prefix}
use Rattle.ios_commands.specs.Translation.{has_local, has_global, local_side, global_side}

-- an address of an interface: with a mask other than 0.0.0.0
pub record IsAddress (s : Subnet) : Type 0 where
  pub address : s.address < 4294967296
  pub some : 0 < s.length

abbrev pub IsWordIfAny : Option Word → Type 0
IsWordIfAny None = Unit {0}
IsWordIfAny (Some w) = IsWord w

abbrev pub IsAddressIfAny : Option Subnet → Type 0
IsAddressIfAny None = Unit {0}
IsAddressIfAny (Some s) = IsAddress s

-- an interface, behind others of these names
pub record IsInterface (before : Words) (i : Interface) : Type 0 where
  pub name : IsWord i.name
  pub other : bytes_eq i.name (codes "Null0") ≡ false
  pub new : place_of i.name before ≡ None
  pub primary : IsAddressIfAny i.primary
  pub secondary : AllByRecursion IsAddress i.secondary
  pub input : IsWordIfAny i.input
  pub output : IsWordIfAny i.output

abbrev pub AreInterfaces : Words → List Interface → Type 0
AreInterfaces before [] = Unit {0}
AreInterfaces before (i ∷ is) = IsInterface before i × AreInterfaces (before ++ i.name ∷ []) is

-- a word that a route names as an interface
pub record IsPort (name : Word) : Type 0 where
  pub word : IsWord name
  pub other : bytes_eq name (codes "Null0") ≡ false
  pub no_address : address_of name ≡ None
  pub covered : command_refuses command_part.RouteTail name ≡ false

abbrev pub IsExit : RouteExit → Type 0
IsExit exit.Null = Unit {0}
IsExit (exit.Port name) = IsPort name
IsExit (exit.Both name next) = IsPort name × (next < 4294967296)
IsExit (exit.Next next) = next < 4294967296

pub record IsRoute (r : Route) : Type 0 where
  pub address : r.prefix.address < 4294967296
  pub prefix : is_prefix r.prefix ≡ true
  pub exit : IsExit r.exit
  pub some : 1 ≤ r.distance
  pub most : r.distance ≤ 255

abbrev pub AreRoutes : List Route → Type 0
AreRoutes [] = Unit {0}
AreRoutes (r ∷ rs) = IsRoute r × AreRoutes rs

abbrev pub IsPortPair : NatRule → NatKind → Type 0
IsPortPair r nat.Plain = (r.local_port ≡ 0) × (r.global_port ≡ 0)
IsPortPair r nat.Outer = (r.local_port ≡ 0) × (r.global_port ≡ 0)
IsPortPair r _ = (1 ≤ r.local_port) × (r.local_port ≤ 65535) × (1 ≤ r.global_port) × (r.global_port ≤ 65535)

-- a rule of address translation, behind others
pub record IsRule (before : List NatRule) (r : NatRule) : Type 0 where
  pub local : r.local < 4294967296
  pub global : r.global < 4294967296
  pub ports : IsPortPair r r.kind
  pub new_local : has_local before (local_side r) ≡ false
  pub new_global : has_global before (global_side r) ≡ false

abbrev pub AreRules : List NatRule → List NatRule → Type 0
AreRules before [] = Unit {0}
AreRules before (r ∷ rs) = IsRule before r × AreRules (before ++ r ∷ []) rs
