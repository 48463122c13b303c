-- What an access list has to be so that its text is read as it.
use Rattle.std.specs.Prelude.{◌≡◌, ◌⊎◌, ℕ, ◌<◌, ◌≤◌, ◌-◌, Bool, false, true, List, [], ◌∷◌, ◌++◌, length, Option, Some, None, bit_and}
use Rattle.std.specs.List.{AllByRecursion}
use Rattle.net_text.specs.Texts.{IsWord}
use Rattle.net_types.specs.declared.config.AccessList.{AccessList}
use Rattle.net_types.specs.declared.config.Entry.{Entry}
use Rattle.net_types.specs.declared.config.Masked.{Masked}
use Rattle.net_types.specs.declared.config.PortTest.{PortTest}
use Rattle.net_types.specs.declared.config.PortTest.TheVariants as ports
use Rattle.net_types.specs.declared.config.IcmpTest.{IcmpTest}
use Rattle.net_types.specs.declared.config.IcmpTest.TheVariants as icmp
use Rattle.net_types.specs.declared.config.FlagTest.{FlagTest}
use Rattle.net_types.specs.declared.config.FlagTest.TheVariants as flags
use Rattle.ios_lines.specs.Words.{Words}
use Rattle.ios_lines.specs.Books.{last_sequence}
use Rattle.ios_lines.specs.Lists.{place_of}
use Rattle.ios_lists.specs.Entries.{any_address, ports_limit, has_ports}
use Rattle.ios_lists.specs.ListCommands.{has_range}

-- an address that is 0 under its wildcard
pub record IsMasked (m : Masked) : Type 0 where
  pub value : m.value < 4294967296
  pub wild : m.wild < 4294967296
  pub zero : bit_and m.value (4294967295 - m.wild) ≡ m.value

abbrev pub IsProto : Option ℕ → Type 0
IsProto None = Unit {0}
IsProto (Some p) = (1 ≤ p) × (p ≤ 255)

abbrev pub IsPortNumber : ℕ → Type 0
IsPortNumber n = n ≤ 65535

abbrev pub tests_ports : Option ℕ → Bool
tests_ports None = false
tests_ports (Some p) = has_ports p

-- port tests are for TCP and UDP
abbrev pub IsPortTest : Option ℕ → PortTest → Type 0
IsPortTest p ports.Any = Unit {0}
IsPortTest p (ports.Eq ns) = (tests_ports p ≡ true) × (1 ≤ length ns) × (length ns ≤ ports_limit) × AllByRecursion IsPortNumber ns
IsPortTest p (ports.Neq n) = (tests_ports p ≡ true) × IsPortNumber n
IsPortTest p (ports.Gt n) = (tests_ports p ≡ true) × IsPortNumber n
IsPortTest p (ports.Lt n) = (tests_ports p ≡ true) × IsPortNumber n
IsPortTest p (ports.Range n m) = (tests_ports p ≡ true) × IsPortNumber n × IsPortNumber m

abbrev pub IsIcmpTest : Option ℕ → IcmpTest → Type 0
IsIcmpTest p icmp.Any = Unit {0}
IsIcmpTest p (icmp.Kind k) = (p ≡ Some 1) × (k ≤ 255)
IsIcmpTest p (icmp.Exact k c) = (p ≡ Some 1) × (k ≤ 255) × (c ≤ 255)

-- some of the six flags
abbrev pub IsFlagMask : ℕ → ℕ → Type 0
IsFlagMask set clear = (set < 64) × (clear < 64) × ((0 < set) ⊎ (0 < clear))

abbrev pub IsFlagTest : Option ℕ → FlagTest → Type 0
IsFlagTest p flags.Any = Unit {0}
IsFlagTest p (flags.AnyOf set clear) = (p ≡ Some 6) × IsFlagMask set clear
IsFlagTest p (flags.AllOf set clear) = (p ≡ Some 6) × IsFlagMask set clear

pub record IsExtended (e : Entry) : Type 0 where
  pub proto : IsProto e.proto
  pub src : IsMasked e.src
  pub sport : IsPortTest e.proto e.sport
  pub dst : IsMasked e.dst
  pub dport : IsPortTest e.proto e.dport
  pub icmp : IsIcmpTest e.proto e.icmp
  pub flags : IsFlagTest e.proto e.flags

-- a standard entry tests the source alone
pub record IsStandard (e : Entry) : Type 0 where
  pub src : IsMasked e.src
  pub proto : e.proto ≡ None
  pub sport : e.sport ≡ ports.Any
  pub dst : e.dst ≡ any_address
  pub dport : e.dport ≡ ports.Any
  pub icmp : e.icmp ≡ icmp.Any
  pub flags : e.flags ≡ flags.Any

abbrev pub IsEntry : Bool → Entry → Type 0
IsEntry true e = IsExtended e
IsEntry false e = IsStandard e

-- entries by rising sequence
abbrev pub AreEntries : Bool → ℕ → List Entry → Type 0
AreEntries extended below [] = Unit {0}
AreEntries extended below (e ∷ es) = (below < e.sequence) × (e.sequence ≤ last_sequence) × IsEntry extended e × AreEntries extended e.sequence es

-- a list, behind others of these names
pub record IsList (before : Words) (l : AccessList) : Type 0 where
  pub name : IsWord l.name
  pub new : place_of l.name before ≡ None
  pub range : has_range l.extended l.name ≡ true
  pub entries : AreEntries l.extended 0 l.entries

abbrev pub AreLists : Words → List AccessList → Type 0
AreLists before [] = Unit {0}
AreLists before (l ∷ ls) = IsList before l × AreLists (before ++ l.name ∷ []) ls
