-- What address translation may do to headers.
use Rattle.std.specs.Prelude.{ℕ, ◌≡◌, ◌<◌, ◌↔◌, ◌^◌, List, Contains}
use Rattle.hdr_bits.specs.declared.header.Header.{Header}
use Rattle.hdr_bits.specs.HeaderBits.{IsHeader}
use Rattle.cube_diagram.specs.Functions.{Functions}
use Rattle.net_types.specs.declared.config.NatRule.{NatRule}
use Rattle.net_types.specs.declared.network.NetDevice.{NetDevice}
use Rattle.net_types.specs.Translation.{from_inside, from_outside}
use Rattle.set_walk.specs.Sets.{InSet}

-- the addresses of a rule are among these, and its fields fit
pub record IsNamed (addresses : List ℕ) (r : NatRule) : Type 0 where
  pub local : Contains addresses r.local
  pub global : Contains addresses r.global
  pub local_fits : r.local < 2 ^ 32
  pub global_fits : r.global < 2 ^ 32
  pub local_port_fits : r.local_port < 2 ^ 16
  pub global_port_fits : r.global_port < 2 ^ 16

abbrev pub AreNamed : List ℕ → List NatRule → Type 0
AreNamed addresses rules = (r : NatRule) → Contains rules r → IsNamed addresses r

-- each of the first is among the second
abbrev pub HasMore : List ℕ → List ℕ → Type 0
HasMore old new = (a : ℕ) → Contains old a → Contains new a

-- one header to the address
abbrev pub header_to : ℕ → Header
header_to a = record { dst = a; src = 0; proto = 0; dport = 0; sport = 0; flags = 0 }

-- the set has each header to one of the addresses
abbrev pub HasNamed : Functions → List ℕ → ℕ → Type 0
HasNamed fs addresses set = (h : Header) → IsHeader h → Contains addresses h.dst → InSet fs set h

-- the set asks for nothing but destinations: it has all headers to an address, or none
abbrev pub ByDestination : Functions → ℕ → Type 0
ByDestination fs set = (h g : Header) → IsHeader h → IsHeader g → h.dst ≡ g.dst → InSet fs set h → InSet fs set g

-- the set has each header to an address of the rule, whose fields fit
pub record HasRule (fs : Functions) (set : ℕ) (r : NatRule) : Type 0 where
  pub local : (h : Header) → IsHeader h → h.dst ≡ r.local → InSet fs set h
  pub global : (h : Header) → IsHeader h → h.dst ≡ r.global → InSet fs set h
  pub local_fits : r.local < 2 ^ 32
  pub global_fits : r.global < 2 ^ 32
  pub local_port_fits : r.local_port < 2 ^ 16
  pub global_port_fits : r.global_port < 2 ^ 16

abbrev pub HasRules : Functions → ℕ → List NatRule → Type 0
HasRules fs set rules = (r : NatRule) → Contains rules r → HasRule fs set r

-- so it is of the rules of each device
abbrev pub HasAllRules : List NetDevice → Functions → ℕ → Type 0
HasAllRules devices fs set = (d : NetDevice) → Contains devices d → HasRules fs set d.config.nat

-- what becomes of a header is in the set exactly where the header is
pub record IsTurned (fs : Functions) (set : ℕ) (h g : Header) : Type 0 where
  pub fits : IsHeader g
  pub stays : InSet fs set h ↔ InSet fs set g

-- so it is by translation in both directions
pub record TurnsBy (rules : List NatRule) (fs : Functions) (set : ℕ) : Type 0 where
  pub outside : (h : Header) → IsHeader h → IsTurned fs set h (from_outside rules h)
  pub inside : (h : Header) → IsHeader h → IsTurned fs set h (from_inside rules h)

-- by the rules of each device
abbrev pub AreTurned : List NetDevice → Functions → ℕ → Type 0
AreTurned devices fs set = (d : NetDevice) → Contains devices d → TurnsBy d.config.nat fs set
