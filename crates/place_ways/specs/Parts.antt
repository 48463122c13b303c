-- The parts of a set of headers, each with the stamp that makes of its headers what translation makes of them.
use Rattle.std.specs.Prelude.{ℕ, ◌≡◌, ◌<◌, ◌++◌, Bool, true, false, List, Option, Some, Contains}
use Rattle.hdr_bits.specs.declared.header.Header.{Header}
use Rattle.hdr_bits.specs.HeaderBits.{number, IsHeader}
use Rattle.cube_alg.specs.Stamps.{applied}
use Rattle.cube_diagram.specs.Functions.{Functions, count_of, value_at}
use Rattle.nat_static.specs.Rules.{outer_from_inside, outer_from_outside, rule_from_inside, rule_from_outside}
use Rattle.net_types.specs.declared.config.NatRule.{NatRule}
use Rattle.net_types.specs.declared.network.Move.{Move}
use Rattle.net_types.specs.Translation.{from_inside, from_outside}
use Rattle.set_walk.specs.declared.step.Way.{Way}
use Rattle.set_walk.specs.Sets.{InSet}
use Rattle.set_walk.specs.Ways.{IsStamp}
use Rattle.place_ways.specs.declared.parts.Part.{Part}
use Rattle.place_ways.specs.declared.parts.Translation.{Translation}
use Rattle.place_ways.specs.Adding.{ByOne, MakesBehind}

-- ---- one direction: from outside, else from inside
abbrev pub rule_in : Bool → List NatRule → Header → Option ℕ
rule_in true nat h = rule_from_outside nat h
rule_in false nat h = rule_from_inside nat h

abbrev pub outer_in : Bool → List NatRule → Header → Option ℕ
outer_in true nat h = outer_from_outside nat h
outer_in false nat h = outer_from_inside nat h

abbrev pub translated_in : Bool → List NatRule → Header → Header
translated_in true nat h = from_outside nat h
translated_in false nat h = from_inside nat h

-- the number of the port or plain rule that applies to the header, and of the outer rule
abbrev pub rule_of : Translation → Header → Option ℕ
rule_of t h = rule_in t.from_outside t.device.now.config.nat h

abbrev pub outer_of : Translation → Header → Option ℕ
outer_of t h = outer_in t.from_outside t.device.now.config.nat h

abbrev pub translates : Translation → Header → Header
translates t h = translated_in t.from_outside t.device.now.config.nat h

-- the functions tell these numbers
pub record IsTranslation (fs : Functions) (t : Translation) : Type 0 where
  pub rule_below : t.rule < count_of fs
  pub rule : (h : Header) → IsHeader h → value_at fs t.rule (number h) ≡ rule_of t h
  pub outer_below : t.outer < count_of fs
  pub outer : (h : Header) → IsHeader h → value_at fs t.outer (number h) ≡ outer_of t h

-- the header has one of these values
abbrev pub IsAmong : (Header → Option ℕ) → List ℕ → Header → Type 0
IsAmong value values h = ByOne (λ v. value h ≡ Some v) values

-- this holds of each header of the part, and its stamp makes of the header what it becomes
pub record IsPart (fs : Functions) (P : Header → Type 0) (becomes : Header → Header) (p : Part) : Type 0 where
  pub below : p.headers < count_of fs
  pub fits : IsStamp p.stamp
  pub each : (h : Header) → IsHeader h → InSet fs p.headers h → P h × (applied p.stamp h ≡ becomes h)

-- and each header of which it holds is in one of the parts
pub record AreParts (fs : Functions) (P : Header → Type 0) (becomes : Header → Header) (parts : List Part) : Type 0 where
  pub each : (p : Part) → Contains parts p → IsPart fs P becomes p
  pub all : (h : Header) → IsHeader h → P h → ByOne (λ (p : Part). InSet fs p.headers h) parts

-- parts of the headers of which this holds were added
pub record AddsParts (fs : Functions) (P : Header → Type 0) (becomes : Header → Header) (old new : List Part) : Type 0 where
  pub more : List Part
  pub added : new ≡ old ++ more
  pub parts : AreParts fs P becomes more

-- the parts' sets are in the table, and their stamps fit
abbrev pub AreStamped : Functions → List Part → Type 0
AreStamped fs parts = (p : Part) → Contains parts p → (p.headers < count_of fs) × IsStamp p.stamp

-- headers of one of the parts make the moves that others have by the ways, once its stamp was applied
abbrev pub MakesBehindOne : Functions → List Part → List Way → Header → Move → Type 0
MakesBehindOne fs parts ways h m = ByOne (λ (p : Part). MakesBehind fs p.headers p.stamp ways h m) parts
