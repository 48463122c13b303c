-- Pieces for rules, and cubes with stamps.
use Rattle.std.specs.Prelude.{ℕ, ◌≡◌, ◌<◌, ◌≤◌, List, ◌++◌, Option, Some, IsSome, All, AllPairs, Any, length}
use Rattle.std.specs.List.{position_from}
use Rattle.std.specs.Option.{option_or}
use Rattle.hdr_bits.specs.declared.header.Header.{Header}
use Rattle.hdr_bits.specs.declared.cube.Cube.{Cube}
use Rattle.hdr_bits.specs.HeaderBits.{number, IsHeader}
use Rattle.hdr_bits.specs.CubeBits.{IsIn, digit_at}
use Rattle.cube_alg.specs.declared.cut.Piece.{Piece}
use Rattle.cube_alg.specs.declared.stamp.Stamp.{Stamp}
use Rattle.cube_alg.specs.Pairs.{AreApart, IsInside}
use Rattle.cube_alg.specs.Pieces.{value_of}
use Rattle.cube_alg.specs.Stamps.{applied, followed}
use Rattle.net_types.specs.declared.config.NatRule.{NatRule}
use Rattle.nat_static.specs.declared.rules.Direction.{Direction}
use Rattle.nat_static.specs.declared.rules.Group.{Group}
use Rattle.nat_static.specs.Rules.{fits_as, rule_stamp, stamp_at, translated}

-- the bits of a cube from one on up to another are digits
abbrev pub Fixes : Cube → ℕ → ℕ → Type 0
Fixes c from to = (k : ℕ) → from ≤ k → k < to → IsSome (digit_at c k)

-- the stamp replaces a field only where the cube fixes each bit of it
pub record ReplacesFixed (s : Stamp) (c : Cube) : Type 0 where
  pub dst : IsSome s.dst → Fixes c 0 32
  pub src : IsSome s.src → Fixes c 32 64
  pub dport : IsSome s.dport → Fixes c 72 88
  pub sport : IsSome s.sport → Fixes c 88 104

-- no header is in both cubes
abbrev pub AreApartStamps : Cube × Stamp → Cube × Stamp → Type 0
AreApartStamps p q = AreApart p.0 q.0

-- on each header of the cube the stamp does what the translation does
abbrev pub Translates : (Header → Header) → Cube × Stamp → Type 0
Translates translation p = (h : Header) → IsHeader h → IsIn p.0 (number h) → applied p.1 h ≡ translation h

-- pieces were added for the rules of a group: each has its rule's number
pub record AddsRules (group : Group) (d : Direction) (rules : List NatRule) (old new : List Piece) : Type 0 where
  pub exact : (h : Header) → IsHeader h → value_of new (number h) ≡ option_or (value_of old (number h)) (position_from (fits_as group d h) 0 rules)

-- the pieces tell each header the number of the rule that applies to it, and the count of the rules where none does
abbrev pub TellRule : (Header → Option ℕ) → List NatRule → List Piece → Type 0
TellRule rule rules pieces = (h : Header) → IsHeader h → value_of pieces (number h) ≡ option_or (rule h) (Some (length rules))

-- the same number for all headers of a piece
abbrev pub HasRule : (Header → Option ℕ) → List NatRule → Piece → Type 0
HasRule rule rules p = (h : Header) → IsHeader h → IsIn p.cube (number h) → option_or (rule h) (Some (length rules)) ≡ Some p.value

-- the stamp of the rules with these two numbers
abbrev pub both_stamps : Direction → List NatRule → ℕ → ℕ → Stamp
both_stamps d rules n m = followed (stamp_at (rule_stamp d) rules n) (stamp_at (rule_stamp d) rules m)

-- the cube of a part, with the stamp of a rule of this number and of the part's
abbrev pub with_stamps : Direction → List NatRule → ℕ → Piece → Cube × Stamp
with_stamps d rules n p = (p.cube, both_stamps d rules n p.value)

-- a cube with what translation replaces in its headers
pub record IsTranslated (d : Direction) (rules : List NatRule) (x : Cube × Stamp) : Type 0 where
  pub exact : Translates (translated d rules) x
  pub fixed : ReplacesFixed x.1 x.0

-- disjoint cubes with stamps were added for the headers of a cube
pub record AddsStamps (d : Direction) (rules : List NatRule) (c : Cube) (old new : List (Cube × Stamp)) : Type 0 where
  pub more : List (Cube × Stamp)
  pub added : new ≡ old ++ more
  pub apart : AllPairs AreApartStamps more
  pub inside : All (λ x. IsInside x.0 c) more
  pub covers : (h : Header) → IsHeader h → IsIn c (number h) → Any (λ x. IsIn x.0 (number h)) more
  pub each : All (IsTranslated d rules) more

-- disjoint cubes with stamps, for the headers of these parts
pub record AreStamps (d : Direction) (rules : List NatRule) (parts : List Piece) (stamps : List (Cube × Stamp)) : Type 0 where
  pub apart : AllPairs AreApartStamps stamps
  pub inside : All (λ x. (h : ℕ) → IsIn x.0 h → Any (λ p. IsIn p.cube h) parts) stamps
  pub covers : (h : Header) → IsHeader h → Any (λ p. IsIn p.cube (number h)) parts → Any (λ x. IsIn x.0 (number h)) stamps
  pub each : All (IsTranslated d rules) stamps
