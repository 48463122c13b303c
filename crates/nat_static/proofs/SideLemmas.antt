use Rattle.std.proofs.Common.{ℕ, ◌≡◌, ◌<◌, ◌^◌, ◌*◌, ◌/◌, ◌%◌, ◌==◌, ◌↔◌, Bool, true, false, ◌&&◌, ◌||◌, Some, None, IsSome, IsTrue, Decides, refl, ap, sym, subst, ◌∙◌, arith, bit_and, true≢false}
use Rattle.std.proofs.lemmas.Bool.Decides.{Decides-eqb, Decides-and}
use Rattle.std.proofs.lemmas.Nat.Bits.{and_high}
use Rattle.hdr_bits.specs.declared.header.Header.{Header}
use Rattle.hdr_bits.specs.declared.cube.Cube.{Cube}
use Rattle.hdr_bits.specs.HeaderBits.{number, IsHeader}
use Rattle.hdr_bits.specs.CubeBits.{IsIn}
use Rattle.hdr_bits.proofs.Masks.{in_from_mask, mask_from_in}
use Rattle.hdr_bits.proofs.Numbers.{header_of-number}
use Rattle.cube_alg.specs.Stamps.{applied, IsMadeFrom}
use Rattle.net_types.specs.declared.config.NatKind.{NatKind}
use Rattle.net_types.specs.declared.config.NatKind.TheVariants.{Plain, Tcp, Udp, Outer}
use Rattle.net_types.specs.Translation.{is_plain, is_port_rule, is_outer}
use Rattle.nat_static.specs.declared.rules.Direction.{Direction}
use Rattle.nat_static.specs.declared.rules.Direction.TheVariants.{FromOutside, FromInside}
use Rattle.nat_static.specs.declared.rules.Group.{Group}
use Rattle.nat_static.specs.declared.rules.Group.TheVariants as group
use Rattle.nat_static.specs.Sides.{port_of, destination_stamp, source_stamp, is_protocol}
use Rattle.nat_static.specs.Rules.{written, is_in_group, by_group}

-- ---- the protocol of a header
pub proto_places : (n : ℕ) → bit_and n (255 * 2 ^ 40) ≡ n / 2 ^ 40 % 2 ^ 8 * 2 ^ 40
proto_places n = and_high n 8 40

pub proto_digits : (n : ℕ) → n < 2 ^ 8 → bit_and (n * 2 ^ 40) (255 * 2 ^ 40) ≡ n * 2 ^ 40
proto_digits n l = let e = proto_places (n * 2 ^ 40) in omega (arith, e)

pub proto_test : (c : Cube) (h n : ℕ) → c.fixed ≡ 255 * 2 ^ 40 → c.bits ≡ n * 2 ^ 40 → IsIn c h ↔ IsTrue (h / 2 ^ 40 % 2 ^ 8 == n)
proto_test c h n f b =
    let e : bit_and h c.fixed ≡ h / 2 ^ 40 % 2 ^ 8 * 2 ^ 40 = rw f (proto_places h) in
    (λ a. let m = mask_from_in c h a in (Decides-eqb (h / 2 ^ 40 % 2 ^ 8) n).1 (omega (arith, e, m, b)), λ t. let q = (Decides-eqb (h / 2 ^ 40 % 2 ^ 8) n).0 t in in_from_mask c h (omega (arith, e, q, b)))

proto_of : (h : Header) → IsHeader h → number h / 2 ^ 40 % 2 ^ 8 ≡ h.proto
proto_of h fits = ap (λ x. x.proto) (header_of-number h fits)

-- ---- what a header of a side is like
or_none : (x : Bool) → (x || false) ≡ x
or_none true = refl
or_none false = refl

port_decides : (q n a b p r : ℕ) → Decides (q == n && (a == b && p == r)) ((q ≡ n) × ((a ≡ b) × (p ≡ r)))
port_decides q n a b p r =
    Decides-and (q == n) (a == b && p == r) (Decides-eqb q n) (Decides-and (a == b) (p == r) (Decides-eqb a b) (Decides-eqb p r))

pub side_decides : (q n a b p r : ℕ) → Decides ((q == n && (a == b && p == r)) || false) ((q ≡ n) × ((a ≡ b) × (p ≡ r)))
side_decides q n a b p r =
    let t = port_decides q n a b p r in
    (λ e. t.0 (sym (or_none (q == n && (a == b && p == r))) ∙ e), λ m. or_none (q == n && (a == b && p == r)) ∙ t.1 m)

-- an inner side of a header is this one, and for a port rule the protocol is its own
abbrev pub has_side : NatKind → ℕ → ℕ → ℕ → ℕ → ℕ → Bool
has_side k address port proto a p = (is_port_rule k proto && (address == a && port == p)) || (is_plain k && address == a)

-- the header has the side that a rule of the kind replaces
abbrev pub is_at : Direction → NatKind → ℕ → ℕ → Header → Bool
is_at FromOutside k a p g = (is_outer k && a == g.src) || has_side k a p g.proto g.dst g.dport
is_at FromInside k a p g = (is_outer k && a == g.dst) || has_side k a p g.proto g.src g.sport

to_port : (n a p : ℕ) (c : Cube) (g : Header) → ((h : ℕ) → IsIn c h ↔ IsTrue (h / 2 ^ 40 % 2 ^ 8 == n)) → IsHeader g → IsMadeFrom (record { src = None; dst = Some a; sport = None; dport = Some p }) c g ↔ IsTrue ((g.proto == n && (a == g.dst && p == g.dport)) || false)
to_port n a p c g f fits = (
  λ m. let q = proto_of m.0 m.1 in
      let i = (Decides-eqb (number m.0 / 2 ^ 40 % 2 ^ 8) n).0 ((f (number m.0)).0 m.2) in
      let e = ap (λ x. x.proto) m.3 in
      (side_decides g.proto n a g.dst p g.dport).1 (sym e ∙ (sym q ∙ i), (ap (λ x. x.dst) m.3, ap (λ x. x.dport) m.3)),
  λ t. let m = (side_decides g.proto n a g.dst p g.dport).0 t in
      let q : number g / 2 ^ 40 % 2 ^ 8 ≡ n = proto_of g fits ∙ m.0 in
      let e : applied (record { src = None; dst = Some a; sport = None; dport = Some p }) g ≡ g = λ i. record { dst = m.1.0 i; src = g.src; proto = g.proto; dport = m.1.1 i; sport = g.sport; flags = g.flags } in
      (g, fits, (f (number g)).1 ((Decides-eqb (number g / 2 ^ 40 % 2 ^ 8) n).1 q), e),
)

from_port : (n a p : ℕ) (c : Cube) (g : Header) → ((h : ℕ) → IsIn c h ↔ IsTrue (h / 2 ^ 40 % 2 ^ 8 == n)) → IsHeader g → IsMadeFrom (record { src = Some a; dst = None; sport = Some p; dport = None }) c g ↔ IsTrue ((g.proto == n && (a == g.src && p == g.sport)) || false)
from_port n a p c g f fits = (
  λ m. let q = proto_of m.0 m.1 in
      let i = (Decides-eqb (number m.0 / 2 ^ 40 % 2 ^ 8) n).0 ((f (number m.0)).0 m.2) in
      let e = ap (λ x. x.proto) m.3 in
      (side_decides g.proto n a g.src p g.sport).1 (sym e ∙ (sym q ∙ i), (ap (λ x. x.src) m.3, ap (λ x. x.sport) m.3)),
  λ t. let m = (side_decides g.proto n a g.src p g.sport).0 t in
      let q : number g / 2 ^ 40 % 2 ^ 8 ≡ n = proto_of g fits ∙ m.0 in
      let e : applied (record { src = Some a; dst = None; sport = Some p; dport = None }) g ≡ g = λ i. record { dst = g.dst; src = m.1.0 i; proto = g.proto; dport = g.dport; sport = m.1.1 i; flags = g.flags } in
      (g, fits, (f (number g)).1 ((Decides-eqb (number g / 2 ^ 40 % 2 ^ 8) n).1 q), e),
)

to_address : (a : ℕ) (c : Cube) (g : Header) → ((h : ℕ) → IsIn c h ↔ IsTrue true) → IsHeader g → IsMadeFrom (record { src = None; dst = Some a; sport = None; dport = None }) c g ↔ IsTrue (a == g.dst)
to_address a c g f fits = (
  λ m. (Decides-eqb a g.dst).1 (ap (λ x. x.dst) m.3),
  λ t. let m = (Decides-eqb a g.dst).0 t in
      let e : applied (record { src = None; dst = Some a; sport = None; dport = None }) g ≡ g = λ i. record { dst = m i; src = g.src; proto = g.proto; dport = g.dport; sport = g.sport; flags = g.flags } in
      (g, fits, (f (number g)).1 refl, e),
)

from_address : (a : ℕ) (c : Cube) (g : Header) → ((h : ℕ) → IsIn c h ↔ IsTrue true) → IsHeader g → IsMadeFrom (record { src = Some a; dst = None; sport = None; dport = None }) c g ↔ IsTrue (a == g.src)
from_address a c g f fits = (
  λ m. (Decides-eqb a g.src).1 (ap (λ x. x.src) m.3),
  λ t. let m = (Decides-eqb a g.src).0 t in
      let e : applied (record { src = Some a; dst = None; sport = None; dport = None }) g ≡ g = λ i. record { dst = g.dst; src = m i; proto = g.proto; dport = g.dport; sport = g.sport; flags = g.flags } in
      (g, fits, (f (number g)).1 refl, e),
)

-- the headers that the stamp of a side makes are those of the side
pub made_at : (d : Direction) (k : NatKind) (a p : ℕ) (c : Cube) (g : Header) → ((h : ℕ) → IsIn c h ↔ IsTrue (is_protocol k h)) → IsHeader g → IsMadeFrom (written d k a p) c g ↔ IsTrue (is_at d k a p g)
made_at FromOutside Plain a p c g f fits = to_address a c g f fits
made_at FromOutside Tcp a p c g f fits = to_port 6 a p c g f fits
made_at FromOutside Udp a p c g f fits = to_port 17 a p c g f fits
made_at FromOutside Outer a p c g f fits = subst (λ b. IsMadeFrom (source_stamp Outer a p) c g ↔ IsTrue b) (sym (or_none (a == g.src))) (from_address a c g f fits)
made_at FromInside Plain a p c g f fits = from_address a c g f fits
made_at FromInside Tcp a p c g f fits = from_port 6 a p c g f fits
made_at FromInside Udp a p c g f fits = from_port 17 a p c g f fits
made_at FromInside Outer a p c g f fits = subst (λ b. IsMadeFrom (destination_stamp Outer a p) c g ↔ IsTrue b) (sym (or_none (a == g.dst))) (to_address a c g f fits)

-- the fields that a header of an inner side has
pub side_address : (k : NatKind) (address port proto a p : ℕ) → has_side k address port proto a p ≡ true → address ≡ a
side_address Plain address port proto a p e = (Decides-eqb address a).0 e
side_address Tcp address port proto a p e = ((side_decides proto 6 address a port p).0 e).1.0
side_address Udp address port proto a p e = ((side_decides proto 17 address a port p).0 e).1.0
side_address Outer address port proto a p e = absurd (true≢false (sym e))

pub side_port : (k : NatKind) (address port proto a p other : ℕ) → has_side k address port proto a p ≡ true → IsSome (port_of k other) → port ≡ p
side_port Plain address port proto a p other e s = absurd (true≢false (sym s))
side_port Tcp address port proto a p other e s = ((side_decides proto 6 address a port p).0 e).1.1
side_port Udp address port proto a p other e s = ((side_decides proto 17 address a port p).0 e).1.1
side_port Outer address port proto a p other e s = absurd (true≢false (sym s))

pub outer_address : (address a : ℕ) → (address == a || false) ≡ true → address ≡ a
outer_address address a e = (Decides-eqb address a).0 (sym (or_none (address == a)) ∙ e)

-- what the stamps do where a port rule matches, where a plain one does, and where an outer one does
pub applied_to_port : (k : NatKind) (a p : ℕ) (q : Bool) (h : Header) → (is_port_rule k h.proto && q) ≡ true → applied (written FromOutside k a p) h ≡ record h { dst = a; dport = p }
applied_to_port Plain a p q h e = absurd (true≢false (sym e))
applied_to_port Tcp a p q h e = refl
applied_to_port Udp a p q h e = refl
applied_to_port Outer a p q h e = absurd (true≢false (sym e))

pub applied_from_port : (k : NatKind) (a p : ℕ) (q : Bool) (h : Header) → (is_port_rule k h.proto && q) ≡ true → applied (written FromInside k a p) h ≡ record h { src = a; sport = p }
applied_from_port Plain a p q h e = absurd (true≢false (sym e))
applied_from_port Tcp a p q h e = refl
applied_from_port Udp a p q h e = refl
applied_from_port Outer a p q h e = absurd (true≢false (sym e))

pub applied_to : (k : NatKind) (a p : ℕ) (q : Bool) (h : Header) → (is_plain k && q) ≡ true → applied (written FromOutside k a p) h ≡ record h { dst = a }
applied_to Plain a p q h e = refl
applied_to Tcp a p q h e = absurd (true≢false (sym e))
applied_to Udp a p q h e = absurd (true≢false (sym e))
applied_to Outer a p q h e = absurd (true≢false (sym e))

pub applied_from : (k : NatKind) (a p : ℕ) (q : Bool) (h : Header) → (is_plain k && q) ≡ true → applied (written FromInside k a p) h ≡ record h { src = a }
applied_from Plain a p q h e = refl
applied_from Tcp a p q h e = absurd (true≢false (sym e))
applied_from Udp a p q h e = absurd (true≢false (sym e))
applied_from Outer a p q h e = absurd (true≢false (sym e))

pub applied_outer_src : (k : NatKind) (a p : ℕ) (q : Bool) (h : Header) → (is_outer k && q) ≡ true → applied (written FromOutside k a p) h ≡ record h { src = a }
applied_outer_src Plain a p q h e = absurd (true≢false (sym e))
applied_outer_src Tcp a p q h e = absurd (true≢false (sym e))
applied_outer_src Udp a p q h e = absurd (true≢false (sym e))
applied_outer_src Outer a p q h e = refl

pub applied_outer_dst : (k : NatKind) (a p : ℕ) (q : Bool) (h : Header) → (is_outer k && q) ≡ true → applied (written FromInside k a p) h ≡ record h { dst = a }
applied_outer_dst Plain a p q h e = absurd (true≢false (sym e))
applied_outer_dst Tcp a p q h e = absurd (true≢false (sym e))
applied_outer_dst Udp a p q h e = absurd (true≢false (sym e))
applied_outer_dst Outer a p q h e = refl

-- ---- the groups of rules apart
pub of_its_group : (k : NatKind) (g : Group) (proto : ℕ) (x y z : Bool) → is_in_group g k ≡ true → ((is_outer k && z) || ((is_port_rule k proto && x) || (is_plain k && y))) ≡ by_group g (is_port_rule k proto && x) (is_plain k && y) (is_outer k && z)
of_its_group Plain group.Port proto x y z e = absurd (true≢false (sym e))
of_its_group Plain group.Plain proto x y z e = refl
of_its_group Plain group.Outer proto x y z e = absurd (true≢false (sym e))
of_its_group Tcp group.Port proto x y z e = or_none (proto == 6 && x)
of_its_group Tcp group.Plain proto x y z e = absurd (true≢false (sym e))
of_its_group Tcp group.Outer proto x y z e = absurd (true≢false (sym e))
of_its_group Udp group.Port proto x y z e = or_none (proto == 17 && x)
of_its_group Udp group.Plain proto x y z e = absurd (true≢false (sym e))
of_its_group Udp group.Outer proto x y z e = absurd (true≢false (sym e))
of_its_group Outer group.Port proto x y z e = absurd (true≢false (sym e))
of_its_group Outer group.Plain proto x y z e = absurd (true≢false (sym e))
of_its_group Outer group.Outer proto x y z e = or_none z

pub of_other_group : (k : NatKind) (g : Group) (proto : ℕ) (x y z : Bool) → is_in_group g k ≡ false → by_group g (is_port_rule k proto && x) (is_plain k && y) (is_outer k && z) ≡ false
of_other_group Plain group.Port proto x y z e = refl
of_other_group Plain group.Plain proto x y z e = absurd (true≢false e)
of_other_group Plain group.Outer proto x y z e = refl
of_other_group Tcp group.Port proto x y z e = absurd (true≢false e)
of_other_group Tcp group.Plain proto x y z e = refl
of_other_group Tcp group.Outer proto x y z e = refl
of_other_group Udp group.Port proto x y z e = absurd (true≢false e)
of_other_group Udp group.Plain proto x y z e = refl
of_other_group Udp group.Outer proto x y z e = refl
of_other_group Outer group.Port proto x y z e = refl
of_other_group Outer group.Plain proto x y z e = refl
of_other_group Outer group.Outer proto x y z e = absurd (true≢false e)
