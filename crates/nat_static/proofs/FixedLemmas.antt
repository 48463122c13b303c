use Rattle.std.proofs.Common.{ℕ, ◌≡◌, ◌<◌, ◌≤◌, ◌^◌, ◌+◌, ◌*◌, ◌-◌, ◌/◌, ◌%◌, inl, inr, Bool, true, List, Option, Some, None, IsSome, slice_get, length, refl, ap, sym, ◌∙◌, subst, arith, bit_and, bit_or, true≢false}
use Rattle.std.specs.Option.{option_or}
use Rattle.std.specs.Int.{bit_at}
use Rattle.std.proofs.lemmas.Bool.Decides.{eqb_tells}
use Rattle.std.proofs.lemmas.Nat.Bits.{and_high, bit_at_and, bit_at_mask_inside}
use Rattle.hdr_bits.specs.declared.header.Header.{Header}
use Rattle.hdr_bits.specs.declared.cube.Cube.{Cube}
use Rattle.hdr_bits.specs.Bits.{bit_of}
use Rattle.hdr_bits.specs.HeaderBits.{number, header_of, IsHeader}
use Rattle.hdr_bits.specs.CubeBits.{IsIn, digit_at}
use Rattle.hdr_bits.proofs.Masks.{set_bit, agrees_from_fixed}
use Rattle.hdr_bits.proofs.Numbers.{number-header_of, header_of-is_header}
use Rattle.cube_alg.proofs.MaskLemmas.{least_holds}
use Rattle.cube_alg.proofs.SplitLemmas.{free_zero}
use Rattle.cube_alg.proofs.StampLemmas.{bits_below}
use Rattle.cube_alg.specs.declared.stamp.Stamp.{Stamp}
use Rattle.cube_alg.specs.Stamps.{applied, followed}
use Rattle.std.proofs.lemmas.Option.{slice_get_past}
use Rattle.net_types.specs.declared.config.NatRule.{NatRule}
use Rattle.nat_static.specs.declared.rules.Direction.{Direction}
use Rattle.nat_static.specs.declared.rules.Direction.TheVariants.{FromOutside, FromInside}
use Rattle.net_types.specs.declared.config.NatKind.{NatKind}
use Rattle.net_types.specs.declared.config.NatKind.TheVariants.{Plain, Tcp, Udp, Outer}
use Rattle.nat_static.specs.Sides.{destination_stamp, source_stamp}
use Rattle.nat_static.specs.Rules.{written, rule_stamp, fits, applying, outer_applying, translated, stamp_of, stamp_at, stamp_if, stamps_if}
use Rattle.nat_static.specs.Pieces.{ReplacesFixed, both_stamps}
use Rattle.nat_static.proofs.SideLemmas.{has_side, is_at, side_address, side_port, outer_address}
use Rattle.nat_static.proofs.RuleLemmas.{rule_fits, outer_rule_fits, both_right}

-- a bit that is `*` lets the header's bit be 1
abbrev with_one : Cube → ℕ → ℕ
with_one c k = bit_or c.bits (1 * 2 ^ (111 - k) % 2 ^ 128)

one_in : (c : Cube) (k : ℕ) → k < 112 → bit_of c.fixed k ≡ 0 → IsIn c (with_one c k)
one_in c k l z =
    let s = set_bit c.bits k (with_one c k) (bits_below c) l refl in
    λ i li. agrees_from_fixed c (with_one c k) i (λ e. s.2 i li (λ q. let y : bit_of c.fixed i ≡ 0 = ap (λ x. bit_of c.fixed x) q ∙ z in absurd (omega (arith, e, y))))

-- all headers of the cube have one value in a field: so the cube has a digit at each bit of the field
star_changes : (c : Cube) (s w v k : ℕ) → k < 112 → s ≤ 111 - k → 111 - k < w + s → ((h : ℕ) → h < 2 ^ 112 → IsIn c h → h / 2 ^ s % 2 ^ w ≡ v) → bit_of c.fixed k ≡ 0 → ⊥
star_changes c s w v k l a b f z =
    let m = with_one c k in
    let set = set_bit c.bits k (with_one c k) (bits_below c) l refl in
    let x = f c.bits (bits_below c) (least_holds c) in
    let y = f (with_one c k) set.0 (one_in c k l z) in
    let p : bit_and c.bits (2 ^ (w + s) - 2 ^ s) ≡ v * 2 ^ s = and_high c.bits w s ∙ ap (λ t. t * 2 ^ s) x in
    let q : bit_and (with_one c k) (2 ^ (w + s) - 2 ^ s) ≡ v * 2 ^ s = and_high (with_one c k) w s ∙ ap (λ t. t * 2 ^ s) y in
    let e = ap (λ n. bit_at n (111 - k)) (p ∙ sym q) in
    let g = bit_at_and c.bits (2 ^ (w + s) - 2 ^ s) (111 - k) in
    let h = bit_at_and (with_one c k) (2 ^ (w + s) - 2 ^ s) (111 - k) in
    let i = bit_at_mask_inside s (w + s) (111 - k) a b in
    omega (arith, e, g, h, i, set.1, free_zero c k z)

pub digit_there : (c : Cube) (s w v k : ℕ) → k < 112 → s ≤ 111 - k → 111 - k < w + s → ((h : ℕ) → h < 2 ^ 112 → IsIn c h → h / 2 ^ s % 2 ^ w ≡ v) → IsSome (digit_at c k)
digit_there c s w v k l a b f =
    elim (eqb_tells (bit_of c.fixed k) 0) [
      | inl q ↦ absurd (star_changes c s w v k l a b f q.1)
      | inr q ↦ rw q.0 refl
    ]

-- all headers of the cube pass a test of their fields
abbrev AllPass : (Header → Bool) → Cube → Type 0
AllPass test c = (h : ℕ) → h < 2 ^ 112 → IsIn c h → test (header_of h) ≡ true

-- an inner side: so the cube fixes what is written there
to_fixed : (k : NatKind) (a p b q : ℕ) (c : Cube) → AllPass (λ g. has_side k a p g.proto g.dst g.dport) c → ReplacesFixed (destination_stamp k b q) c
to_fixed k a p b q c f =
    record {
      dst = λ _. λ i l h. digit_there c 80 32 a i (omega arith) (omega arith) (omega arith) (λ n m j. sym (side_address k a p _ _ _ (f n m j)));
      src = λ e. absurd (true≢false (sym e));
      dport = λ e. λ i l h. digit_there c 24 16 p i (omega arith) (omega arith) (omega arith) (λ n m j. sym (side_port k a p _ _ _ q (f n m j) e));
      sport = λ e. absurd (true≢false (sym e));
    }

from_fixed : (k : NatKind) (a p b q : ℕ) (c : Cube) → AllPass (λ g. has_side k a p g.proto g.src g.sport) c → ReplacesFixed (source_stamp k b q) c
from_fixed k a p b q c f =
    record {
      dst = λ e. absurd (true≢false (sym e));
      src = λ _. λ i l h. digit_there c 48 32 a i (omega arith) (omega arith) (omega arith) (λ n m j. sym (side_address k a p _ _ _ (f n m j)));
      dport = λ e. absurd (true≢false (sym e));
      sport = λ e. λ i l h. digit_there c 8 16 p i (omega arith) (omega arith) (omega arith) (λ n m j. sym (side_port k a p _ _ _ q (f n m j) e));
    }

-- an outer side
outer_src_fixed : (a b q : ℕ) (c : Cube) → AllPass (λ g. is_at FromOutside Outer a 0 g) c → ReplacesFixed (source_stamp Outer b q) c
outer_src_fixed a b q c f =
    record {
      dst = λ e. absurd (true≢false (sym e));
      src = λ _. λ i l h. digit_there c 48 32 a i (omega arith) (omega arith) (omega arith) (λ n m j. sym (outer_address a _ (f n m j)));
      dport = λ e. absurd (true≢false (sym e));
      sport = λ e. absurd (true≢false (sym e));
    }

outer_dst_fixed : (a b q : ℕ) (c : Cube) → AllPass (λ g. is_at FromInside Outer a 0 g) c → ReplacesFixed (destination_stamp Outer b q) c
outer_dst_fixed a b q c f =
    record {
      dst = λ _. λ i l h. digit_there c 80 32 a i (omega arith) (omega arith) (omega arith) (λ n m j. sym (outer_address a _ (f n m j)));
      src = λ e. absurd (true≢false (sym e));
      dport = λ e. absurd (true≢false (sym e));
      sport = λ e. absurd (true≢false (sym e));
    }

side_fixed : (d : Direction) (k : NatKind) (a p b q : ℕ) (c : Cube) → AllPass (is_at d k a p) c → ReplacesFixed (written d k b q) c
side_fixed FromOutside Plain a p b q c f = to_fixed Plain a p b q c f
side_fixed FromOutside Tcp a p b q c f = to_fixed Tcp a p b q c f
side_fixed FromOutside Udp a p b q c f = to_fixed Udp a p b q c f
side_fixed FromOutside Outer a p b q c f = outer_src_fixed a b q c f
side_fixed FromInside Plain a p b q c f = from_fixed Plain a p b q c f
side_fixed FromInside Tcp a p b q c f = from_fixed Tcp a p b q c f
side_fixed FromInside Udp a p b q c f = from_fixed Udp a p b q c f
side_fixed FromInside Outer a p b q c f = outer_dst_fixed a b q c f

-- the headers of the cube all match the rule: so it fixes what the rule replaces
rule_fixed : (d : Direction) (r : NatRule) (c : Cube) → AllPass (λ g. fits d g r) c → ReplacesFixed (rule_stamp d r) c
rule_fixed FromOutside r c f = side_fixed FromOutside r.kind r.global r.global_port r.local r.local_port c f
rule_fixed FromInside r c f = side_fixed FromInside r.kind r.local r.local_port r.global r.global_port c f

none_fixed : (c : Cube) → ReplacesFixed (record { src = None; dst = None; sport = None; dport = None }) c
none_fixed c =
    record {
      dst = λ e. absurd (true≢false (sym e));
      src = λ e. absurd (true≢false (sym e));
      dport = λ e. absurd (true≢false (sym e));
      sport = λ e. absurd (true≢false (sym e));
    }

-- the rule of this number applies to all headers of the cube
abbrev AllHave : (Header → Option ℕ) → List NatRule → ℕ → Cube → Type 0
AllHave rule rules n c = (h : Header) → IsHeader h → IsIn c (number h) → option_or (rule h) (Some (length rules)) ≡ Some n

fixed_case : (d : Direction) (rules : List NatRule) (rule : Header → Option ℕ) (n : ℕ) (c : Cube) (o : Option NatRule) → slice_get rules n ≡ o → ((h : Header) (r : NatRule) → slice_get rules n ≡ Some r → option_or (rule h) (Some (length rules)) ≡ Some n → fits d h r ≡ true) → AllHave rule rules n c → ReplacesFixed (stamp_of (rule_stamp d) o) c
fixed_case d rules rule n c None e m f = none_fixed c
fixed_case d rules rule n c (Some r) e m f =
    rule_fixed d r c (λ h l i. m (header_of h) r e (f (header_of h) (header_of-is_header h) (subst (λ x. IsIn c x) (sym (number-header_of h l)) i)))

stamp_fixed : (d : Direction) (rules : List NatRule) (n : ℕ) (c : Cube) → AllHave (applying d rules) rules n c → ReplacesFixed (stamp_at (rule_stamp d) rules n) c
stamp_fixed d rules n c f = fixed_case d rules (applying d rules) n c (slice_get rules n) refl (λ h r e g. rule_fits d rules h n r e g) f

outer_fixed : (d : Direction) (rules : List NatRule) (n : ℕ) (c : Cube) → AllHave (outer_applying d rules) rules n c → ReplacesFixed (stamp_at (rule_stamp d) rules n) c
outer_fixed d rules n c f = fixed_case d rules (outer_applying d rules) n c (slice_get rules n) refl (λ h r e g. outer_rule_fits d rules h n r e g) f

-- ---- both stamps
either_fixed : (o p : Option ℕ) (F : Type 0) → (IsSome o → F) → (IsSome p → F) → IsSome (option_or p o) → F
either_fixed o None F a b e = a e
either_fixed o (Some v) F a b e = b refl

followed_fixed : (s t : Stamp) (c : Cube) → ReplacesFixed s c → ReplacesFixed t c → ReplacesFixed (followed s t) c
followed_fixed s t c a b =
    record {
      dst = either_fixed s.dst t.dst _ a.dst b.dst;
      src = either_fixed s.src t.src _ a.src b.src;
      dport = either_fixed s.dport t.dport _ a.dport b.dport;
      sport = either_fixed s.sport t.sport _ a.sport b.sport;
    }

pub both_fixed : (d : Direction) (rules : List NatRule) (n m : ℕ) (c : Cube) → AllHave (applying d rules) rules n c → AllHave (outer_applying d rules) rules m c → ReplacesFixed (both_stamps d rules n m) c
both_fixed d rules n m c f g =
    followed_fixed (stamp_at (rule_stamp d) rules n) (stamp_at (rule_stamp d) rules m) c (stamp_fixed d rules n c f) (outer_fixed d rules m c g)

-- ---- the same for the optional numbers of the rules that apply
-- no rule is as the rule whose number is the count of rules
abbrev numbered : List NatRule → Option ℕ → ℕ
numbered rules None = length rules
numbered rules (Some n) = n

or_numbered : (rules : List NatRule) (o : Option ℕ) → option_or o (Some (length rules)) ≡ Some (numbered rules o)
or_numbered rules None = refl
or_numbered rules (Some n) = refl

stamp_numbered : (d : Direction) (rules : List NatRule) (o : Option ℕ) → stamp_if (rule_stamp d) rules o ≡ stamp_at (rule_stamp d) rules (numbered rules o)
stamp_numbered d rules None =
    let l : length rules ≤ length rules = omega arith in
    ap (stamp_of (rule_stamp d)) (sym (slice_get_past rules (length rules) l))
stamp_numbered d rules (Some n) = refl

stamps_numbered : (d : Direction) (rules : List NatRule) (o p : Option ℕ) → stamps_if (rule_stamp d) rules o p ≡ both_stamps d rules (numbered rules o) (numbered rules p)
stamps_numbered d rules o p =
    ap (λ s. followed s (stamp_if (rule_stamp d) rules p)) (stamp_numbered d rules o) ∙ ap (followed (stamp_at (rule_stamp d) rules (numbered rules o))) (stamp_numbered d rules p)

has_number : (rules : List NatRule) (x o : Option ℕ) → x ≡ o → option_or x (Some (length rules)) ≡ Some (numbered rules o)
has_number rules x o e = ap (λ y. option_or y (Some (length rules))) e ∙ or_numbered rules o

pub right_if : (d : Direction) (rules : List NatRule) (h : Header) (o p : Option ℕ) → applying d rules h ≡ o → outer_applying d rules h ≡ p → applied (stamps_if (rule_stamp d) rules o p) h ≡ translated d rules h
right_if d rules h o p e f =
    ap (λ s. applied s h) (stamps_numbered d rules o p) ∙ both_right d rules h (numbered rules o) (numbered rules p) (has_number rules (applying d rules h) o e) (has_number rules (outer_applying d rules h) p f)

pub fixed_if : (d : Direction) (rules : List NatRule) (c : Cube) (o p : Option ℕ) → ((h : Header) → IsHeader h → IsIn c (number h) → applying d rules h ≡ o) → ((h : Header) → IsHeader h → IsIn c (number h) → outer_applying d rules h ≡ p) → ReplacesFixed (stamps_if (rule_stamp d) rules o p) c
fixed_if d rules c o p f g =
    subst (λ s. ReplacesFixed s c) (sym (stamps_numbered d rules o p)) (both_fixed d rules (numbered rules o) (numbered rules p) c (λ h v i. has_number rules (applying d rules h) o (f h v i)) (λ h v i. has_number rules (outer_applying d rules h) p (g h v i)))
