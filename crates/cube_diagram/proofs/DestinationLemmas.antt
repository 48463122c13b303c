-- The headers with the destinations of those that have a value.
use Rattle.std.proofs.Common.{ℕ, ◌≡◌, ◌<◌, ◌≤◌, ◌+◌, ◌-◌, ◌*◌, ◌/◌, ◌%◌, ◌^◌, suc, inl, inr, ◌⊎◌, Bool, true, false, cond, if◌then◌else◌, ◌==◌, List, length, slice_get, Option, Some, None, IsSome, refl, ap, sym, ◌∙◌, subst, arith}
use Rattle.std.specs.Int.{bit_at}
use Rattle.std.proofs.lemmas.Nat.{div-add-mod', div-mul-add}
use Rattle.std.proofs.lemmas.Nat.Bits.{bit_at_cat_low, bit_at_cat_high}
use Rattle.std.proofs.lemmas.Option.{slice_get_within}
use Rattle.hdr_bits.specs.Bits.{bit_of}
use Rattle.hdr_bits.specs.Lists.{Extends}
use Rattle.hdr_bits.proofs.ListLemmas.{extends_then, extends_length, extends_get}
use Rattle.cube_diagram.specs.declared.table.Node.{Node}
use Rattle.cube_diagram.specs.declared.table.Node.TheVariants.{Nothing, Value, Split}
use Rattle.cube_diagram.specs.Nodes.{IsModel, IsReduced, tested_at}
use Rattle.cube_diagram.specs.Combined.{IsSplit}
use Rattle.cube_diagram.specs.Functions.{IsByDestination, SameDestination}
use Rattle.cube_diagram.specs.Images.{AreByDestination, HasDestinations}
use Rattle.cube_diagram.proofs.DescentLemmas.{depends, tell_apart}
use Rattle.cube_diagram.proofs.ImageLemmas.{inserted}
use Rattle.cube_diagram.proofs.NodeLemmas.{model_grows, tested_grows, tested_most, tested_read}

-- ---- the first 32 bits
low_part : (n : ℕ) → n % 2 ^ 80 < 2 ^ 80
low_part n = omega arith

in_parts : (n : ℕ) → n / 2 ^ 80 * 2 ^ 80 + n % 2 ^ 80 ≡ n
in_parts n = div-add-mod' n (2 ^ 80)

top_bit : (n k : ℕ) → k < 32 → bit_of n k ≡ bit_at (n / 2 ^ 80) (111 - k - 80)
top_bit n k l = ap (λ m. bit_at m (111 - k)) (sym (in_parts n)) ∙ bit_at_cat_high (n / 2 ^ 80) 80 (n % 2 ^ 80) (111 - k) (low_part n) (omega (arith, l))

pub same_bit : (h g k : ℕ) → SameDestination h g → k < 32 → bit_of h k ≡ bit_of g k
same_bit h g k e l = top_bit h k l ∙ (ap (λ m. bit_at m (111 - k - 80)) e ∙ sym (top_bit g k l))

-- the header with the destination of one, and all else of the other
joined : ℕ → ℕ → ℕ
joined h x = h / 2 ^ 80 * 2 ^ 80 + x % 2 ^ 80

joined_first : (h x : ℕ) → SameDestination h (joined h x)
unfolding joined
joined_first h x = sym (div-mul-add (h / 2 ^ 80) (2 ^ 80) (x % 2 ^ 80) (low_part x))

joined_later : (h x k : ℕ) → 32 ≤ k → k < 112 → bit_of (joined h x) k ≡ bit_of x k
unfolding joined
joined_later h x k l m =
    bit_at_cat_low (h / 2 ^ 80) 80 (x % 2 ^ 80) (111 - k) (omega (arith, l, m))
    ∙ (sym (bit_at_cat_low (x / 2 ^ 80) 80 (x % 2 ^ 80) (111 - k) (omega (arith, l, m))) ∙ ap (λ n. bit_at n (111 - k)) (in_parts x))

-- ---- some header with a value has this destination
some_of : (o : Option ℕ) → (o ≡ None → ⊥) → IsSome o
some_of None n = absurd (n refl)
some_of (Some v) n = refl

no_value : (o : Option ℕ) → o ≡ None → IsSome o → ⊥
no_value None e s = absurd cc
no_value (Some v) e s = absurd cc

pub with_destination : (nodes : List Node) → IsReduced nodes → (val : ℕ → ℕ → Option ℕ) → IsModel nodes val → (id : ℕ) → id < length nodes → (id ≡ 0 → ⊥) → 32 ≤ tested_at nodes id → (h : ℕ) → (g : ℕ) × SameDestination h g × IsSome (val id g)
with_destination nodes r val m id l n t h =
    let x = tell_apart nodes r val m (suc (id + 0)) id 0 (omega arith) l (slice_get_within nodes 0 Nothing r.start) n in
    let s : IsSome (val id x.header) = some_of (val id x.header) (λ e. x.differ (e ∙ sym (m.equation 0 Nothing r.start x.header))) in
    let same : val id (joined h x.header) ≡ val id x.header = depends nodes r val m id 32 l t (joined h x.header) x.header (λ k i j. joined_later h x.header k i j) in
    (joined h x.header, joined_first h x.header, subst (λ o. IsSome o) (sym same) s)

-- ---- the cases
pub destinations_nothing : (nodes : List Node) (a : ℕ) → IsReduced nodes → a ≡ 0 → HasDestinations nodes a 0
destinations_nothing nodes a r z =
    let l = slice_get_within nodes 0 Nothing r.start in
    record {
      from = subst (λ i. i < length nodes) (sym z) l;
      below = l;
      told = λ val m. record {
        has = λ h g e s. absurd (no_value (val a g) (ap (λ i. val i g) z ∙ m.equation 0 Nothing r.start g) s);
        only = λ h. inl (m.equation 0 Nothing r.start h);
      };
      order = subst (λ i. tested_at nodes i ≤ tested_at nodes 0) (sym z) (omega arith);
    }

-- all headers, where a tests no bit of the destination
pub destinations_all : (nodes : List Node) (a : ℕ) → IsReduced nodes → a < length nodes → (a ≡ 0 → ⊥) → 32 ≤ tested_at nodes a → HasDestinations nodes a 1
destinations_all nodes a r l n t =
    let p = tested_read nodes 1 (Value 1) r.mark in
    let u = tested_most nodes r a in
    record {
      from = l;
      below = slice_get_within nodes 1 (Value 1) r.mark;
      told = λ val m. record {
        has = λ h g e s. m.equation 1 (Value 1) r.mark h;
        only = λ h. let x = with_destination nodes r val m a l n t h in inr (m.equation 1 (Value 1) r.mark h, x.0, x.1, x.2);
      };
      order = omega (arith, p, u);
    }

pub destinations_flat : (nodes : List Node) (a : ℕ) (x : Node) → IsReduced nodes → slice_get nodes a ≡ Some x → ((k low high : ℕ) → x ≡ Split k low high → ⊥) → (a ≡ 0 → ⊥) → HasDestinations nodes a 1
destinations_flat nodes a Nothing r e n z = absurd (z (r.distinct a 0 Nothing e r.start))
destinations_flat nodes a (Value v) r e n z =
    let p = tested_read nodes a (Value v) e in
    destinations_all nodes a r (slice_get_within nodes a (Value v) e) z (omega (arith, p))
destinations_flat nodes a (Split k low high) r e n z = absurd (n k low high refl)

pub destinations_grow : (x y : List Node) (a r : ℕ) → Extends x y → HasDestinations x a r → HasDestinations y a r
destinations_grow x y a r g p =
    let l = extends_length x y g in
    let f = p.from in
    let w = p.below in
    let pa = tested_grows x y a g f in
    let pr = tested_grows x y r g w in
    let o = p.order in
    record { from = omega (arith, l, f); below = omega (arith, l, w); told = λ val m. p.told val (model_grows x y g val m); order = rw (pa, pr) o }

pub all_destinations_grow : (x y : List Node) (known : ℕ → Option ℕ) → Extends x y → AreByDestination x known → AreByDestination y known
all_destinations_grow x y known g p = record { each = λ a r e. destinations_grow x y a r g (p.each a r e) }

pub destinations_inserted : (nodes : List Node) (f g : ℕ → Option ℕ) (k w : ℕ) → ((a : ℕ) → g a ≡ cond (k == a) (Some w) (f a)) → AreByDestination nodes f → HasDestinations nodes k w → AreByDestination nodes g
destinations_inserted nodes f g k w u p q =
    record {
      each = λ a r e. elim (inserted f g k w a r (u a) e) [
        | inl s ↦ subst (λ z. HasDestinations nodes z r) s.0 (subst (λ z. HasDestinations nodes k z) s.1 q)
        | inr s ↦ p.each a r s
      ];
    }

-- ---- by one bit of the destination
either : (t : Bool) (x y z : Option ℕ) → (t ≡ true → x ≡ z) → (t ≡ false → y ≡ z) → (if t then x else y) ≡ z
either true x y z f g = f refl
either false x y z f g = g refl

module _ (k : ℕ) (first : k < 32) (f lo hi set a b : ℕ → Option ℕ) (value : (h : ℕ) → f h ≡ (if bit_of h k == 0 then lo h else hi h)) (told : (h : ℕ) → set h ≡ (if bit_of h k == 0 then a h else b h)) (p : IsByDestination lo a) (q : IsByDestination hi b) where
  same_test : (h g : ℕ) → SameDestination h g → (bit_of h k == 0) ≡ (bit_of g k == 0)
  same_test h g e = ap (λ n. n == 0) (same_bit h g k e first)

  has_by : (h g : ℕ) → SameDestination h g → (t : Bool) → (bit_of h k == 0) ≡ t → IsSome (if t then lo g else hi g) → (if t then a h else b h) ≡ Some 1
  has_by h g e true c s = p.has h g e s
  has_by h g e false c s = q.has h g e s

  has : (h g : ℕ) → SameDestination h g → IsSome (f g) → set h ≡ Some 1
  has h g e s =
      told h ∙ has_by h g e (bit_of h k == 0) refl (subst (λ t. IsSome (if t then lo g else hi g)) (sym (same_test h g e)) (subst (λ o. IsSome o) (value g) s))

  Told : ℕ → Option ℕ → Type 0
  Told h o = (o ≡ None) ⊎ ((o ≡ Some 1) × (g : ℕ) × SameDestination h g × IsSome (f g))

  there : (h g : ℕ) (t : Bool) → (bit_of h k == 0) ≡ t → SameDestination h g → IsSome (if t then lo g else hi g) → IsSome (f g)
  there h g t c e s = subst (λ o. IsSome o) (sym (value g)) (subst (λ z. IsSome (if z then lo g else hi g)) (sym c ∙ same_test h g e) s)

  only_by : (h : ℕ) (t : Bool) → (bit_of h k == 0) ≡ t → Told h (if t then a h else b h)
  unfolding Told
  only_by h true c = elim (p.only h) [
    | inl n ↦ inl n
    | inr s ↦ inr (s.0, s.1, s.2, there h s.1 true c s.2 s.3)
  ]
  only_by h false c = elim (q.only h) [
    | inl n ↦ inl n
    | inr s ↦ inr (s.0, s.1, s.2, there h s.1 false c s.2 s.3)
  ]

  pub by_bit : IsByDestination f set
  unfolding Told
  by_bit = record { has = has; only = λ h. subst (Told h) (sym (told h)) (only_by h (bit_of h k == 0) refl) }

pub destinations_step : (d0 d1 d2 d3 : List Node) (id k low high a b r : ℕ) → k < 32 → slice_get d0 id ≡ Some (Split k low high) → Extends d0 d1 → Extends d1 d2 → Extends d2 d3 → HasDestinations d1 low a → HasDestinations d2 high b → IsSplit d3 k a b r → HasDestinations d3 id r
destinations_step d0 d1 d2 d3 id k low high a b r w e g1 g2 g3 p q s =
    let f = extends_get d0 d3 id (Split k low high) (extends_then d0 d1 d3 g1 (extends_then d1 d2 d3 g2 g3)) e in
    let pl = destinations_grow d1 d3 low a (extends_then d1 d2 d3 g2 g3) p in
    let ph = destinations_grow d2 d3 high b g3 q in
    let x = tested_read d3 id (Split k low high) f in
    let o = s.order in
    record {
      from = slice_get_within d3 id (Split k low high) f;
      below = s.below;
      told = λ val m. by_bit k w (val id) (val low) (val high) (val r) (val a) (val b) (λ h. m.equation id (Split k low high) f h) (λ h. s.by.value val m h) (pl.told val m) (ph.told val m);
      order = omega (arith, x, o);
    }

-- the same of a function with the same values
pub destinations_of_same : (f g set : ℕ → Option ℕ) → ((h : ℕ) → f h ≡ g h) → IsByDestination f set → IsByDestination g set
destinations_of_same f g set e p =
    record {
      has = λ h x d s. p.has h x d (subst (λ o. IsSome o) (sym (e x)) s);
      only = λ h. elim (p.only h) [
        | inl n ↦ inl n
        | inr s ↦ inr (s.0, s.1, s.2, subst (λ o. IsSome o) (e s.1) s.3)
      ];
    }
