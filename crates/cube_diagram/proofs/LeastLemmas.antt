-- The least header that has a value.
use Rattle.std.proofs.Common.{ℕ, ◌≡◌, ◌<◌, ◌≤◌, ◌+◌, ◌-◌, ◌*◌, ◌%◌, ◌^◌, suc, inl, inr, List, length, slice_get, Option, Some, None, IsSome, refl, ap, sym, ◌∙◌, subst, arith}
use Rattle.std.specs.Int.{bit_at}
use Rattle.std.proofs.lemmas.Bool.{cases_lt}
use Rattle.std.proofs.lemmas.Option.{slice_get_within}
use Rattle.std.proofs.lemmas.Nat.Bits.{bit_at_cat_low, bit_at_cat_high, bit_at_above, bit_at_lowest}
use Rattle.std.proofs.Math.Nat.{pow-le-pow_right, two-pow-succ}
use Rattle.hdr_bits.specs.Bits.{bit_of}
use Rattle.cube_diagram.specs.declared.table.Node.{Node}
use Rattle.cube_diagram.specs.declared.table.Node.TheVariants.{Nothing, Value, Split}
use Rattle.cube_diagram.specs.Nodes.{meaning, tested_at, IsReduced}
use Rattle.cube_diagram.specs.Images.{IsLeast}
use Rattle.cube_diagram.proofs.NodeLemmas.{meaning_model, tested_read}
use Rattle.std.proofs.Common.{true, ◌==◌, ◌↔◌}
use Rattle.std.proofs.lemmas.Bool.Decides.{nat_tests}
use Rattle.hdr_bits.specs.declared.header.Header.{Header}
use Rattle.hdr_bits.specs.HeaderBits.{number}
use Rattle.cube_diagram.specs.Functions.{IsFirst}
use Rattle.cube_diagram.proofs.DescentLemmas.{depends, read_zero, read_one, one_number}

some_of : (x : Option ℕ) (v : ℕ) → x ≡ Some v → IsSome x
some_of x v e = subst (λ z. IsSome z) (sym e) refl

pub least_flat : (nodes : List Node) (a : ℕ) (x : Node) → IsReduced nodes → slice_get nodes a ≡ Some x → ((k low high : ℕ) → x ≡ Split k low high → ⊥) → (a ≡ 0 → ⊥) → IsLeast nodes a 0
least_flat nodes a Nothing r e n z = absurd (z (r.distinct a 0 Nothing e r.start))
least_flat nodes a (Value v) r e n z =
    let p = tested_read nodes a (Value v) e in
    record { below = subst (λ k. 0 < 2 ^ (112 - k)) (sym p) (omega arith); there = some_of _ v ((meaning_model nodes r).equation a (Value v) e 0); before = λ m l. absurd (omega (arith, l)) }
least_flat nodes a (Split k low high) r e n z = absurd (n k low high refl)

-- a number below the weight of bit k has a 0 there, and one below twice the weight has a 1 if it isn't
power_above : (k p : ℕ) → k < p → 2 ^ (112 - p) ≤ 2 ^ (111 - k)
power_above k p l = pow-le-pow_right {n = 2} (omega arith) (omega (arith, l))

zero_there : (n k : ℕ) → n < 2 ^ (111 - k) → bit_of n k ≡ 0
zero_there n k l = bit_at_above n (111 - k) (111 - k) l (omega arith)

one_there : (n k : ℕ) → n < 2 ^ (111 - k) → bit_of (1 * 2 ^ (111 - k) + n) k ≡ 1
one_there n k l = bit_at_cat_high 1 (111 - k) n (111 - k) l (omega arith) ∙ (ap (λ i. bit_at 1 i) (same_less (111 - k)) ∙ bit_at_lowest 1)
  where
    same_less : (m : ℕ) → m - m ≡ 0
    same_less m = omega arith

same_later : (n k j : ℕ) → k < j → j < 112 → bit_of (1 * 2 ^ (111 - k) + n) j ≡ bit_of n j
same_later n k j l m = bit_at_cat_low 1 (111 - k) n (111 - j) (omega (arith, l, m))

pub least_low : (nodes : List Node) (id k low high r : ℕ) → IsReduced nodes → slice_get nodes id ≡ Some (Split k low high) → IsLeast nodes low r → IsLeast nodes id r
least_low nodes id k low high r w e p =
    let o = w.ordered id (Split k low high) e in
    let o0 = o.0 in
    let o1 = o.1 in
    let x = tested_read nodes id (Split k low high) e in
    let b = p.below in
    let q = power_above k (tested_at nodes low) o.1 in
    let l : r < 2 ^ (111 - k) = omega (arith, b, q) in
    let u : 2 ^ (111 - k) ≤ 2 ^ (112 - k) = pow-le-pow_right {n = 2} (omega arith) (omega arith) in
    record {
      below = subst (λ z. r < 2 ^ (112 - z)) (sym x) (omega (arith, l, u));
      there = subst (λ z. IsSome z) (sym (read_zero nodes w id k low high r e (zero_there r k l))) p.there;
      before = λ n m. read_zero nodes w id k low high n e (zero_there n k (omega (arith, m, l))) ∙ p.before n m;
    }

twice : (k : ℕ) → k < 112 → 2 ^ (112 - k) ≡ 2 ^ (111 - k) + 2 ^ (111 - k)
twice k l = ap (λ n. 2 ^ n) (next k l) ∙ two-pow-succ (111 - k)
  where
    next : (k : ℕ) → k < 112 → 112 - k ≡ suc (111 - k)
    next k l = omega (arith, l)

pub least_high : (nodes : List Node) (id k low high r : ℕ) → IsReduced nodes → slice_get nodes id ≡ Some (Split k low high) → low ≡ 0 → IsLeast nodes high r → IsLeast nodes id (1 * 2 ^ (111 - k) + r)
least_high nodes id k low high r w e z p =
    let o = w.ordered id (Split k low high) e in
    let b = w.below id (Split k low high) e in
    let s = slice_get_within nodes id (Split k low high) e in
    let b1 = b.1 in
    let o0 = o.0 in
    let o2 = o.2 in
    let x = tested_read nodes id (Split k low high) e in
    let c = p.below in
    let q = power_above k (tested_at nodes high) o.2 in
    let l : r < 2 ^ (111 - k) = omega (arith, c, q) in
    let t = twice k o.0 in
    let m = meaning_model nodes w in
    let same : (n : ℕ) → meaning nodes high (1 * 2 ^ (111 - k) + n) ≡ meaning nodes high n = λ n. depends nodes w (meaning nodes) m high (suc k) (omega (arith, b1, s)) (omega (arith, o2)) (1 * 2 ^ (111 - k) + n) n (λ j i h. same_later n k j (omega (arith, i)) h) in
    let nothing : (n : ℕ) → meaning nodes low n ≡ None = λ n. subst (λ i. meaning nodes i n ≡ None) (sym z) (m.equation 0 Nothing w.start n) in
    record {
      below = subst (λ z. 1 * 2 ^ (111 - k) + r < 2 ^ (112 - z)) (sym x) (omega (arith, l, t));
      there = subst (λ z. IsSome z) (sym (read_one nodes w id k low high (1 * 2 ^ (111 - k) + r) e (one_there r k l) ∙ same r)) p.there;
      before = λ n i. elim (cases_lt n (2 ^ (111 - k))) [
        | inl d ↦ read_zero nodes w id k low high n e (zero_there n k d) ∙ nothing n
        | inr d ↦
            let g = n - 2 ^ (111 - k) in
            let y : 1 * 2 ^ (111 - k) + g ≡ n = omega (arith, d) in
            let f : g < r = omega (arith, i, d) in
            subst (λ v. meaning nodes id v ≡ None) y (read_one nodes w id k low high (1 * 2 ^ (111 - k) + g) e (one_there g k (omega (arith, f, l))) ∙ (same g ∙ p.before g f))
      ];
    }

-- ---- what the code reckons
pub weight_fits : (k : ℕ) → 1 * 2 ^ (111 - k) % 2 ^ 128 ≡ 1 * 2 ^ (111 - k)
weight_fits k = mod-lt-128 (1 * 2 ^ (111 - k)) (let l : 2 ^ (111 - k) ≤ 2 ^ 111 = pow-le-pow_right {n = 2} (omega arith) (less k) in omega (arith, l))
  where
    less : (k : ℕ) → 111 - k ≤ 111
    less k = omega arith

    mod-lt-128 : (n : ℕ) → n < 2 ^ 128 → n % 2 ^ 128 ≡ n
    mod-lt-128 n l = omega (arith, l)

pub sum_below : (k p r n : ℕ) → n ≡ 1 * 2 ^ (111 - k) → 1 * 2 ^ (111 - k) + r < 2 ^ (112 - p) → n + r < 2 ^ 128
sum_below k p r n e l =
    let u : 2 ^ (112 - p) ≤ 2 ^ 112 = pow-le-pow_right {n = 2} (omega arith) (less p) in
    omega (arith, e, l, u)
  where
    less : (p : ℕ) → 112 - p ≤ 112
    less p = omega arith

-- ---- the number of nothing
pub gives_nothing : (nodes : List Node) → IsReduced nodes → (id : ℕ) → id ≡ 0 → (h : ℕ) → meaning nodes id h ≡ None
gives_nothing nodes r id e h = subst (λ i. meaning nodes i h ≡ None) (sym e) ((meaning_model nodes r).equation 0 Nothing r.start h)

pub nothing_number : (nodes : List Node) → IsReduced nodes → (id : ℕ) → id < length nodes → ((id == 0) ≡ true) ↔ ((h : ℕ) → h < 2 ^ 112 → meaning nodes id h ≡ None)
nothing_number nodes r id l =
    (λ e h b. gives_nothing nodes r id (from_test e) h, λ f. to_test (one_number nodes r id 0 l (slice_get_within nodes 0 Nothing r.start) (λ h b. f h b ∙ sym ((meaning_model nodes r).equation 0 Nothing r.start h))))
  where
    from_test : (id == 0) ≡ true → id ≡ 0
    from_test e = grind (arith, nat_tests, e)

    to_test : id ≡ 0 → (id == 0) ≡ true
    to_test e = grind (arith, nat_tests, e)

-- as a header
pub first_header : (nodes : List Node) (id r : ℕ) (h : Header) → number h ≡ r → IsLeast nodes id r → IsFirst (meaning nodes id) h
first_header nodes id r h e p =
    record {
      some = subst (λ n. IsSome (meaning nodes id n)) (sym e) p.there;
      least = λ n l. p.before n (subst (λ m. n < m) e l);
    }
