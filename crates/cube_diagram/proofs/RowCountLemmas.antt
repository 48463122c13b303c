-- As many rows as ways down to a value.
use Rattle.std.proofs.Common.{ℕ, suc, ◌≡◌, ◌<◌, ◌≤◌, ◌+◌, ◌-◌, ◌*◌, ◌^◌, ◌%◌, inl, inr, cond, List, [], ◌∷◌, ◌++◌, length, slice_get, Option, Some, refl, ap, sym, ◌∙◌, subst, arith, bit_or, length-append, ◌==◌}
use Rattle.std.proofs.Math.Nat.{pow-le-pow_right, two-pow-succ}
use Rattle.std.proofs.lemmas.Nat.Bits.{bit_at-zero}
use Rattle.hdr_bits.specs.declared.cube.Cube.{Cube}
use Rattle.hdr_bits.specs.CubeBits.{IsStar}
use Rattle.hdr_bits.specs.Rows.{AreRows}
use Rattle.cube_alg.specs.Pairs.{HasDigit}
use Rattle.cube_alg.proofs.SplitLemmas.{or_sets, or_below, digits_set, digits_set_one, has_zero, has_one, star_free, free_star}
use Rattle.cube_diagram.specs.declared.table.Node.{Node}
use Rattle.cube_diagram.specs.declared.table.Node.TheVariants.{Nothing, Value, Split}
use Rattle.cube_diagram.specs.Nodes.{IsReduced, meaning, tested_at}
use Rattle.cube_diagram.specs.RowCounts.{IsRowCount, CountsRows, AreCounts}
use Rattle.cube_diagram.proofs.NodeLemmas.{tested_read}
use Rattle.cube_diagram.proofs.ImageLemmas.{inserted}
use Rattle.hdr_bits.proofs.OneList.{rows_are_one_list}
use Rattle.cube_diagram.proofs.PathLemmas.{under_nothing, under_value, under_both, path_zeros, path_ones, root_path}

-- ---- the two halves of a path
record Halves (k : ℕ) (c : Cube) : Type 0 where
  zeros : Cube
  ones : Cube
  zero : HasDigit k 0 c zeros
  one : HasDigit k 1 c ones

halves : (k : ℕ) (c : Cube) → k < 112 → IsStar c k → Halves k c
halves k c l s =
    let w : 111 - k < 112 = omega arith in
    let z = star_free c k s in
    let f = or_sets c.fixed (111 - k) w in
    let b = or_sets c.bits (111 - k) w in
    let m = or_below c.fixed (111 - k) w c.below in
    let zeros : Cube = record { fixed = bit_or c.fixed (1 * 2 ^ (111 - k) % 2 ^ 128); bits = c.bits; below = m; digits = digits_set (111 - k) c.fixed (bit_or c.fixed (1 * 2 ^ (111 - k) % 2 ^ 128)) c.bits f z c.digits } in
    let ones : Cube = record { fixed = bit_or c.fixed (1 * 2 ^ (111 - k) % 2 ^ 128); bits = bit_or c.bits (1 * 2 ^ (111 - k) % 2 ^ 128); below = m; digits = digits_set_one (111 - k) c.fixed (bit_or c.fixed (1 * 2 ^ (111 - k) % 2 ^ 128)) c.bits (bit_or c.bits (1 * 2 ^ (111 - k) % 2 ^ 128)) f b z c.digits } in
    record { zeros = zeros; ones = ones; zero = has_zero k c zeros l z f refl; one = has_one k c ones l f b }

-- ---- how many
power_above : (k p : ℕ) → k < p → 2 ^ (112 - p) ≤ 2 ^ (111 - k)
power_above k p l = pow-le-pow_right {n = 2} (omega arith) (omega (arith, l))

twice : (k : ℕ) → k < 112 → 2 ^ (112 - k) ≡ 2 ^ (111 - k) + 2 ^ (111 - k)
twice k l = ap (λ n. 2 ^ n) (next k l) ∙ two-pow-succ (111 - k)
  where
    next : (k : ℕ) → k < 112 → 112 - k ≡ suc (111 - k)
    next k l = omega (arith, l)

pub counts_nothing : (nodes : List Node) (id : ℕ) → IsReduced nodes → slice_get nodes id ≡ Some Nothing → CountsRows nodes id 0
counts_nothing nodes id r e =
    let t = tested_read nodes id Nothing e in
    record {
      most = omega arith;
      rows = λ value path from p. (let o = p.order in record { cubes = []; are = under_nothing nodes r value path from id p e (omega (arith, o, t)); count = refl });
    }

pub counts_value : (nodes : List Node) (id v : ℕ) → IsReduced nodes → slice_get nodes id ≡ Some (Value v) → CountsRows nodes id 1
counts_value nodes id v r e =
    let t = tested_read nodes id (Value v) e in
    record {
      most = subst (λ k. 1 ≤ 2 ^ (112 - k)) (sym t) (omega arith);
      rows = λ value path from p. (let o = p.order in record { cubes = path ∷ []; are = under_value nodes r value path from id v p e (omega (arith, o, t)); count = refl });
    }

pub counts_both : (nodes : List Node) (id k low high a b : ℕ) → IsReduced nodes → slice_get nodes id ≡ Some (Split k low high) → CountsRows nodes low a → CountsRows nodes high b → CountsRows nodes id (a + b)
counts_both nodes id k low high a b r e x y =
    let o = r.ordered id (Split k low high) e in
    let w = o.0 in
    let t = tested_read nodes id (Split k low high) e in
    let pa = power_above k (tested_at nodes low) o.1 in
    let pb = power_above k (tested_at nodes high) o.2 in
    let ma = x.most in
    let mb = y.most in
    let q = twice k w in
    record {
      most = subst (λ z. a + b ≤ 2 ^ (112 - z)) (sym t) (omega (arith, ma, mb, pa, pb, q));
      rows = λ value path from p.
          let f = p.order in
          let h = halves k path w (p.free k (omega (arith, f, t)) w) in
          let u = x.rows value h.zeros (suc k) (path_zeros nodes r value path h.zeros from id k low high p e h.zero) in
          let v = y.rows value h.ones (suc k) (path_ones nodes r value path h.ones from id k low high p e h.one) in
          let cu = u.count in
          let cv = v.count in
          record {
            cubes = u.cubes ++ v.cubes;
            are = under_both nodes r value path h.zeros h.ones from id k low high u.cubes v.cubes p e h.zero h.one u.are v.are;
            count = omega (arith, length-append u.cubes v.cubes, cu, cv);
          };
    }

-- the sum fits a number of 128 bits
pub counts_below : (nodes : List Node) (id n : ℕ) → CountsRows nodes id n → n ≤ 2 ^ 112
counts_below nodes id n c =
    let u : 2 ^ (112 - tested_at nodes id) ≤ 2 ^ 112 = pow-le-pow_right {n = 2} (omega arith) (less (tested_at nodes id)) in
    let m = c.most in
    omega (arith, u, m)
  where
    less : (p : ℕ) → 112 - p ≤ 112
    less p = omega arith

pub counts_inserted : (nodes : List Node) (f g : ℕ → Option ℕ) (k w : ℕ) → ((a : ℕ) → g a ≡ cond (k == a) (Some w) (f a)) → AreCounts nodes f → CountsRows nodes k w → AreCounts nodes g
counts_inserted nodes f g k w u p q =
    record {
      each = λ a r e. elim (inserted f g k w a r (u a) e) [
        | inl s ↦ subst (λ z. CountsRows nodes z r) s.0 (subst (CountsRows nodes k) s.1 q)
        | inr s ↦ p.each a r s
      ];
    }

-- ---- from the root
pub counts_root : (nodes : List Node) (id n : ℕ) → id < length nodes → CountsRows nodes id n → IsRowCount (meaning nodes id) n
counts_root nodes id n l c =
    let all : Cube = record { fixed = 0; bits = 0; below = omega arith; digits = refl } in
    let s : (k : ℕ) → k < 112 → IsStar all k = λ k m. free_star all k (bit_at-zero (111 - k)) in
    let x = c.rows (meaning nodes id) all 0 (root_path nodes id all l s) in
    let are : AreRows (meaning nodes id) x.cubes = record { each = x.are.each; every = λ d row. x.are.every d row (λ i m. absurd (omega (arith, m))); ordered = x.are.ordered } in
    record {
      rows = x.cubes;
      are = are;
      count = x.count;
      only = λ others o. ap length (rows_are_one_list (meaning nodes id) others x.cubes o are) ∙ x.count;
    }
