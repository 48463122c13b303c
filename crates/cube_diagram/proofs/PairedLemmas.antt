-- Two functions as one whose values number the pairs of theirs.
use Rattle.std.proofs.Common.{ℕ, ◌≡◌, ◌<◌, ◌≤◌, ◌⊎◌, inl, inr, min, Bool, true, false, if◌then◌else◌, ◌==◌, List, length, slice_get, Option, Some, None, refl, sym, ◌∙◌, subst, arith, All, Contains}
use Rattle.std.proofs.lemmas.Option.{slice_get_within}
use Rattle.std.proofs.lemmas.List.Elements.{All-contains, All-weaker}
use Rattle.hdr_bits.specs.Bits.{bit_of}
use Rattle.hdr_bits.specs.Lists.{Extends}
use Rattle.hdr_bits.proofs.ListLemmas.{extends_none, extends_then, extends_length, extends_get}
use Rattle.cube_diagram.specs.declared.table.Node.{Node}
use Rattle.cube_diagram.specs.declared.table.Node.TheVariants.{Nothing, Value, Split}
use Rattle.cube_diagram.specs.declared.memo.Combination.{Combination}
use Rattle.cube_diagram.specs.declared.paired.ValuePair.{ValuePair}
use Rattle.cube_diagram.specs.Nodes.{IsModel, IsReduced, meaning, tested_at, tested_by}
use Rattle.cube_diagram.specs.Combined.{IsSplit, IsLater, AreParts, of_nothing}
use Rattle.cube_diagram.specs.Images.{IsConstant}
use Rattle.cube_diagram.specs.Paired.{IsPairAt, IsPaired, IsPairedBy}
use Rattle.cube_diagram.proofs.NodeLemmas.{model_grows, tested_grows, tested_read, tested_most, meaning_model, node_there}
use Rattle.cube_diagram.proofs.CombineLemmas.{split_grows}

-- ---- pairs that are added
pair_more : (old new : List ValuePair) → Extends old new → (x y z : Option ℕ) → IsPairAt old x y z → IsPairAt new x y z
pair_more old new g x y None p = p
pair_more old new g x y (Some n) p = (extends_get old new n _ g p.0, p.1)

pub paired_grows : (x y : List Node) (old new : List ValuePair) (a b r : ℕ) → Extends x y → Extends old new → IsPaired x old a b r → IsPaired y new a b r
paired_grows x y old new a b r g e p =
    let l = extends_length x y g in
    let f = p.first in
    let s = p.second in
    let w = p.below in
    let pa = tested_grows x y a g f in
    let pb = tested_grows x y b g s in
    let pr = tested_grows x y r g w in
    let o = p.order in
    record {
      first = omega (arith, l, f);
      second = omega (arith, l, s);
      below = omega (arith, l, w);
      value = λ val m h. pair_more old new e (val a h) (val b h) (val r h) (p.value val (model_grows x y g val m) h);
      order = rw (pa, pb, pr) o;
    }

pub memo_grows : (x y : List Node) (old new : List ValuePair) (ms : List Combination) → Extends x y → Extends old new → All (IsPairedBy x old) ms → All (IsPairedBy y new) ms
memo_grows x y old new ms g e a = All-weaker (IsPairedBy x old) (IsPairedBy y new) (λ c p. paired_grows x y old new c.first c.second c.result g e p) ms a

pub memo_put : (nodes : List Node) (pairs : List ValuePair) (known : Combination) (old new : List Combination) → IsPairedBy nodes pairs known → All (IsPairedBy nodes pairs) old → All (λ c. (c ≡ known) ⊎ Contains old c) new → All (IsPairedBy nodes pairs) new
memo_put nodes pairs known old new k p q =
    All-weaker (λ c. (c ≡ known) ⊎ Contains old c) (IsPairedBy nodes pairs) (λ c e. elim e [
      | inl s ↦ subst (IsPairedBy nodes pairs) (sym s) k
      | inr s ↦ All-contains (IsPairedBy nodes pairs) old c p s
    ]) new q

pub memo_recalled : (nodes : List Node) (pairs : List ValuePair) (ms : List Combination) (a b r : ℕ) → All (IsPairedBy nodes pairs) ms → Contains ms (record { first = a; second = b; result = r }) → IsPaired nodes pairs a b r
memo_recalled nodes pairs ms a b r p c = All-contains (IsPairedBy nodes pairs) ms (record { first = a; second = b; result = r }) p c

-- ---- where no bit is tested
pub paired_nothing : (nodes : List Node) (pairs : List ValuePair) (a b : ℕ) → IsReduced nodes → a ≡ 0 → b ≡ 0 → IsPaired nodes pairs a b 0
paired_nothing nodes pairs a b r e f =
    let l = slice_get_within nodes 0 Nothing r.start in
    subst (λ z. IsPaired nodes pairs z b 0) (sym e) (subst (λ z. IsPaired nodes pairs 0 z 0) (sym f) (record {
      first = l;
      second = l;
      below = l;
      value = λ val m h. let n = m.equation 0 Nothing r.start h in subst (λ z. IsPairAt pairs z z z) (sym n) (refl, refl);
      order = omega arith;
    }))

pub memo_start : (nodes : List Node) (pairs : List ValuePair) (ms : List Combination) → IsReduced nodes → All (λ c. c ≡ of_nothing) ms → All (IsPairedBy nodes pairs) ms
memo_start nodes pairs ms r a = All-weaker (λ c. c ≡ of_nothing) (IsPairedBy nodes pairs) (λ c e. subst (IsPairedBy nodes pairs) (sym e) (paired_nothing nodes pairs 0 0 r refl refl)) ms a

-- what a number gives that looks at no bit
flat_value : (nodes : List Node) → IsReduced nodes → (val : ℕ → ℕ → Option ℕ) → IsModel nodes val → (a : ℕ) (x : Node) → slice_get nodes a ≡ Some x → 112 ≤ tested_by x → (h : ℕ) → val a h ≡ meaning nodes a 0
flat_value nodes r val m a Nothing e l h = m.equation a Nothing e h ∙ sym ((meaning_model nodes r).equation a Nothing e 0)
flat_value nodes r val m a (Value v) e l h = m.equation a (Value v) e h ∙ sym ((meaning_model nodes r).equation a (Value v) e 0)
flat_value nodes r val m a (Split k low high) e l h = let o = r.ordered a (Split k low high) e in let w = o.0 in absurd (omega (arith, w, l))

-- none but 0 gives nothing
flat_some : (nodes : List Node) → IsReduced nodes → (a : ℕ) (x : Node) → slice_get nodes a ≡ Some x → 112 ≤ tested_by x → meaning nodes a 0 ≡ None → a ≡ 0
flat_some nodes r a Nothing e l n = r.distinct a 0 Nothing e r.start
flat_some nodes r a (Value v) e l n = let s : Some v ≡ None = sym ((meaning_model nodes r).equation a (Value v) e 0) ∙ n in absurd cc
flat_some nodes r a (Split k low high) e l n = let o = r.ordered a (Split k low high) e in let w = o.0 in absurd (omega (arith, w, l))

pub paired_flat : (d0 d1 : List Node) (pairs : List ValuePair) (a b n r : ℕ) (x y : Option ℕ) → IsReduced d0 → a < length d0 → b < length d0 → 112 ≤ min (tested_at d0 a) (tested_at d0 b) → ((a ≡ 0) × (b ≡ 0) → ⊥) → Extends d0 d1 → x ≡ meaning d0 a 0 → y ≡ meaning d0 b 0 → slice_get pairs n ≡ Some (record { first = x; second = y }) → IsConstant d1 (Some n) r → IsPaired d1 pairs a b r
paired_flat d0 d1 pairs a b n r x y w la lb t none g e f there c =
    let p = node_there d0 a la in
    let q = node_there d0 b lb in
    let pp = tested_read d0 a p.0 p.1 in
    let pq = tested_read d0 b q.0 q.1 in
    let fa : 112 ≤ tested_by p.0 = omega (arith, pp, t) in
    let fb : 112 ≤ tested_by q.0 = omega (arith, pq, t) in
    let l = extends_length d0 d1 g in
    let o = c.order in
    let ga = tested_grows d0 d1 a g la in
    let gb = tested_grows d0 d1 b g lb in
    let u : tested_at d0 a ≤ 112 = tested_most d0 w a in
    record {
      first = omega (arith, l, la);
      second = omega (arith, l, lb);
      below = c.below;
      value = λ val m h.
          let v = model_grows d0 d1 g val m in
          let va : x ≡ val a h = e ∙ sym (flat_value d0 w val v a p.0 p.1 fa h) in
          let vb : y ≡ val b h = f ∙ sym (flat_value d0 w val v b q.0 q.1 fb h) in
          subst (λ z. IsPairAt pairs (val a h) (val b h) z) (sym (c.value val m h)) (subst (λ z. IsPairAt pairs z (val b h) (Some n)) va (subst (λ z. IsPairAt pairs x z (Some n)) vb (there, λ i j. none (flat_some d0 w a p.0 p.1 fa (sym e ∙ i), flat_some d0 w b q.0 q.1 fb (sym f ∙ j)))));
      order = rw (ga, gb) (omega (arith, o, u));
    }

-- ---- by the parts
pair_by : (pairs : List ValuePair) (t : Bool) (a al ah b bl bh r low high : Option ℕ) → a ≡ (if t then al else ah) → b ≡ (if t then bl else bh) → r ≡ (if t then low else high) → IsPairAt pairs al bl low → IsPairAt pairs ah bh high → IsPairAt pairs a b r
pair_by pairs true a al ah b bl bh r low high e f g p q = subst (λ z. IsPairAt pairs z b r) (sym e) (subst (λ z. IsPairAt pairs al z r) (sym f) (subst (λ z. IsPairAt pairs al bl z) (sym g) p))
pair_by pairs false a al ah b bl bh r low high e f g p q = subst (λ z. IsPairAt pairs z b r) (sym e) (subst (λ z. IsPairAt pairs ah z r) (sym f) (subst (λ z. IsPairAt pairs ah bh z) (sym g) q))

pub paired_step : (d0 d1 d2 d3 : List Node) (s1 s2 : List ValuePair) (k a al ah b bl bh low high r : ℕ) → Extends d0 d1 → Extends d1 d2 → Extends d2 d3 → Extends s1 s2 → a < length d0 → b < length d0 → k ≡ min (tested_at d0 a) (tested_at d0 b) → AreParts d0 a k al ah → AreParts d0 b k bl bh → IsPaired d1 s1 al bl low → IsPaired d2 s2 ah bh high → IsSplit d3 k low high r → IsPaired d3 s2 a b r
paired_step d0 d1 d2 d3 s1 s2 k a al ah b bl bh low high r g1 g2 g3 e1 la lb e p q o s t =
    let g23 = extends_then d1 d2 d3 g2 g3 in
    let g = extends_then d0 d1 d3 g1 g23 in
    let n = extends_length d0 d3 g in
    let pa = tested_grows d0 d3 a g la in
    let pb = tested_grows d0 d3 b g lb in
    let z = t.order in
    let pl = paired_grows d1 d3 s1 s2 al bl low g23 e1 o in
    let ph = paired_grows d2 d3 s2 s2 ah bh high g3 (extends_none s2) s in
    let ba = split_grows d0 d3 k a al ah g p.by in
    let bb = split_grows d0 d3 k b bl bh g q.by in
    record {
      first = omega (arith, n, la);
      second = omega (arith, n, lb);
      below = t.below;
      value = λ val m h. pair_by s2 (bit_of h k == 0) (val a h) (val al h) (val ah h) (val b h) (val bl h) (val bh h) (val r h) (val low h) (val high h) (ba.value val m h) (bb.value val m h) (t.by.value val m h) (pl.value val m h) (ph.value val m h);
      order = rw (pa, pb, ← e) z;
    }

pub later_paired : (d0 d1 : List Node) (pairs : List ValuePair) (k a b r : ℕ) → Extends d0 d1 → IsLater d0 k a → IsLater d0 k b → IsPaired d1 pairs a b r → IsLater d1 k r
later_paired d0 d1 pairs k a b r g p q j =
    let pa = tested_grows d0 d1 a g p.below in
    let pb = tested_grows d0 d1 b g q.below in
    let x = p.behind in
    let y = q.behind in
    let o = j.order in
    record { below = j.below; within = p.within; behind = omega (arith, pa, pb, x, y, o) }
