-- Functions made of one other function.
use Rattle.std.proofs.Common.{ℕ, ◌≡◌, ◌<◌, ◌≤◌, inl, inr, ◌⊎◌, Bool, true, false, cond, if◌then◌else◌, ◌==◌, List, length, slice_get, Option, Some, None, refl, ap, sym, ◌∙◌, subst, arith, All, Contains}
use Rattle.std.proofs.lemmas.Bool.{cases_eq}
use Rattle.std.proofs.lemmas.Bool.Decides.{nat_tests}
use Rattle.cube_diagram.proofs.EntryLemmas.{test_zero, test_one}
use Rattle.cube_diagram.specs.declared.memo.Memo.{Memo}
use Rattle.cube_diagram.specs.declared.memo.Combination.{Combination}
use Rattle.cube_diagram.specs.declared.combine.Tables.{Tables}
use Rattle.std.proofs.lemmas.Option.{slice_get_within}
use Rattle.hdr_bits.specs.Bits.{bit_of}
use Rattle.hdr_bits.specs.declared.cube.Cube.{Cube}
use Rattle.cube_diagram.specs.declared.table.Node.{Node}
use Rattle.cube_diagram.specs.declared.table.Node.TheVariants.{Nothing, Value, Split}
use Rattle.hdr_bits.specs.Lists.{Extends}
use Rattle.cube_diagram.specs.Nodes.{tested_at, IsReduced}
use Rattle.cube_diagram.specs.Combined.{IsSound, IsSplit, IsLater}
use Rattle.cube_diagram.specs.Images.{if_value, IsPicked, IsPickedBy, IsWritten, AreWritten, IsCopied, AreCopied}
use Rattle.hdr_bits.proofs.ListLemmas.{extends_then, extends_length, extends_get}
use Rattle.cube_diagram.proofs.NodeLemmas.{model_grows, tested_grows, tested_read}
use Rattle.cube_diagram.proofs.CombineLemmas.{picked_grows, picked_more}

-- ---- where a function has a value
if_value_split : (v : ℕ) (t : Bool) (x y : Option ℕ) → if_value v (if t then x else y) ≡ (if t then if_value v x else if_value v y)
if_value_split v true x y = refl
if_value_split v false x y = refl

pub picked_nothing : (nodes : List Node) (a v : ℕ) → IsReduced nodes → slice_get nodes a ≡ Some Nothing → IsPicked nodes a v 0
picked_nothing nodes a v r e =
    let p = tested_read nodes 0 Nothing r.start in
    let q = tested_read nodes a Nothing e in
    record {
      from = slice_get_within nodes a Nothing e;
      below = slice_get_within nodes 0 Nothing r.start;
      value = λ val m h. let x : val a h ≡ None = m.equation a Nothing e h in m.equation 0 Nothing r.start h ∙ sym (ap (if_value v) x);
      order = omega (arith, p, q);
    }

pub picked_value : (nodes : List Node) (a v u : ℕ) → IsReduced nodes → slice_get nodes a ≡ Some (Value u) → (u == v) ≡ true → IsPicked nodes a v 1
picked_value nodes a v u r e t =
    let p = tested_read nodes 1 (Value 1) r.mark in
    let q = tested_read nodes a (Value u) e in
    record {
      from = slice_get_within nodes a (Value u) e;
      below = slice_get_within nodes 1 (Value 1) r.mark;
      value = λ val m h. let x : val a h ≡ Some u = m.equation a (Value u) e h in m.equation 1 (Value 1) r.mark h ∙ sym (ap (if_value v) x ∙ ap (λ z. if z then Some 1 else None) t);
      order = omega (arith, p, q);
    }

pub picked_other : (nodes : List Node) (a v u : ℕ) → IsReduced nodes → slice_get nodes a ≡ Some (Value u) → (u == v) ≡ false → IsPicked nodes a v 0
picked_other nodes a v u r e t =
    let p = tested_read nodes 0 Nothing r.start in
    let q = tested_read nodes a (Value u) e in
    record {
      from = slice_get_within nodes a (Value u) e;
      below = slice_get_within nodes 0 Nothing r.start;
      value = λ val m h. let x : val a h ≡ Some u = m.equation a (Value u) e h in m.equation 0 Nothing r.start h ∙ sym (ap (if_value v) x ∙ ap (λ z. if z then Some 1 else None) t);
      order = omega (arith, p, q);
    }

pub value_same : (u v : ℕ) → u ≡ v → (u == v) ≡ true
value_same u v e = grind (arith, nat_tests, e)

pub value_other : (u v : ℕ) → (u ≡ v → ⊥) → (u == v) ≡ false
value_other u v n = grind (arith, nat_tests, n)

pub with_picked : (t : Tables) (m : Memo) → IsSound t → (known : Combination) → IsPickedBy t.table.nodes.items known → All (λ c. (c ≡ known) ⊎ Contains t.picked.slots.items c) m.slots.items → IsSound (record t { picked = m })
with_picked t m s known k a =
    record {
      reduced = s.reduced;
      chained = s.chained;
      first = s.first;
      difference = s.difference;
      within = s.within;
      without = s.without;
      merged = s.merged;
      picked = picked_more t.table.nodes.items known t.picked.slots.items m.slots.items k s.picked a;
      entries = s.entries;
    }

-- the image of a part tests a bit behind that of the number
pub image_later : (d0 d1 : List Node) (k a r : ℕ) → IsLater d0 k a → Extends d0 d1 → r < length d1 → tested_at d1 a ≤ tested_at d1 r → IsLater d1 k r
image_later d0 d1 k a r p g l o =
    let q = tested_grows d0 d1 a g p.below in
    let b = p.behind in
    record { below = l; within = p.within; behind = omega (arith, q, b, o) }

pub split_grows : (a b : List Node) (k r low high : ℕ) → Extends a b → IsSplit a k low high r → IsSplit b k low high r
split_grows a b k r low high g s =
    let l = extends_length a b g in
    let w = s.below in
    let p = tested_grows a b r g w in
    let o = s.order in
    record { below = omega (arith, l, w); by = record { value = λ val m h. s.by.value val (model_grows a b g val m) h }; order = rw p o }

pub picked_step : (d0 d1 d2 d3 : List Node) (id v k low high a b r : ℕ) → slice_get d0 id ≡ Some (Split k low high) → Extends d0 d1 → Extends d1 d2 → Extends d2 d3 → IsPicked d1 low v a → IsPicked d2 high v b → IsSplit d3 k a b r → IsPicked d3 id v r
picked_step d0 d1 d2 d3 id v k low high a b r e g1 g2 g3 p q s =
    let f = extends_get d0 d3 id (Split k low high) (extends_then d0 d1 d3 g1 (extends_then d1 d2 d3 g2 g3)) e in
    let pl = picked_grows d1 d3 low v a (extends_then d1 d2 d3 g2 g3) p in
    let ph = picked_grows d2 d3 high v b g3 q in
    let x = tested_read d3 id (Split k low high) f in
    let o = s.order in
    record {
      from = slice_get_within d3 id (Split k low high) f;
      below = s.below;
      value = λ val m h. let t = bit_of h k == 0 in
          s.by.value val m h ∙ (ap (λ z. if t then z else val b h) (pl.value val m h) ∙ (ap (λ z. if t then if_value v (val low h) else z) (ph.value val m h) ∙ (sym (if_value_split v t (val low h) (val high h)) ∙ sym (ap (if_value v) (m.equation id (Split k low high) f h)))));
      order = omega (arith, x, o);
    }

-- ---- digits that are written into headers
same_choice : (t : Bool) (a b c d : Option ℕ) → a ≡ c → b ≡ d → (if t then a else b) ≡ (if t then c else d)
same_choice true a b c d p q = p
same_choice false a b c d p q = q

pub written_grows : (x y : List Node) (c : Cube) (a r : ℕ) → Extends x y → IsWritten x c a r → IsWritten y c a r
written_grows x y c a r g p =
    let l = extends_length x y g in
    let f = p.from in
    let w = p.below in
    let pa = tested_grows x y a g f in
    let pr = tested_grows x y r g w in
    let o = p.order in
    record {
      from = omega (arith, l, f);
      below = omega (arith, l, w);
      value = λ val m h n i. p.value val (model_grows x y g val m) h n i;
      order = rw (pa, pr) o;
    }

pub all_written_grows : (x y : List Node) (c : Cube) (known : ℕ → Option ℕ) → Extends x y → AreWritten x c known → AreWritten y c known
all_written_grows x y c known g p = record { each = λ a r e. written_grows x y c a r g (p.each a r e) }

pub written_flat : (nodes : List Node) (c : Cube) (a : ℕ) (x : Node) → slice_get nodes a ≡ Some x → ((k low high : ℕ) → x ≡ Split k low high → ⊥) → IsWritten nodes c a a
written_flat nodes c a Nothing e n =
    record { from = slice_get_within nodes a Nothing e; below = slice_get_within nodes a Nothing e; value = λ val m h g i. m.equation a Nothing e h ∙ sym (m.equation a Nothing e g); order = omega arith }
written_flat nodes c a (Value v) e n =
    record { from = slice_get_within nodes a (Value v) e; below = slice_get_within nodes a (Value v) e; value = λ val m h g i. m.equation a (Value v) e h ∙ sym (m.equation a (Value v) e g); order = omega arith }
written_flat nodes c a (Split k low high) e n = absurd (n k low high refl)

pub written_one : (d0 d1 : List Node) (c : Cube) (id k low high r : ℕ) → IsReduced d0 → slice_get d0 id ≡ Some (Split k low high) → Extends d0 d1 → bit_of c.fixed k ≡ 1 → bit_of c.bits k ≡ 1 → IsWritten d1 c high r → IsWritten d1 c id r
written_one d0 d1 c id k low high r w e g f b p =
    let s = w.ordered id (Split k low high) e in
    let t = w.below id (Split k low high) e in
    let l = slice_get_within d0 id (Split k low high) e in
    let t1 = t.1 in
    let s2 = s.2 in
    let e1 = extends_get d0 d1 id (Split k low high) g e in
    let x = tested_read d1 id (Split k low high) e1 in
    let y = tested_grows d0 d1 high g (omega (arith, t1, l)) in
    let o = p.order in
    record {
      from = slice_get_within d1 id (Split k low high) e1;
      below = p.below;
      value = λ val m h n i. p.value val m h n i ∙ sym (m.equation id (Split k low high) e1 n ∙ ap (λ z. if z then val low n else val high n) (test_one (bit_of n k) ((i k s.0).0 f ∙ b)));
      order = omega (arith, x, y, o, s2);
    }

pub written_zero : (d0 d1 : List Node) (c : Cube) (id k low high r : ℕ) → IsReduced d0 → slice_get d0 id ≡ Some (Split k low high) → Extends d0 d1 → bit_of c.fixed k ≡ 1 → bit_of c.bits k ≡ 0 → IsWritten d1 c low r → IsWritten d1 c id r
written_zero d0 d1 c id k low high r w e g f b p =
    let s = w.ordered id (Split k low high) e in
    let t = w.below id (Split k low high) e in
    let l = slice_get_within d0 id (Split k low high) e in
    let t0 = t.0 in
    let s1 = s.1 in
    let e1 = extends_get d0 d1 id (Split k low high) g e in
    let x = tested_read d1 id (Split k low high) e1 in
    let y = tested_grows d0 d1 low g (omega (arith, t0, l)) in
    let o = p.order in
    record {
      from = slice_get_within d1 id (Split k low high) e1;
      below = p.below;
      value = λ val m h n i. p.value val m h n i ∙ sym (m.equation id (Split k low high) e1 n ∙ ap (λ z. if z then val low n else val high n) (test_zero (bit_of n k) ((i k s.0).0 f ∙ b)));
      order = omega (arith, x, y, o, s1);
    }

pub written_step : (d0 d1 d2 d3 : List Node) (c : Cube) (id k low high a b r : ℕ) → IsReduced d0 → slice_get d0 id ≡ Some (Split k low high) → Extends d0 d1 → Extends d1 d2 → Extends d2 d3 → bit_of c.fixed k ≡ 0 → IsWritten d1 c low a → IsWritten d2 c high b → IsSplit d3 k a b r → IsWritten d3 c id r
written_step d0 d1 d2 d3 c id k low high a b r w e g1 g2 g3 f p q s =
    let pl = written_grows d1 d3 c low a (extends_then d1 d2 d3 g2 g3) p in
    let ph = written_grows d2 d3 c high b g3 q in
    let e3 = extends_get d0 d3 id (Split k low high) (extends_then d0 d1 d3 g1 (extends_then d1 d2 d3 g2 g3)) e in
    let x = tested_read d3 id (Split k low high) e3 in
    let o = s.order in
    let v = w.ordered id (Split k low high) e in
    record {
      from = slice_get_within d3 id (Split k low high) e3;
      below = s.below;
      value = λ val m h n i.
          s.by.value val m h ∙ (same_choice (bit_of h k == 0) (val a h) (val b h) (val low n) (val high n) (pl.value val m h n i) (ph.value val m h n i) ∙ sym (m.equation id (Split k low high) e3 n ∙ ap (λ z. if z == 0 then val low n else val high n) ((i k v.0).1 f)));
      order = omega (arith, x, o);
    }

-- ---- what is known of other numbers
some_same : (v w : ℕ) → Some v ≡ Some w → v ≡ w
some_same v w e = cc

pub inserted : (f g : ℕ → Option ℕ) (k w a r : ℕ) → g a ≡ cond (k == a) (Some w) (f a) → g a ≡ Some r → ((k ≡ a) × (w ≡ r)) ⊎ (f a ≡ Some r)
inserted f g k w a r u e =
    elim (cases_eq k a) [
      | inl s ↦ inl (s, some_same w r (sym (ap (λ b. cond b (Some w) (f a)) (value_same k a s)) ∙ (sym u ∙ e)))
      | inr n ↦ inr (sym (ap (λ b. cond b (Some w) (f a)) (value_other k a n)) ∙ (sym u ∙ e))
    ]

pub written_inserted : (nodes : List Node) (c : Cube) (f g : ℕ → Option ℕ) (k w : ℕ) → ((a : ℕ) → g a ≡ cond (k == a) (Some w) (f a)) → AreWritten nodes c f → IsWritten nodes c k w → AreWritten nodes c g
written_inserted nodes c f g k w u p q =
    record {
      each = λ a r e. elim (inserted f g k w a r (u a) e) [
        | inl s ↦ subst (λ z. IsWritten nodes c z r) s.0 (subst (λ z. IsWritten nodes c k z) s.1 q)
        | inr s ↦ p.each a r s
      ];
    }

-- ---- functions of another table
pub copied_grows : (source x y : List Node) (a r : ℕ) → Extends x y → IsCopied source x a r → IsCopied source y a r
copied_grows source x y a r g p =
    let l = extends_length x y g in
    let w = p.below in
    let pr = tested_grows x y r g w in
    let o = p.order in
    record {
      below = omega (arith, l, w);
      value = λ old val n m h. p.value old val n (model_grows x y g val m) h;
      order = rw pr o;
    }

pub all_copied_grows : (source x y : List Node) (known : ℕ → Option ℕ) → Extends x y → AreCopied source x known → AreCopied source y known
all_copied_grows source x y known g p = record { each = λ a r e. copied_grows source x y a r g (p.each a r e) }

pub copied_inserted : (source nodes : List Node) (f g : ℕ → Option ℕ) (k w : ℕ) → ((a : ℕ) → g a ≡ cond (k == a) (Some w) (f a)) → AreCopied source nodes f → IsCopied source nodes k w → AreCopied source nodes g
copied_inserted source nodes f g k w u p q =
    record {
      each = λ a r e. elim (inserted f g k w a r (u a) e) [
        | inl s ↦ subst (λ z. IsCopied source nodes z r) s.0 (subst (λ z. IsCopied source nodes k z) s.1 q)
        | inr s ↦ p.each a r s
      ];
    }

pub copied_nothing : (source nodes : List Node) (a : ℕ) → IsReduced nodes → slice_get source a ≡ Some Nothing → IsCopied source nodes a 0
copied_nothing source nodes a r e =
    let p = tested_read nodes 0 Nothing r.start in
    let q = tested_read source a Nothing e in
    record { below = slice_get_within nodes 0 Nothing r.start; value = λ old val n m h. m.equation 0 Nothing r.start h ∙ sym (n.equation a Nothing e h); order = omega (arith, p, q) }

pub copied_value : (source nodes : List Node) (a v r : ℕ) → slice_get source a ≡ Some (Value v) → slice_get nodes r ≡ Some (Value v) → IsCopied source nodes a r
copied_value source nodes a v r e f =
    let p = tested_read nodes r (Value v) f in
    let q = tested_read source a (Value v) e in
    record { below = slice_get_within nodes r (Value v) f; value = λ old val n m h. m.equation r (Value v) f h ∙ sym (n.equation a (Value v) e h); order = omega (arith, p, q) }

-- the copy of a part tests a bit behind that of the number
pub copy_later : (source nodes : List Node) (id k low high child r : ℕ) → IsReduced source → slice_get source id ≡ Some (Split k low high) → k < tested_at source child → IsCopied source nodes child r → IsLater nodes k r
copy_later source nodes id k low high child r w e l p =
    let o = p.order in
    let s = w.ordered id (Split k low high) e in
    record { below = p.below; within = s.0; behind = omega (arith, l, o) }

pub copied_step : (source d1 d2 d3 : List Node) (id k low high a b r : ℕ) → slice_get source id ≡ Some (Split k low high) → Extends d1 d2 → Extends d2 d3 → IsCopied source d1 low a → IsCopied source d2 high b → IsSplit d3 k a b r → IsCopied source d3 id r
copied_step source d1 d2 d3 id k low high a b r e g2 g3 p q s =
    let pl = copied_grows source d1 d3 low a (extends_then d1 d2 d3 g2 g3) p in
    let ph = copied_grows source d2 d3 high b g3 q in
    let x = tested_read source id (Split k low high) e in
    let o = s.order in
    record {
      below = s.below;
      value = λ old val n m h.
          s.by.value val m h ∙ (same_choice (bit_of h k == 0) (val a h) (val b h) (old low h) (old high h) (pl.value old val n m h) (ph.value old val n m h) ∙ sym (n.equation id (Split k low high) e h));
      order = omega (arith, x, o);
    }
