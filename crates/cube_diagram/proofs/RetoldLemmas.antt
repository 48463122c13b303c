-- A function whose values are told anew.
use Rattle.std.proofs.Common.{ℕ, ◌≡◌, inl, inr, cond, true, false, Bool, if◌then◌else◌, ◌==◌, List, slice_get, Option, Some, None, refl, ap, sym, ◌∙◌, subst, arith}
use Rattle.std.proofs.lemmas.Option.{slice_get_within}
use Rattle.hdr_bits.specs.Bits.{bit_of}
use Rattle.hdr_bits.specs.Lists.{Extends}
use Rattle.hdr_bits.proofs.ListLemmas.{extends_then, extends_length, extends_get}
use Rattle.cube_diagram.specs.declared.table.Node.{Node}
use Rattle.cube_diagram.specs.declared.table.Node.TheVariants.{Nothing, Value, Split}
use Rattle.cube_diagram.specs.Nodes.{IsReduced}
use Rattle.cube_diagram.specs.Combined.{IsSplit}
use Rattle.cube_diagram.specs.Images.{retold, IsRetold, AreRetold, IsConstant}
use Rattle.cube_diagram.proofs.NodeLemmas.{model_grows, tested_grows, tested_read}
use Rattle.cube_diagram.proofs.ImageLemmas.{inserted}

-- ---- one value for all headers
pub constant_nothing : (nodes : List Node) → IsReduced nodes → IsConstant nodes None 0
constant_nothing nodes r =
    record { below = slice_get_within nodes 0 Nothing r.start; value = λ val m h. m.equation 0 Nothing r.start h; order = (let p = tested_read nodes 0 Nothing r.start in omega (arith, p)) }

pub constant_value : (nodes : List Node) (v r : ℕ) → slice_get nodes r ≡ Some (Value v) → IsConstant nodes (Some v) r
constant_value nodes v r e =
    record { below = slice_get_within nodes r (Value v) e; value = λ val m h. m.equation r (Value v) e h; order = (let p = tested_read nodes r (Value v) e in omega (arith, p)) }

-- ---- values told anew
pub retold_nothing : (nodes : List Node) (told : List (Option ℕ)) (a : ℕ) → IsReduced nodes → slice_get nodes a ≡ Some Nothing → IsRetold nodes told a 0
retold_nothing nodes told a r e =
    let p = tested_read nodes 0 Nothing r.start in
    let q = tested_read nodes a Nothing e in
    record {
      from = slice_get_within nodes a Nothing e;
      below = slice_get_within nodes 0 Nothing r.start;
      value = λ val m h. m.equation 0 Nothing r.start h ∙ sym (ap (retold told) (m.equation a Nothing e h));
      order = omega (arith, p, q);
    }

pub retold_value : (d0 d1 : List Node) (told : List (Option ℕ)) (a v r : ℕ) → Extends d0 d1 → slice_get d0 a ≡ Some (Value v) → IsConstant d1 (retold told (Some v)) r → IsRetold d1 told a r
retold_value d0 d1 told a v r g e c =
    let f = extends_get d0 d1 a (Value v) g e in
    let q = tested_read d1 a (Value v) f in
    let o = c.order in
    record {
      from = slice_get_within d1 a (Value v) f;
      below = c.below;
      value = λ val m h. c.value val m h ∙ sym (ap (retold told) (m.equation a (Value v) f h));
      order = omega (arith, q, o);
    }

pub retold_grows : (x y : List Node) (told : List (Option ℕ)) (a r : ℕ) → Extends x y → IsRetold x told a r → IsRetold y told a r
retold_grows x y told a r g p =
    let l = extends_length x y g in
    let f = p.from in
    let w = p.below in
    let pa = tested_grows x y a g f in
    let pr = tested_grows x y r g w in
    let o = p.order in
    record { from = omega (arith, l, f); below = omega (arith, l, w); value = λ val m h. p.value val (model_grows x y g val m) h; order = rw (pa, pr) o }

pub all_retold_grows : (x y : List Node) (told : List (Option ℕ)) (known : ℕ → Option ℕ) → Extends x y → AreRetold x told known → AreRetold y told known
all_retold_grows x y told known g p = record { each = λ a r e. retold_grows x y told a r g (p.each a r e) }

retold_split : (told : List (Option ℕ)) (t : Bool) (x y : Option ℕ) → retold told (if t then x else y) ≡ (if t then retold told x else retold told y)
retold_split told true x y = refl
retold_split told false x y = refl

pub retold_step : (d0 d1 d2 d3 : List Node) (told : List (Option ℕ)) (id k low high a b r : ℕ) → slice_get d0 id ≡ Some (Split k low high) → Extends d0 d1 → Extends d1 d2 → Extends d2 d3 → IsRetold d1 told low a → IsRetold d2 told high b → IsSplit d3 k a b r → IsRetold d3 told id r
retold_step d0 d1 d2 d3 told id k low high a b r e g1 g2 g3 p q s =
    let f = extends_get d0 d3 id (Split k low high) (extends_then d0 d1 d3 g1 (extends_then d1 d2 d3 g2 g3)) e in
    let pl = retold_grows d1 d3 told low a (extends_then d1 d2 d3 g2 g3) p in
    let ph = retold_grows d2 d3 told high b g3 q in
    let x = tested_read d3 id (Split k low high) f in
    let o = s.order in
    record {
      from = slice_get_within d3 id (Split k low high) f;
      below = s.below;
      value = λ val m h. let t = bit_of h k == 0 in
          s.by.value val m h ∙ (ap (λ z. if t then z else val b h) (pl.value val m h) ∙ (ap (λ z. if t then retold told (val low h) else z) (ph.value val m h) ∙ (sym (retold_split told t (val low h) (val high h)) ∙ sym (ap (retold told) (m.equation id (Split k low high) f h)))));
      order = omega (arith, x, o);
    }

pub retold_inserted : (nodes : List Node) (told : List (Option ℕ)) (f g : ℕ → Option ℕ) (k w : ℕ) → ((a : ℕ) → g a ≡ cond (k == a) (Some w) (f a)) → AreRetold nodes told f → IsRetold nodes told k w → AreRetold nodes told g
retold_inserted nodes told f g k w u p q =
    record {
      each = λ a r e. elim (inserted f g k w a r (u a) e) [
        | inl s ↦ subst (λ z. IsRetold nodes told z r) s.0 (subst (λ z. IsRetold nodes told k z) s.1 q)
        | inr s ↦ p.each a r s
      ];
    }
