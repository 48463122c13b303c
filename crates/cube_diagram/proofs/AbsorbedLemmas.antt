-- Functions of another table, with other numbers as values.
use Rattle.std.proofs.Common.{ℕ, zero, suc, ◌≡◌, ◌<◌, ◌+◌, inl, inr, ◌⊎◌, Bool, true, false, if◌then◌else◌, ◌==◌, List, [], ◌∷◌, ◌++◌, length, get_or, slice_get, Option, Some, refl, ap, sym, ◌∙◌, subst, arith}
use Rattle.std.specs.Option.{option_map}
use Rattle.std.proofs.lemmas.Option.{slice_get_read, slice_get_within}
use Rattle.hdr_bits.specs.Bits.{bit_of}
use Rattle.hdr_bits.specs.Lists.{Extends}
use Rattle.hdr_bits.proofs.ListLemmas.{extends_length}
use Rattle.cube_diagram.specs.declared.table.Node.{Node}
use Rattle.cube_diagram.specs.declared.table.Node.TheVariants.{Nothing, Value, Split}
use Rattle.cube_diagram.specs.Absorbed.{AreAbsorbed, IsAbsorbed, renumbered}
use Rattle.cube_diagram.specs.Combined.{IsSplit, IsLater}
use Rattle.cube_diagram.specs.Nodes.{tested_at, IsReduced}
use Rattle.cube_diagram.proofs.NodeLemmas.{model_grows, tested_grows, tested_read}

pub node_there : (source : List Node) (i : ℕ) (x y : Node) → i < length source → x ≡ get_or source i x → x ≡ y → slice_get source i ≡ Some y
node_there source i x y l e s = slice_get_read source (length source) i x refl l e ∙ ap Some s

pub count_more : (xs : List ℕ) (w i : ℕ) → length xs ≡ i → length (xs ++ w ∷ []) ≡ i + 1
count_more [] w i e = omega (arith, e)
count_more (x ∷ xs) w i e =
    let r : length (xs ++ w ∷ []) ≡ length xs + 1 = count_more xs w (length xs) refl in
    omega (arith, e, r)

pub read_at : (xs : List ℕ) (i d : ℕ) → i < length xs → slice_get xs i ≡ Some (get_or xs i d)
read_at [] i d l = absurd (omega arith)
read_at (x ∷ xs) zero d l = refl
read_at (x ∷ xs) (suc i) d l = read_at xs i d (omega arith)

module _ (source : List Node) (told : List ℕ) where
  pub absorbed_grows : (x y : List Node) (a r : ℕ) → Extends x y → IsAbsorbed source told x a r → IsAbsorbed source told y a r
  absorbed_grows x y a r g p =
      let l = extends_length x y g in
      let w = p.below in
      let pr = tested_grows x y r g w in
      let o = p.order in
      record {
        below = omega (arith, l, w);
        value = λ old val n m h. p.value old val n (model_grows x y g val m) h;
        order = rw pr o;
      }

  pub all_absorbed_grow : (x y : List Node) (numbers : List ℕ) → Extends x y → AreAbsorbed source told x numbers → AreAbsorbed source told y numbers
  all_absorbed_grow x y numbers g p = record { each = λ a r e. absorbed_grows x y a r g (p.each a r e) }

  pub absorbed_nothing : (nodes : List Node) (a : ℕ) → IsReduced nodes → slice_get source a ≡ Some Nothing → IsAbsorbed source told nodes a 0
  absorbed_nothing nodes a r e =
      let p = tested_read nodes 0 Nothing r.start in
      let q = tested_read source a Nothing e in
      record { below = slice_get_within nodes 0 Nothing r.start; value = λ old val n m h. m.equation 0 Nothing r.start h ∙ sym (ap (option_map (renumbered told)) (n.equation a Nothing e h)); order = omega (arith, p, q) }

  pub absorbed_value : (nodes : List Node) (a v w r : ℕ) → w ≡ renumbered told v → slice_get source a ≡ Some (Value v) → slice_get nodes r ≡ Some (Value w) → IsAbsorbed source told nodes a r
  absorbed_value nodes a v w r s e f =
      let p = tested_read nodes r (Value w) f in
      let q = tested_read source a (Value v) e in
      record {
        below = slice_get_within nodes r (Value w) f;
        value = λ old val n m h. m.equation r (Value w) f h ∙ (ap Some s ∙ sym (ap (option_map (renumbered told)) (n.equation a (Value v) e h)));
        order = omega (arith, p, q);
      }

  -- what a part became tests a bit behind that of the number
  pub absorbed_later : (nodes : List Node) (id k low high child r : ℕ) → IsReduced source → slice_get source id ≡ Some (Split k low high) → k < tested_at source child → IsAbsorbed source told nodes child r → IsLater nodes k r
  absorbed_later nodes id k low high child r w e l p =
      let o = p.order in
      let s = w.ordered id (Split k low high) e in
      record { below = p.below; within = s.0; behind = omega (arith, l, o) }

  chosen : (t : Bool) (x y u v : Option ℕ) → x ≡ option_map (renumbered told) u → y ≡ option_map (renumbered told) v → (if t then x else y) ≡ option_map (renumbered told) (if t then u else v)
  chosen true x y u v p q = p
  chosen false x y u v p q = q

  pub absorbed_step : (d1 d2 : List Node) (id k low high a b r : ℕ) → slice_get source id ≡ Some (Split k low high) → Extends d1 d2 → IsAbsorbed source told d1 low a → IsAbsorbed source told d1 high b → IsSplit d2 k a b r → IsAbsorbed source told d2 id r
  absorbed_step d1 d2 id k low high a b r e g p q s =
      let pl = absorbed_grows d1 d2 low a g p in
      let ph = absorbed_grows d1 d2 high b g q in
      let x = tested_read source id (Split k low high) e in
      let o = s.order in
      record {
        below = s.below;
        value = λ old val n m h.
            s.by.value val m h ∙ (chosen (bit_of h k == 0) (val a h) (val b h) (old low h) (old high h) (pl.value old val n m h) (ph.value old val n m h) ∙ sym (ap (option_map (renumbered told)) (n.equation id (Split k low high) e h)));
        order = omega (arith, x, o);
      }

  at_end : (xs : List ℕ) (w a r : ℕ) → slice_get (xs ++ w ∷ []) a ≡ Some r → (slice_get xs a ≡ Some r) ⊎ ((a ≡ length xs) × (w ≡ r))
  at_end [] w zero r e = let s : w ≡ r = cc in inr (refl, s)
  at_end [] w (suc a) r e = absurd cc
  at_end (x ∷ xs) w zero r e = inl e
  at_end (x ∷ xs) w (suc a) r e =
      elim (at_end xs w a r e) [
        | inl s ↦ inl s
        | inr s ↦ inr (ap suc s.0, s.1)
      ]

  -- a number more, that of the next position
  pub absorbed_more : (nodes : List Node) (numbers : List ℕ) (w : ℕ) → AreAbsorbed source told nodes numbers → IsAbsorbed source told nodes (length numbers) w → AreAbsorbed source told nodes (numbers ++ w ∷ [])
  absorbed_more nodes numbers w p q =
      record {
        each = λ a r e. elim (at_end numbers w a r e) [
          | inl s ↦ p.each a r s
          | inr s ↦ subst (λ z. IsAbsorbed source told nodes a z) s.1 (subst (λ z. IsAbsorbed source told nodes z w) (sym s.0) q)
        ];
      }
