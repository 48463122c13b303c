use Rattle.std.proofs.Common.{ℕ, zero, suc, ◌+◌, ◌^◌, ◌<◌, ◌≡◌, inl, inr, Bool, true, false, List, [], ◌∷◌, map, Some, slice_get, refl, sym, ap, ◌∙◌, subst, arith, true≢false}
use Rattle.std.specs.List.{IsDistinct}
use Rattle.std.proofs.lemmas.Bool.{cases_order}
use Rattle.std.proofs.lemmas.Option.{slice_get_within, get_or_from_slice_get}
use Rattle.std.proofs.lemmas.Map.Keys.{apart_from_distinct}
use Rattle.canon_rows.specs.declared.table.Node.{Node}
use Rattle.canon_rows.specs.declared.table.Node.TheVariants.{Halves}
use Rattle.canon_rows.specs.PlainRows.{Plain, with_zero, with_one, whole, IsWellFormed, Each}
use Rattle.hdr_bits.specs.Lists.{Extends}
use Rattle.hdr_bits.proofs.ListLemmas.{extends_get}
use Rattle.canon_rows.specs.Nodes.{one_row, Tells, HasEntry, IsCutAt, IsCut, StandsFor, AreDistinct}
use Rattle.canon_rows.proofs.RowRecursion.{Each-append, Each-map, Each-weaker, IsWellFormed-star, IsWellFormed-low, IsWellFormed-high}

-- ---- a table that grows
pub tells_more : (C D : Node → List Plain → Type 0) (x : Node) (r : List Plain) → (C x r → D x r) → Tells C x r → Tells D x r
tells_more C D x [] h p = p
tells_more C D x (t ∷ []) h p = p
tells_more C D x (t ∷ u ∷ ts) h p = h p

pub entry_more : (old new : List Node) (C D : Node → List Plain → Type 0) (id : ℕ) (r : List Plain) → Extends old new → ((x : Node) → C x r → D x r) → HasEntry old C id r → HasEntry new D id r
entry_more old new C D id r g h s =
    record { node = s.node; entry = extends_get old new id s.node g s.entry; tells = tells_more C D s.node r (h s.node) s.tells }

pub cut_grows : (w : ℕ) (old new : List Node) → Extends old new → (x : Node) (r : List Plain) → IsCut old w x r → IsCut new w x r
unfolding IsCut
cut_grows zero old new g x r p = p
cut_grows (suc m) old new g x r p =
    elim p [
      | inl q ↦ inl (cut_grows m old new g x r q)
      | inr q ↦ inr (record {
        low = q.low;
        high = q.high;
        zeros = q.zeros;
        ones = q.ones;
        is = q.is;
        both = q.both;
        low_stands = entry_more old new (IsCut old m) (IsCut new m) q.low q.zeros g (λ y. cut_grows m old new g y q.zeros) q.low_stands;
        high_stands = entry_more old new (IsCut old m) (IsCut new m) q.high q.ones g (λ y. cut_grows m old new g y q.ones) q.high_stands;
        low_fits = q.low_fits;
        high_fits = q.high_fits;
      })
    ]

pub stands_grows : (w : ℕ) (old new : List Node) (id : ℕ) (r : List Plain) → Extends old new → StandsFor old w id r → StandsFor new w id r
stands_grows w old new id r g s = entry_more old new (IsCut old w) (IsCut new w) id r g (λ x. cut_grows w old new g x r) s

cut_wider : (m : ℕ) (nodes : List Node) (x : Node) (r : List Plain) → IsCut nodes m x r → IsCut nodes (suc m) x r
unfolding IsCut
cut_wider m nodes x r p = inl p

pub stands_wider : (m : ℕ) (nodes : List Node) (id : ℕ) (r : List Plain) → StandsFor nodes m id r → StandsFor nodes (suc m) id r
stands_wider m nodes id r s =
    record { node = s.node; entry = s.entry; tells = tells_more (IsCut nodes m) (IsCut nodes (suc m)) s.node r (cut_wider m nodes s.node r) s.tells }

-- ---- a node that is cut
pub record HasHalves (w : ℕ) (x : Node) : Type 0 where
  pub shift : ℕ
  pub low : ℕ
  pub high : ℕ
  pub within : shift < w
  pub is : x ≡ Halves shift low high

pub cut_has_halves : (w : ℕ) (nodes : List Node) (x : Node) (r : List Plain) → IsCut nodes w x r → HasHalves w x
unfolding IsCut
cut_has_halves zero nodes x r p = absurd p
cut_has_halves (suc m) nodes x r p =
    elim p [
      | inl q ↦ let h = cut_has_halves m nodes x r q in
          let l = h.within in
          record { shift = h.shift; low = h.low; high = h.high; within = omega arith; is = h.is }
      | inr q ↦ record { shift = m; low = q.low; high = q.high; within = omega arith; is = q.is }
    ]

same_digit_at : (k m a b c d : ℕ) → Halves k a b ≡ Halves m c d → k ≡ m
same_digit_at k m a b c d e = cc

same_low : (k m a b c d : ℕ) → Halves k a b ≡ Halves m c d → a ≡ c
same_low k m a b c d e = cc

same_high : (k m a b c d : ℕ) → Halves k a b ≡ Halves m c d → b ≡ d
same_high k m a b c d e = cc

not_below : (m : ℕ) (x : Node) (low high : ℕ) → HasHalves m x → x ≡ Halves m low high → ⊥
not_below m x low high h e =
    let l = h.within in
    let p = same_digit_at h.shift m h.low h.high low high (sym h.is ∙ e) in
    absurd (omega arith)

-- the halves of a node that is cut at this bit
pub cut_at : (w : ℕ) (nodes : List Node) (k low high : ℕ) (r : List Plain) → IsCut nodes w (Halves k low high) r → IsCutAt (HasEntry nodes (IsCut nodes k)) k (Halves k low high) r
unfolding IsCut
cut_at zero nodes k low high r p = absurd p
cut_at (suc m) nodes k low high r p =
    elim p [
      | inl q ↦ cut_at m nodes k low high r q
      | inr q ↦ subst (λ j. IsCutAt (HasEntry nodes (IsCut nodes j)) j (Halves k low high) r) (sym (same_digit_at k m low high q.low q.high q.is)) q
    ]

-- ---- one number, one list of rows
pub same_plain : (t u : Plain) → t.fixed ≡ u.fixed → t.bits ≡ u.bits → t.value ≡ u.value → t ≡ u
same_plain t u f b v = λ i. record { fixed = f i; bits = b i; value = v i }

same_row : (t u : Plain) → one_row t ≡ one_row u → t ≡ u
same_row t u e =
    let f : t.fixed ≡ u.fixed = cc in
    let b : t.bits ≡ u.bits = cc in
    let v : t.value ≡ u.value = cc in
    same_plain t u f b v

tells_same : (w : ℕ) (C : Node → List Plain → Type 0) (x : Node) (a b : List Plain) → ((r : List Plain) → C x r → HasHalves w x) → (C x a → C x b → a ≡ b) → Tells C x a → Tells C x b → a ≡ b
tells_same w C x [] [] h s p q = refl
tells_same w C x [] (u ∷ []) h s p q = absurd cc
tells_same w C x [] (u ∷ v ∷ vs) h s p q = let e = (h (u ∷ v ∷ vs) q).is in absurd cc
tells_same w C x (t ∷ []) [] h s p q = absurd cc
tells_same w C x (t ∷ []) (u ∷ []) h s p q = ap (λ y. y ∷ []) (same_row t u (sym p ∙ q))
tells_same w C x (t ∷ []) (u ∷ v ∷ vs) h s p q = let e = (h (u ∷ v ∷ vs) q).is in absurd cc
tells_same w C x (t ∷ r ∷ ts) [] h s p q = let e = (h (t ∷ r ∷ ts) p).is in absurd cc
tells_same w C x (t ∷ r ∷ ts) (u ∷ []) h s p q = let e = (h (t ∷ r ∷ ts) p).is in absurd cc
tells_same w C x (t ∷ r ∷ ts) (u ∷ v ∷ vs) h s p q = s p q

some_same : (x y : Node) → Some x ≡ Some y → x ≡ y
some_same x y e = cc

entry_same : (w : ℕ) (nodes : List Node) (C : Node → List Plain → Type 0) (i j : ℕ) (a b : List Plain) → ((x : Node) (r : List Plain) → C x r → HasHalves w x) → ((x : Node) → C x a → C x b → a ≡ b) → i ≡ j → HasEntry nodes C i a → HasEntry nodes C j b → a ≡ b
entry_same w nodes C i j a b h s e p q =
    let n : p.node ≡ q.node = some_same p.node q.node (sym p.entry ∙ (ap (slice_get nodes) e ∙ q.entry)) in
    tells_same w C q.node a b (h q.node) (s q.node) (subst (λ x. Tells C x a) n p.tells) q.tells

cut_same : (w : ℕ) (nodes : List Node) (x : Node) (a b : List Plain) → IsCut nodes w x a → IsCut nodes w x b → a ≡ b
unfolding IsCut
cut_same zero nodes x a b p q = absurd p
cut_same (suc m) nodes x a b p q =
    elim p [
      | inl c ↦ elim q [ inl d ↦ cut_same m nodes x a b c d | inr d ↦ absurd (not_below m x d.low d.high (cut_has_halves m nodes x a c) d.is) ]
      | inr c ↦ elim q [
        | inl d ↦ absurd (not_below m x c.low c.high (cut_has_halves m nodes x b d) c.is)
        | inr d ↦ let e = sym c.is ∙ d.is in
            let f = entry_same m nodes (IsCut nodes m) c.low d.low c.zeros d.zeros (cut_has_halves m nodes) (λ y. cut_same m nodes y c.zeros d.zeros) (same_low m m c.low c.high d.low d.high e) c.low_stands d.low_stands in
            let g = entry_same m nodes (IsCut nodes m) c.high d.high c.ones d.ones (cut_has_halves m nodes) (λ y. cut_same m nodes y c.ones d.ones) (same_high m m c.low c.high d.low d.high e) c.high_stands d.high_stands in
            c.both ∙ (ap (λ z. whole m z c.ones) f ∙ (ap (whole m d.zeros) g ∙ sym d.both))
      ]
    ]

pub stands_same : (w : ℕ) (nodes : List Node) (i j : ℕ) (a b : List Plain) → i ≡ j → StandsFor nodes w i a → StandsFor nodes w j b → a ≡ b
stands_same w nodes i j a b e p q =
    entry_same w nodes (IsCut nodes w) i j a b (cut_has_halves w nodes) (λ x. cut_same w nodes x a b) e p q

-- ---- the rows of a whole tell those of its halves
zero_back : (m : ℕ) (t u : Plain) → with_zero m t ≡ with_zero m u → t ≡ u
zero_back m t u e =
    let f : t.fixed + 2 ^ m ≡ u.fixed + 2 ^ m = ap (λ x. x.fixed) e in
    let f' : t.fixed ≡ u.fixed = omega arith in
    let b : t.bits ≡ u.bits = ap (λ x. x.bits) e in
    let v : t.value ≡ u.value = ap (λ x. x.value) e in
    same_plain t u f' b v

one_back : (m : ℕ) (t u : Plain) → with_one m t ≡ with_one m u → t ≡ u
one_back m t u e =
    let f : t.fixed + 2 ^ m ≡ u.fixed + 2 ^ m = ap (λ x. x.fixed) e in
    let f' : t.fixed ≡ u.fixed = omega arith in
    let b : t.bits + 2 ^ m ≡ u.bits + 2 ^ m = ap (λ x. x.bits) e in
    let b' : t.bits ≡ u.bits = omega arith in
    let v : t.value ≡ u.value = ap (λ x. x.value) e in
    same_plain t u f' b' v

ones_back : (m : ℕ) (xs ys : List Plain) → map (with_one m) xs ≡ map (with_one m) ys → xs ≡ ys
ones_back m [] [] e = refl
ones_back m [] (y ∷ ys) e = absurd cc
ones_back m (x ∷ xs) [] e = absurd cc
ones_back m (x ∷ xs) (y ∷ ys) e =
    let h : with_one m x ≡ with_one m y = cc in
    let t : map (with_one m) xs ≡ map (with_one m) ys = cc in
    let h' = one_back m x y h in
    let t' = ones_back m xs ys t in
    cc

zero_is_no_one : (m : ℕ) (t u : Plain) → t.bits < 2 ^ m → with_zero m t ≡ with_one m u → ⊥
zero_is_no_one m t u l e =
    let b : t.bits ≡ u.bits + 2 ^ m = ap (λ x. x.bits) e in
    absurd (omega arith)

zeros_no_ones : (m : ℕ) (x : Plain) (xs b c : List Plain) → x.bits < 2 ^ m → whole m (x ∷ xs) b ≡ map (with_one m) c → ⊥
zeros_no_ones m x xs b [] l e = absurd cc
zeros_no_ones m x xs b (y ∷ c) l e = let h : with_zero m x ≡ with_one m y = cc in zero_is_no_one m x y l h

pub whole_back : (m : ℕ) (a b c d : List Plain) → Each (IsWellFormed m) a → Each (IsWellFormed m) c → whole m a b ≡ whole m c d → (a ≡ c) × (b ≡ d)
whole_back m [] b [] d p q e = (refl, ones_back m b d e)
whole_back m [] b (y ∷ ys) d p q e = absurd (zeros_no_ones m y ys d b q.0.small (sym e))
whole_back m (x ∷ xs) b [] d p q e = absurd (zeros_no_ones m x xs b d p.0.small e)
whole_back m (x ∷ xs) b (y ∷ ys) d p q e =
    let h : with_zero m x ≡ with_zero m y = cc in
    let t : whole m xs b ≡ whole m ys d = cc in
    let h' = zero_back m x y h in
    let r = whole_back m xs b ys d p.1 q.1 t in
    let s = r.0 in
    (cc, r.1)

-- a row with a digit at the bit of weight 2 ^ m is no cube of the bits after it
first_is_below : (m : ℕ) (t : Plain) (ts a b : List Plain) → t ∷ ts ≡ whole m a b → t.fixed < 2 ^ m → ⊥
first_is_below m t ts [] [] e l = absurd cc
first_is_below m t ts [] (y ∷ b) e l =
    let h : t ≡ with_one m y = cc in
    let f : t.fixed ≡ y.fixed + 2 ^ m = ap (λ x. x.fixed) h in
    absurd (omega arith)
first_is_below m t ts (x ∷ a) b e l =
    let h : t ≡ with_zero m x = cc in
    let f : t.fixed ≡ x.fixed + 2 ^ m = ap (λ x. x.fixed) h in
    absurd (omega arith)

pub whole_fits : (m : ℕ) (a b : List Plain) → Each (IsWellFormed m) a → Each (IsWellFormed m) b → Each (IsWellFormed (suc m)) (whole m a b)
whole_fits m a b p q =
    Each-append (IsWellFormed (suc m)) (map (with_zero m) a) (map (with_one m) b) (Each-map (IsWellFormed m) (IsWellFormed (suc m)) (with_zero m) (IsWellFormed-low m) a p) (Each-map (IsWellFormed m) (IsWellFormed (suc m)) (with_one m) (IsWellFormed-high m) b q)

cut_fits : (w : ℕ) (nodes : List Node) (x : Node) (r : List Plain) → IsCut nodes w x r → Each (IsWellFormed w) r
unfolding IsCut
cut_fits zero nodes x r p = absurd p
cut_fits (suc m) nodes x r p =
    elim p [
      | inl q ↦ Each-weaker (IsWellFormed m) (IsWellFormed (suc m)) (IsWellFormed-star m) r (cut_fits m nodes x r q)
      | inr q ↦ subst (Each (IsWellFormed (suc m))) (sym q.both) (whole_fits m q.zeros q.ones q.low_fits q.high_fits)
    ]

-- ---- one list of rows, one number
pub distinct_from : (e : Node → Node → Bool) → ((x : Node) → e x x ≡ true) → (nodes : List Node) → IsDistinct e nodes → AreDistinct nodes
distinct_from e own nodes d =
    record {
      apart = λ i j x p q. elim (cases_order i j) [
        | inl s ↦ s
        | inr o ↦ elim o [
          | inl l ↦ let a = apart_from_distinct e nodes i j x d l (slice_get_within nodes j x q) in
              let b = get_or_from_slice_get nodes i x x p in
              let c = get_or_from_slice_get nodes j x x q in
              let f : e x x ≡ false = rw (b, c) at a in
              absurd (true≢false (sym (own x) ∙ f))
          | inr l ↦ let a = apart_from_distinct e nodes j i x d l (slice_get_within nodes i x p) in
              let b = get_or_from_slice_get nodes i x x p in
              let c = get_or_from_slice_get nodes j x x q in
              let f : e x x ≡ false = rw (b, c) at a in
              absurd (true≢false (sym (own x) ∙ f))
        ]
      ];
    }

tells_one : (C : Node → List Plain → Type 0) (x y : Node) (r : List Plain) → ((t : Plain) (ts : List Plain) → r ≡ t ∷ ts → C x r → C y r → x ≡ y) → Tells C x r → Tells C y r → x ≡ y
tells_one C x y [] h p q = p ∙ sym q
tells_one C x y (t ∷ []) h p q = p ∙ sym q
tells_one C x y (t ∷ u ∷ ts) h p q = h t (u ∷ ts) refl p q

entry_one : (nodes : List Node) → AreDistinct nodes → (C : Node → List Plain → Type 0) (i j : ℕ) (r : List Plain) → ((x y : Node) (t : Plain) (ts : List Plain) → r ≡ t ∷ ts → C x r → C y r → x ≡ y) → HasEntry nodes C i r → HasEntry nodes C j r → i ≡ j
entry_one nodes d C i j r h p q =
    d.apart i j q.node (p.entry ∙ ap Some (tells_one C p.node q.node r (h p.node q.node) p.tells q.tells)) q.entry

cut_one : (nodes : List Node) → AreDistinct nodes → (w : ℕ) (r : List Plain) (x y : Node) (t : Plain) (ts : List Plain) → r ≡ t ∷ ts → IsCut nodes w x r → IsCut nodes w y r → x ≡ y
unfolding IsCut
cut_one nodes d zero r x y t ts e p q = absurd p
cut_one nodes d (suc m) r x y t ts e p q =
    elim p [
      | inl c ↦ elim q [ inl f ↦ cut_one nodes d m r x y t ts e c f | inr f ↦ absurd (first_is_below m t ts f.zeros f.ones (sym e ∙ f.both) (subst (Each (IsWellFormed m)) e (cut_fits m nodes x r c)).0.below) ]
      | inr c ↦ elim q [
        | inl f ↦ absurd (first_is_below m t ts c.zeros c.ones (sym e ∙ c.both) (subst (Each (IsWellFormed m)) e (cut_fits m nodes y r f)).0.below)
        | inr f ↦ let b = whole_back m c.zeros c.ones f.zeros f.ones c.low_fits f.low_fits (sym c.both ∙ f.both) in
            let l = entry_one nodes d (IsCut nodes m) c.low f.low f.zeros (cut_one nodes d m f.zeros) (subst (HasEntry nodes (IsCut nodes m) c.low) b.0 c.low_stands) f.low_stands in
            let h = entry_one nodes d (IsCut nodes m) c.high f.high f.ones (cut_one nodes d m f.ones) (subst (HasEntry nodes (IsCut nodes m) c.high) b.1 c.high_stands) f.high_stands in
            c.is ∙ (ap (λ k. Halves m k c.high) l ∙ (ap (Halves m f.low) h ∙ sym f.is))
      ]
    ]

pub stands_one : (nodes : List Node) → AreDistinct nodes → (w i j : ℕ) (a b : List Plain) → a ≡ b → StandsFor nodes w i a → StandsFor nodes w j b → i ≡ j
stands_one nodes d w i j a b e p q =
    entry_one nodes d (IsCut nodes w) i j b (cut_one nodes d w b) (subst (StandsFor nodes w i) e p) q
