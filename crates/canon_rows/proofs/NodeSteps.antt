use Rattle.std.proofs.Common.{ℕ, suc, ◌+◌, ◌*◌, ◌%◌, ◌^◌, ◌<◌, ◌≤◌, ◌≡◌, ◌≢◌, ◌⊎◌, inl, inr, List, [], ◌∷◌, length, Option, Some, None, slice_get, refl, sym, ap, ◌∙◌, subst, arith, bit_or, All}
use Rattle.std.proofs.lemmas.Nat.{one_shl, or_block, or_comm, pow_pos}
use Rattle.std.proofs.lemmas.List.Elements.{All-head, All-weaker}
use Rattle.std.proofs.Math.Nat.{pow-le-pow_right}
use Rattle.canon_rows.specs.declared.Piece.{Piece}
use Rattle.canon_rows.specs.declared.table.Node.{Node}
use Rattle.canon_rows.specs.declared.table.Node.TheVariants.{NoRow, OneRow, Halves}
use Rattle.canon_rows.specs.Pieces.{value_of}
use Rattle.canon_rows.specs.PlainRows.{Plain, plain, whole, IsRowsOf, IsWellFormed, Each}
use Rattle.hdr_bits.specs.Lists.{Extends}
use Rattle.canon_rows.specs.Nodes.{one_row, Tells, HasEntry, IsCut, StandsFor, IsNumberOf, IsOfHalves, AreDistinct}
use Rattle.canon_rows.proofs.RowRecursion.{rows_well_formed}
use Rattle.canon_rows.proofs.RowSteps.{rows_none, rows_point, rows_star, rows_step}
use Rattle.canon_rows.proofs.OneRowOf.{rows_one}
use Rattle.canon_rows.proofs.NodeRows.{cut_has_halves, cut_at, cut_grows, tells_more, stands_grows, stands_wider, stands_same, stands_one, same_plain}

-- ---- masks
-- a mask of the last w bits is one of all bits
pub fits_all : (n w : ℕ) → w ≤ 112 → n < 1 * 2 ^ w % 2 ^ 128 → n < 2 ^ 112
fits_all n w l h =
    let s = one_shl w 128 (omega arith) in
    let p = pow-le-pow_right {n = 2} (omega arith) l in
    omega (arith, s, p, h)

or_top : (m n : ℕ) → n < 2 ^ m → bit_or n (2 ^ m) ≡ n + 2 ^ m
or_top m n l =
    let e : 0 * 2 ^ m + n ≡ n = omega arith in
    let f : 1 * 2 ^ m + 0 ≡ 2 ^ m = omega arith in
    let z : bit_or n 0 ≡ n = or_comm n 0 in
    let g : bit_or n (2 ^ m) ≡ 1 * 2 ^ m + bit_or n 0 = rw (e, f) at (or_block m 0 1 n 0 l (pow_pos m)) in
    omega (arith, g, z)

-- ---- what the entry at a number tells
pub entry_is : (nodes : List Node) (C : Node → List Plain → Type 0) (id : ℕ) (r : List Plain) (x : Node) → slice_get nodes id ≡ Some x → HasEntry nodes C id r → Tells C x r
entry_is nodes C id r x e p =
    let s : Some p.node ≡ Some x = sym p.entry ∙ e in
    let n : p.node ≡ x = cc in
    subst (λ y. Tells C y r) n p.tells

tells_none : (w : ℕ) (nodes : List Node) (x : Node) (r : List Plain) → x ≡ NoRow → Tells (IsCut nodes w) x r → r ≡ []
tells_none w nodes x [] e p = refl
tells_none w nodes x (t ∷ []) e p = absurd cc
tells_none w nodes x (t ∷ u ∷ ts) e p = let h = (cut_has_halves w nodes x (t ∷ u ∷ ts) p).is in absurd cc

tells_row : (w : ℕ) (nodes : List Node) (x : Node) (t : Plain) (r : List Plain) → x ≡ one_row t → Tells (IsCut nodes w) x r → r ≡ t ∷ []
tells_row w nodes x t [] e p = absurd cc
tells_row w nodes x t (u ∷ []) e p =
    let s : one_row u ≡ one_row t = sym p ∙ e in
    let f : u.fixed ≡ t.fixed = cc in
    let b : u.bits ≡ t.bits = cc in
    let v : u.value ≡ t.value = cc in
    ap (λ y. y ∷ []) (same_plain u t f b v)
tells_row w nodes x t (u ∷ v ∷ vs) e p = let h = (cut_has_halves w nodes x (u ∷ v ∷ vs) p).is in absurd cc

-- ---- the node of two halves
-- one half has no row, and the other has one
abbrev AreOneRow : Node → Node → Plain → Type 0
AreOneRow x y t = (x ≡ NoRow → y ≡ one_row t → ⊥) × (x ≡ one_row t → y ≡ NoRow → ⊥)

cut_into : (nodes : List Node) (m low high : ℕ) (zeros ones : List Plain) → StandsFor nodes m low zeros → StandsFor nodes m high ones → Each (IsWellFormed m) zeros → Each (IsWellFormed m) ones → IsCut nodes (suc m) (Halves m low high) (whole m zeros ones)
unfolding IsCut
cut_into nodes m low high zeros ones p q a b =
    inr (record { low = low; high = high; zeros = zeros; ones = ones; is = refl; both = refl; low_stands = p; high_stands = q; low_fits = a; high_fits = b })

pub halves_cut : (nodes : List Node) (m low high : ℕ) (x y : Node) → slice_get nodes low ≡ Some x → slice_get nodes high ≡ Some y → ((t : Plain) → AreOneRow x y t) → IsOfHalves nodes m low high (Halves m low high)
halves_cut nodes m low high x y e f h [] [] p q a b n = absurd (n refl)
halves_cut nodes m low high x y e f h [] (t ∷ []) p q a b n =
    absurd ((h t).0 (entry_is nodes (IsCut nodes m) low [] x e p) (entry_is nodes (IsCut nodes m) high (t ∷ []) y f q))
halves_cut nodes m low high x y e f h [] (t ∷ u ∷ ts) p q a b n = cut_into nodes m low high [] (t ∷ u ∷ ts) p q a b
halves_cut nodes m low high x y e f h (t ∷ []) [] p q a b n =
    absurd ((h t).1 (entry_is nodes (IsCut nodes m) low (t ∷ []) x e p) (entry_is nodes (IsCut nodes m) high [] y f q))
halves_cut nodes m low high x y e f h (t ∷ []) (u ∷ us) p q a b n = cut_into nodes m low high (t ∷ []) (u ∷ us) p q a b
halves_cut nodes m low high x y e f h (t ∷ u ∷ ts) us p q a b n = cut_into nodes m low high (t ∷ u ∷ ts) us p q a b

same_one_row : (f b v f' b' v' : ℕ) → f ≡ f' → b ≡ b' → v ≡ v' → OneRow f b v ≡ OneRow f' b' v'
same_one_row f b v f' b' v' p q r = cc

pub halves_high : (nodes : List Node) (m low high k fixed bits value : ℕ) (x y : Node) → slice_get nodes low ≡ Some x → slice_get nodes high ≡ Some y → x ≡ NoRow → y ≡ OneRow fixed bits value → k ≡ 2 ^ m → IsOfHalves nodes m low high (OneRow (bit_or fixed k) (bit_or bits k) value)
halves_high nodes m low high k fixed bits value x y e f i j s zeros ones p q a b n =
    let t : Plain = record { fixed = fixed; bits = bits; value = value } in
    let z : [] ≡ zeros = sym (tells_none m nodes x zeros i (entry_is nodes (IsCut nodes m) low zeros x e p)) in
    let o : t ∷ [] ≡ ones = sym (tells_row m nodes y t ones j (entry_is nodes (IsCut nodes m) high ones y f q)) in
    let fits : IsWellFormed m t = (subst (Each (IsWellFormed m)) (sym o) b).0 in
    let X : Node = OneRow (bit_or fixed k) (bit_or bits k) value in
    subst (λ r. Tells (IsCut nodes (suc m)) X (whole m r ones)) z (subst (λ r. Tells (IsCut nodes (suc m)) X (whole m [] r)) o (same_one_row _ _ _ _ _ _ (ap (bit_or fixed) s ∙ or_top m fixed fits.below) (ap (bit_or bits) s ∙ or_top m bits fits.small) refl))

pub halves_low : (nodes : List Node) (m low high k fixed bits value : ℕ) (x y : Node) → slice_get nodes low ≡ Some x → slice_get nodes high ≡ Some y → x ≡ OneRow fixed bits value → y ≡ NoRow → k ≡ 2 ^ m → IsOfHalves nodes m low high (OneRow (bit_or fixed k) bits value)
halves_low nodes m low high k fixed bits value x y e f i j s zeros ones p q a b n =
    let t : Plain = record { fixed = fixed; bits = bits; value = value } in
    let z : t ∷ [] ≡ zeros = sym (tells_row m nodes x t zeros i (entry_is nodes (IsCut nodes m) low zeros x e p)) in
    let o : [] ≡ ones = sym (tells_none m nodes y ones j (entry_is nodes (IsCut nodes m) high ones y f q)) in
    let fits : IsWellFormed m t = (subst (Each (IsWellFormed m)) (sym z) a).0 in
    let X : Node = OneRow (bit_or fixed k) bits value in
    subst (λ r. Tells (IsCut nodes (suc m)) X (whole m r ones)) z (subst (λ r. Tells (IsCut nodes (suc m)) X (whole m (t ∷ []) r)) o (same_one_row _ _ _ _ _ _ (ap (bit_or fixed) s ∙ or_top m fixed fits.below) refl refl))

pub no_entry : (nodes : List Node) (C : Node → List Plain → Type 0) (id : ℕ) (r : List Plain) → slice_get nodes id ≡ None → HasEntry nodes C id r → ⊥
no_entry nodes C id r e p =
    let s : ◌≡◌ {A = Option Node} None (Some p.node) = sym e ∙ p.entry in cc

-- ---- the number of two halves
pub number_of_same : (nodes : List Node) (m low high : ℕ) (f g h : ℕ → Option ℕ) → low ≡ high → IsNumberOf nodes m low g → IsNumberOf nodes m high h → ((n : ℕ) → n < 2 ^ m → g n ≡ f n) → ((n : ℕ) → n < 2 ^ m → h n ≡ f (n + 2 ^ m)) → IsNumberOf nodes (m + 1) low f
number_of_same nodes m low high f g h e p q a b =
    let s : p.rows ≡ q.rows = stands_same m nodes low high p.rows q.rows e p.stands q.stands in
    let w : suc m ≡ m + 1 = omega arith in
    record {
      rows = p.rows;
      of = rows_step (m + 1) m f g h p.rows q.rows p.rows refl a b p.of q.of (record { merged = inl (s, refl) });
      stands = subst (λ k. StandsFor nodes k low p.rows) w (stands_wider m nodes low p.rows p.stands);
    }

pub number_of_both : (old new : List Node) (m low high id : ℕ) (x : Node) (f g h : ℕ → Option ℕ) → (low ≡ high → ⊥) → Extends old new → AreDistinct new → slice_get new id ≡ Some x → IsOfHalves old m low high x → IsNumberOf old m low g → IsNumberOf old m high h → ((n : ℕ) → n < 2 ^ m → g n ≡ f n) → ((n : ℕ) → n < 2 ^ m → h n ≡ f (n + 2 ^ m)) → IsNumberOf new (m + 1) id f
number_of_both old new m low high id x f g h n grows distinct e i p q a b =
    let apart : p.rows ≢ q.rows = λ s. n (stands_one new distinct m low high p.rows q.rows s (stands_grows m old new low p.rows grows p.stands) (stands_grows m old new high q.rows grows q.stands)) in
    let r : List Plain = whole m p.rows q.rows in
    let t : Tells (IsCut old (suc m)) x r = i p.rows q.rows p.stands q.stands (rows_well_formed m g p.rows p.of) (rows_well_formed m h q.rows q.of) apart in
    let s : StandsFor new (suc m) id r = record { node = x; entry = e; tells = tells_more (IsCut old (suc m)) (IsCut new (suc m)) x r (cut_grows (suc m) old new grows x r) t } in
    let w : suc m ≡ m + 1 = omega arith in
    record {
      rows = r;
      of = rows_step (m + 1) m f g h p.rows q.rows r refl a b p.of q.of (record { merged = inr (apart, refl) });
      stands = subst (λ k. StandsFor new k id r) w s;
    }

-- ---- the number of pieces
pub number_grows : (w : ℕ) (old new : List Node) (id : ℕ) (f : ℕ → Option ℕ) → Extends old new → IsNumberOf old w id f → IsNumberOf new w id f
number_grows w old new id f g p = record { rows = p.rows; of = p.of; stands = stands_grows w old new id p.rows g p.stands }

pub number_of_none : (nodes : List Node) (w id : ℕ) (ps : List Piece) → None ≡ slice_get ps 0 → slice_get nodes id ≡ Some NoRow → IsNumberOf nodes w id (value_of ps)
number_of_none nodes w id [] e g =
    record { rows = []; of = rows_none w (value_of []) (λ n. refl); stands = record { node = NoRow; entry = g; tells = refl } }
number_of_none nodes w id (p ∷ ps) e g = absurd cc

number_of_row : (nodes : List Node) (w id : ℕ) (f : ℕ → Option ℕ) (t : Plain) → IsRowsOf w f (t ∷ []) → slice_get nodes id ≡ Some (one_row t) → IsNumberOf nodes w id f
number_of_row nodes w id f t r g =
    record { rows = t ∷ []; of = r; stands = record { node = one_row t; entry = g; tells = refl } }

rows_first : (w : ℕ) (p : Piece) (ps : List Piece) → w ≡ 0 → p.cube.fixed < 2 ^ w → IsRowsOf w (value_of (p ∷ ps)) (plain p ∷ [])
rows_first w p ps z l =
    let m : p.cube.fixed < 2 ^ 0 = subst (λ k. p.cube.fixed < 2 ^ k) z l in
    subst (λ k. IsRowsOf k (value_of (p ∷ ps)) (plain p ∷ [])) (sym z) (rows_point p ps m)

rows_alone_in : (w : ℕ) (p : Piece) (ps : List Piece) → (w ≡ 0) ⊎ (length (p ∷ ps) ≡ 1) → p.cube.fixed < 2 ^ w → IsRowsOf w (value_of (p ∷ ps)) (plain p ∷ [])
rows_alone_in w p [] o l = rows_one w p l
rows_alone_in w p (q ∷ ps) o l = elim o [ inl z ↦ rows_first w p (q ∷ ps) z l | inr n ↦ absurd (omega arith) ]

pub number_of_first : (nodes : List Node) (w id : ℕ) (p : Piece) (ps : List Piece) → (w ≡ 0) ⊎ (length ps ≡ 1) → Some p ≡ slice_get ps 0 → All (λ q. q.cube.fixed < 2 ^ w) ps → slice_get nodes id ≡ Some (one_row (plain p)) → IsNumberOf nodes w id (value_of ps)
number_of_first nodes w id p [] o e a g = absurd cc
number_of_first nodes w id p (q ∷ ps) o e a g =
    let s : p ≡ q = cc in
    let l : q.cube.fixed < 2 ^ w = All-head (λ r. r.cube.fixed < 2 ^ w) q ps a in
    number_of_row nodes w id (value_of (q ∷ ps)) (plain q) (rows_alone_in w q ps o l) (g ∙ ap (λ r. Some (one_row (plain r))) s)

pub number_of_star : (nodes : List Node) (w m id : ℕ) (ps : List Piece) → w ≡ m + 1 → All (λ p. p.cube.fixed < 2 ^ m) ps → IsNumberOf nodes m id (value_of ps) → IsNumberOf nodes w id (value_of ps)
number_of_star nodes w m id ps e a p =
    let w' : suc m ≡ w = omega arith in
    record {
      rows = p.rows;
      of = rows_star w m ps p.rows e a p.of;
      stands = subst (λ k. StandsFor nodes k id p.rows) w' (stands_wider m nodes id p.rows p.stands);
    }

-- ---- the rows of a number
pub rows_of_row : (nodes : List Node) (w id : ℕ) (x : Node) (t : Plain) (items : List Plain) → slice_get nodes id ≡ Some x → x ≡ one_row t → (IsWellFormed w t → items ≡ t ∷ []) → (rows : List Plain) → Each (IsWellFormed w) rows → StandsFor nodes w id rows → items ≡ rows
rows_of_row nodes w id x t items e i h rows a s =
    let o : rows ≡ t ∷ [] = tells_row w nodes x t rows i (entry_is nodes (IsCut nodes w) id rows x e s) in
    h (subst (Each (IsWellFormed w)) o a).0 ∙ sym o

pub rows_of_none : (nodes : List Node) (w id : ℕ) (x : Node) (items : List Plain) → slice_get nodes id ≡ Some x → x ≡ NoRow → items ≡ [] → (rows : List Plain) → StandsFor nodes w id rows → items ≡ rows
rows_of_none nodes w id x items e i h rows s =
    h ∙ sym (tells_none w nodes x rows i (entry_is nodes (IsCut nodes w) id rows x e s))

tells_cut : (w : ℕ) (nodes : List Node) (k low high : ℕ) (r : List Plain) → Tells (IsCut nodes w) (Halves k low high) r → IsCut nodes w (Halves k low high) r
tells_cut w nodes k low high [] p = absurd cc
tells_cut w nodes k low high (t ∷ []) p = absurd cc
tells_cut w nodes k low high (t ∷ u ∷ ts) p = p

halves_stand : (nodes : List Node) (w id k low high : ℕ) (x : Node) (rows : List Plain) → slice_get nodes id ≡ Some x → x ≡ Halves k low high → StandsFor nodes w id rows → IsCut nodes w (Halves k low high) rows
halves_stand nodes w id k low high x rows e i s =
    tells_cut w nodes k low high rows (entry_is nodes (IsCut nodes w) id rows (Halves k low high) (e ∙ ap Some i) s)

same_low_high : (k a b c d : ℕ) → Halves k a b ≡ Halves k c d → (c ≡ a) × (d ≡ b)
same_low_high k a b c d e = (cc, cc)

pub rows_of_halves : (nodes : List Node) (w id k low high : ℕ) (x : Node) (zeros ones items : List Plain) → slice_get nodes id ≡ Some x → x ≡ Halves k low high → ((rows : List Plain) → Each (IsWellFormed k) rows → StandsFor nodes k low rows → zeros ≡ rows) → ((rows : List Plain) → Each (IsWellFormed k) rows → StandsFor nodes k high rows → ones ≡ rows) → items ≡ whole k zeros ones → (rows : List Plain) → StandsFor nodes w id rows → items ≡ rows
rows_of_halves nodes w id k low high x zeros ones items e i f g h rows s =
    let c = cut_at w nodes k low high rows (halves_stand nodes w id k low high x rows e i s) in
    let n = same_low_high k low high c.low c.high c.is in
    let z : zeros ≡ c.zeros = f c.zeros c.low_fits (subst (λ j. StandsFor nodes k j c.zeros) n.0 c.low_stands) in
    let o : ones ≡ c.ones = g c.ones c.high_fits (subst (λ j. StandsFor nodes k j c.ones) n.1 c.high_stands) in
    h ∙ (ap (λ r. whole k r ones) z ∙ (ap (whole k c.zeros) o ∙ sym c.both))

same_digit_at : (k m a b c d : ℕ) → Halves k a b ≡ Halves m c d → k ≡ m
same_digit_at k m a b c d e = cc

pub not_as_wide : (nodes : List Node) (w id k low high : ℕ) (x : Node) (rows : List Plain) → slice_get nodes id ≡ Some x → x ≡ Halves k low high → w ≤ k → StandsFor nodes w id rows → ⊥
not_as_wide nodes w id k low high x rows e i l s =
    let h = cut_has_halves w nodes (Halves k low high) rows (halves_stand nodes w id k low high x rows e i s) in
    let b = h.within in
    let p : k ≡ h.shift = same_digit_at k h.shift low high h.low h.high h.is in
    absurd (omega arith)

pub All-as_wide : (w k : ℕ) (ps : List Piece) → k ≤ w → All (λ p. p.cube.fixed < 2 ^ k) ps → All (λ p. p.cube.fixed < 2 ^ w) ps
All-as_wide w k ps l a =
    let t = pow-le-pow_right {n = 2} (omega arith) l in
    All-weaker (λ p. p.cube.fixed < 2 ^ k) (λ p. p.cube.fixed < 2 ^ w) (λ p h. omega (arith, t, h)) ps a

-- ---- the top call
pub rows_of_number : (nodes : List Node) (id : ℕ) (f : ℕ → Option ℕ) (items : List Plain) → ((rows : List Plain) → Each (IsWellFormed 112) rows → StandsFor nodes 112 id rows → items ≡ rows) → IsNumberOf nodes 112 id f → IsRowsOf 112 f items
rows_of_number nodes id f items h p =
    subst (IsRowsOf 112 f) (sym (h p.rows (rows_well_formed 112 f p.rows p.of) p.stands)) p.of
