use Rattle.std.proofs.Common.{ℕ, zero, suc, ◌+◌, ◌^◌, ◌<◌, ◌≡◌, inl, Bool, true, false, cond, List, [], ◌∷◌, map, Option, Some, None, refl, sym, ap, ◌∙◌, subst, arith, All, slice_get}
use Rattle.std.proofs.lemmas.List.Elements.{All-head, All-tail, All-weaker}
use Rattle.std.proofs.lemmas.Nat.{and_le_l, and_le_r}
use Rattle.std.proofs.lemmas.Bool.{eq-eqb}
use Rattle.hdr_bits.specs.CubeBits.{is_in}
use Rattle.canon_rows.specs.declared.Piece.{Piece}
use Rattle.canon_rows.specs.Pieces.{value_of}
use Rattle.canon_rows.specs.PlainRows.{Plain, plain, point, Merges, IsRowsOf}
use Rattle.canon_rows.proofs.HalfMasks.{twice, twice_plus, test_star}

pub rows_ext : (w : ℕ) (f g : ℕ → Option ℕ) (r : List Plain) → ((n : ℕ) → n < 2 ^ w → f n ≡ g n) → IsRowsOf w f r → IsRowsOf w g r
unfolding IsRowsOf
rows_ext zero f g r h p = p ∙ ap point (h 0 (omega arith))
rows_ext (suc m) f g r h p =
    let t = twice m in
    (p.0, p.1, rows_ext m f g p.0 (λ n l. h n (omega (arith, t))) p.2, rows_ext m (λ n. f (n + 2 ^ m)) (λ n. g (n + 2 ^ m)) p.1 (λ n l. h (n + 2 ^ m) (omega (arith, t))) p.3, p.4)

pub rows_step : (w m : ℕ) (f f_low f_high : ℕ → Option ℕ) (low high r : List Plain) → w ≡ m + 1 → ((n : ℕ) → n < 2 ^ m → f_low n ≡ f n) → ((n : ℕ) → n < 2 ^ m → f_high n ≡ f (n + 2 ^ m)) → IsRowsOf m f_low low → IsRowsOf m f_high high → Merges m low high r → IsRowsOf w f r
unfolding IsRowsOf
rows_step w m f f_low f_high low high r e a b p q s =
    let e' : suc m ≡ w = omega arith in
    subst (λ k. IsRowsOf k f r) e' (low, high, rows_ext m f_low f low a p, rows_ext m f_high (λ n. f (n + 2 ^ m)) high b q, s)

pub rows_none : (w : ℕ) (f : ℕ → Option ℕ) → ((n : ℕ) → f n ≡ None) → IsRowsOf w f []
unfolding IsRowsOf
rows_none zero f h = sym (ap point (h 0))
rows_none (suc m) f h = ([], [], rows_none m f h, rows_none m (λ n. f (n + 2 ^ m)) (λ n. h (n + 2 ^ m)), record { merged = inl (refl, refl) })

-- pieces with `*` at m don't see the bit there
pub value_of-star : (m n : ℕ) (ps : List Piece) → n < 2 ^ m → All (λ p. p.cube.fixed < 2 ^ m) ps → value_of ps n ≡ value_of ps (n + 2 ^ m)
value_of-star m n [] l a = refl
value_of-star m n (p ∷ ps) l a =
    rw (test_star m n p.cube.fixed p.cube.bits l (All-head (λ q. q.cube.fixed < 2 ^ m) p ps a), value_of-star m n ps l (All-tail (λ q. q.cube.fixed < 2 ^ m) p ps a))

pub rows_star : (w m : ℕ) (ps : List Piece) (r : List Plain) → w ≡ m + 1 → All (λ p. p.cube.fixed < 2 ^ m) ps → IsRowsOf m (value_of ps) r → IsRowsOf w (value_of ps) r
rows_star w m ps r e a p =
    rows_step w m (value_of ps) (value_of ps) (value_of ps) r r r e (λ n l. refl) (λ n l. value_of-star m n ps l a) p p (record { merged = inl (refl, refl) })

pub plain_same : (f g b c v : ℕ) → f ≡ g → b ≡ c → let x : Plain = record { fixed = f; bits = b; value = v } in let y : Plain = record { fixed = g; bits = c; value = v } in x ≡ y
plain_same f g b c v p q = cc

value_of_first : (b : Bool) (v : ℕ) (o : Option ℕ) → b ≡ true → cond b (Some v) o ≡ Some v
value_of_first true v o e = refl
value_of_first false v o e = cc

-- at no bits the first piece is the row
pub rows_point : (p : Piece) (ps : List Piece) → p.cube.fixed < 2 ^ 0 → IsRowsOf 0 (value_of (p ∷ ps)) (plain p ∷ [])
unfolding IsRowsOf
rows_point p ps l =
    let f : p.cube.fixed ≡ 0 = omega arith in
    let d = p.cube.digits in
    let k = and_le_r p.cube.bits p.cube.fixed in
    let b : p.cube.bits ≡ 0 = omega (arith, d, k) in
    let t : is_in p.cube 0 ≡ true = eq-eqb _ _ (omega (arith, b, and_le_l 0 p.cube.fixed)) in
    ap (λ x. x ∷ []) (plain_same p.cube.fixed 0 p.cube.bits 0 p.value f b) ∙ sym (ap point (value_of_first (is_in p.cube 0) p.value (value_of ps 0) t))

pub rows_empty : (w : ℕ) (ps items : List Piece) → None ≡ slice_get ps 0 → items ≡ [] → IsRowsOf w (value_of ps) (map plain items)
rows_empty w [] items e i = rw i (rows_none w (value_of []) (λ n. refl))
rows_empty w (p ∷ ps) items e i = absurd cc

pub rows_alone : (w : ℕ) (ps items : List Piece) (p : Piece) → w ≡ 0 → Some p ≡ slice_get ps 0 → items ≡ p ∷ [] → All (λ q. q.cube.fixed < 2 ^ w) ps → IsRowsOf w (value_of ps) (map plain items)
rows_alone w [] items p z e i a = absurd cc
rows_alone w (q ∷ ps) items p z e i a =
    let s : p ≡ q = cc in
    let b : q.cube.fixed < 2 ^ 0 = subst (λ k. q.cube.fixed < 2 ^ k) z (All-head (λ r. r.cube.fixed < 2 ^ w) q ps a) in
    rw (z, i, s) (rows_point q ps b)

pub All-wider : (w m : ℕ) (ps : List Piece) → w ≡ m + 1 → All (λ p. p.cube.fixed < 2 ^ m) ps → All (λ p. p.cube.fixed < 2 ^ w) ps
All-wider w m ps e a =
    let t = twice_plus m in
    let f : 2 ^ w ≡ 2 ^ (m + 1) = ap (λ k. 2 ^ k) e in
    All-weaker (λ p. p.cube.fixed < 2 ^ m) (λ p. p.cube.fixed < 2 ^ w) (λ p h. omega (arith, t, f, h)) ps a
