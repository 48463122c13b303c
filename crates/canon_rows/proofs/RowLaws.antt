use Rattle.std.proofs.Common.{ℕ, zero, suc, ◌+◌, ◌^◌, ◌<◌, ◌≡◌, ◌⊎◌, ◌↔◌, inl, inr, Bool, true, false, Option, Some, None, IsSome, refl, sym, ap, ◌∙◌, subst, arith, bit_and}
use Rattle.std.proofs.lemmas.Nat.{and_le_r}
use Rattle.hdr_bits.specs.declared.cube.Cube.{Cube}
use Rattle.hdr_bits.specs.CubeBits.{IsIn}
use Rattle.hdr_bits.specs.Rows.{IsRow}
use Rattle.hdr_bits.proofs.Masks.{AgreesFrom}
use Rattle.hdr_bits.proofs.CubeLemmas.{same_cube}
use Rattle.canon_rows.specs.Laws.{IsDecided, HasRowOf}
use Rattle.canon_rows.specs.Pieces.{with_top}
use Rattle.canon_rows.proofs.HalfMasks.{twice, digits_low, digits_high}
use Rattle.canon_rows.proofs.TopBits.{bit_below, with_top_lt, by_digit, by_shift, agrees_same}
use Rattle.canon_rows.proofs.Canonical.{IsRowAt, same_at, star_agrees, digit_agrees, digit_top, agrees_star, agrees_digit, row_star, star_row, row_digit, digit_row}
use Rattle.canon_rows.proofs.RowLists.{by_mask}
use Rattle.canon_rows.proofs.CanonicalRows.{at_from_row, row_from_at, agrees_from_in, in_from_agrees}

-- ---- a function is constant on a row
abbrev IsConstant : {V : Type 0} → ℕ → (ℕ → Option V) → ℕ → ℕ → Type 0
IsConstant w f fixed bits = (n : ℕ) → n < 2 ^ w → AgreesFrom w 0 fixed bits n → (k : ℕ) → k < 2 ^ w → AgreesFrom w 0 fixed bits k → f n ≡ f k

row_constant : {V : Type 0} (w : ℕ) (f : ℕ → Option V) (fixed bits : ℕ) → fixed < 2 ^ w → bit_and bits fixed ≡ bits → IsRowAt w f fixed bits → IsConstant w f fixed bits
row_constant zero f fixed bits l d h = λ n a _ k b _. let e : n ≡ k = omega arith in ap f e
row_constant (suc m) f fixed bits l d h =
    by_mask m (λ fixed bits. IsRowAt (suc m) f fixed bits → IsConstant (suc m) f fixed bits)
    (λ fixed bits l d h. let q = star_row m f fixed bits l h in
    let r = row_constant m f fixed bits l d q.1 in
    by_digit m (λ n. AgreesFrom (suc m) 0 fixed bits n → (k : ℕ) → k < 2 ^ suc m → AgreesFrom (suc m) 0 fixed bits k → f n ≡ f k) (λ c n a b. by_digit m (λ k. AgreesFrom (suc m) 0 fixed bits k → f (with_top c m n) ≡ f k) (λ e k x y. same_at c m f q.0 n a ∙ (r n a (star_agrees c m 0 fixed bits n b) k x (star_agrees e m 0 fixed bits k y) ∙ sym (same_at e m f q.0 k x)))))
    (λ c fixed bits l i d h. let q = digit_row c m f fixed bits l i h in
    let r = row_constant m (λ n. f (with_top c m n)) fixed bits l d q.1 in
    by_digit m (λ n. AgreesFrom (suc m) 0 (with_top true m fixed) (with_top c m bits) n → (k : ℕ) → k < 2 ^ suc m → AgreesFrom (suc m) 0 (with_top true m fixed) (with_top c m bits) k → f n ≡ f k) (λ x n a b. by_digit m (λ k. AgreesFrom (suc m) 0 (with_top true m fixed) (with_top c m bits) k → f (with_top x m n) ≡ f k) (λ y k e g. subst (λ z. f (with_top z m n) ≡ f (with_top y m k)) (digit_top c x m 0 fixed bits n l i a (omega arith) b) (subst (λ z. f (with_top c m n) ≡ f (with_top z m k)) (digit_top c y m 0 fixed bits k l i e (omega arith) g) (r n a (digit_agrees c x m 0 fixed bits n b) k e (digit_agrees c y m 0 fixed bits k g))))))
    fixed bits l d h

pub rows_are_constant : {V : Type 0} (f : ℕ → Option V) (c : Cube) → IsRow f c → (h g : ℕ) → h < 2 ^ 112 → g < 2 ^ 112 → IsIn c h → IsIn c g → f h ≡ f g
rows_are_constant f c r h g a b x y =
    row_constant 112 f c.fixed c.bits c.below c.digits (at_from_row f c r) h a (agrees_from_in c h x) g b (agrees_from_in c g y)

-- ---- two rows with a common header are one
abbrev AreOne : ℕ → ℕ → ℕ → ℕ → Type 0
AreOne fixed bits fixed' bits' = (fixed ≡ fixed') × (bits ≡ bits')

rows_one : {V : Type 0} (w : ℕ) (f : ℕ → Option V) (fixed bits : ℕ) → fixed < 2 ^ w → bit_and bits fixed ≡ bits → IsRowAt w f fixed bits → (fixed' bits' : ℕ) → fixed' < 2 ^ w → bit_and bits' fixed' ≡ bits' → IsRowAt w f fixed' bits' → (n : ℕ) → n < 2 ^ w → AgreesFrom w 0 fixed bits n → AgreesFrom w 0 fixed' bits' n → AreOne fixed bits fixed' bits'
rows_one zero f fixed bits l d h = λ fixed' bits' l' d' h' n k a b.
    let p = and_le_r bits fixed in
    let q = and_le_r bits' fixed' in
    (omega arith, omega (arith, p, q, d, d'))
rows_one (suc m) f fixed bits l d h =
    by_mask m (λ fixed bits. IsRowAt (suc m) f fixed bits → (fixed' bits' : ℕ) → fixed' < 2 ^ suc m → bit_and bits' fixed' ≡ bits' → IsRowAt (suc m) f fixed' bits' → (n : ℕ) → n < 2 ^ suc m → AgreesFrom (suc m) 0 fixed bits n → AgreesFrom (suc m) 0 fixed' bits' n → AreOne fixed bits fixed' bits')
    (λ fixed bits l d h. let q = star_row m f fixed bits l h in
    by_mask m (λ fixed' bits'. IsRowAt (suc m) f fixed' bits' → (n : ℕ) → n < 2 ^ suc m → AgreesFrom (suc m) 0 fixed bits n → AgreesFrom (suc m) 0 fixed' bits' n → AreOne fixed bits fixed' bits')
    (λ fixed' bits' l' d' h'. let q' = star_row m f fixed' bits' l' h' in by_digit m (λ n. AgreesFrom (suc m) 0 fixed bits n → AgreesFrom (suc m) 0 fixed' bits' n → AreOne fixed bits fixed' bits') (λ x n k a b. rows_one m f fixed bits l d q.1 fixed' bits' l' d' q'.1 n k (star_agrees x m 0 fixed bits n a) (star_agrees x m 0 fixed' bits' n b)))
    (λ c fixed' bits' l' i' d' h' n k a b. absurd ((digit_row c m f fixed' bits' l' i' h').0 q.0)))
    (λ c fixed bits l i d h. let q = digit_row c m f fixed bits l i h in
    by_mask m (λ fixed' bits'. IsRowAt (suc m) f fixed' bits' → (n : ℕ) → n < 2 ^ suc m → AgreesFrom (suc m) 0 (with_top true m fixed) (with_top c m bits) n → AgreesFrom (suc m) 0 fixed' bits' n → AreOne (with_top true m fixed) (with_top c m bits) fixed' bits')
    (λ fixed' bits' l' d' h' n k a b. absurd (q.0 (star_row m f fixed' bits' l' h').0))
    (λ e fixed' bits' l' i' d' h'. let q' = digit_row e m f fixed' bits' l' i' h' in by_digit m (λ n. AgreesFrom (suc m) 0 (with_top true m fixed) (with_top c m bits) n → AgreesFrom (suc m) 0 (with_top true m fixed') (with_top e m bits') n → AreOne (with_top true m fixed) (with_top c m bits) (with_top true m fixed') (with_top e m bits')) (λ x n k a b. let s : e ≡ c = digit_top e x m 0 fixed' bits' n l' i' k (omega arith) b ∙ sym (digit_top c x m 0 fixed bits n l i k (omega arith) a) in let o = rows_one m (λ t. f (with_top c m t)) fixed bits l d q.1 fixed' bits' l' d' (subst (λ t. IsRowAt m (λ u. f (with_top t m u)) fixed' bits') s q'.1) n k (digit_agrees c x m 0 fixed bits n a) (digit_agrees e x m 0 fixed' bits' n b) in (ap (with_top true m) o.0, subst (λ t. with_top c m bits ≡ with_top t m bits') (sym s) (ap (with_top c m) o.1)))))
    fixed bits l d h

pub rows_are_disjoint : {V : Type 0} (f : ℕ → Option V) (c d : Cube) → IsRow f c → IsRow f d → (h : ℕ) → h < 2 ^ 112 → IsIn c h → IsIn d h → c ≡ d
rows_are_disjoint f c d r s h l a b =
    let o = rows_one 112 f c.fixed c.bits c.below c.digits (at_from_row f c r) d.fixed d.bits d.below d.digits (at_from_row f d s) h l (agrees_from_in c h a) (agrees_from_in d h b) in
    same_cube c d o.0 o.1

-- ---- each header with a value is in a row, where it is decided whether two values are equal
digits_at : (c : Bool) (m fixed bits : ℕ) → fixed < 2 ^ m → bit_and bits fixed ≡ bits → bit_and (with_top c m bits) (with_top true m fixed) ≡ with_top c m bits
digits_at true m fixed bits b d = digits_high m fixed bits b d
digits_at false m fixed bits b d = digits_low m fixed bits b d

abbrev SameBelow : {V : Type 0} → ℕ → ℕ → (ℕ → Option V) → Type 0
SameBelow k m f = (n : ℕ) → n < k → f n ≡ f (n + 2 ^ m)

more_same : {V : Type 0} (k m : ℕ) (f : ℕ → Option V) → SameBelow k m f → f k ≡ f (k + 2 ^ m) → SameBelow (suc k) m f
more_same k m f s e = by_shift k (λ n. f n ≡ f (n + 2 ^ m)) e s

decide_below : {V : Type 0} (k m : ℕ) (f : ℕ → Option V) → IsDecided (Option V) → SameBelow k m f ⊎ (SameBelow k m f → ⊥)
decide_below zero m f d = inl (λ n l. absurd (omega arith))
decide_below (suc k) m f d =
    elim (decide_below k m f d) [
      | inl s ↦ elim (d (f k) (f (k + 2 ^ m))) [ inl e ↦ inl (more_same k m f s e) | inr x ↦ inr (λ t. x (t k (omega arith))) ]
      | inr x ↦ inr (λ t. x (λ n l. t n (omega arith)))
    ]

pub record IsCovered {V : Type 0} (w : ℕ) (f : ℕ → Option V) (n : ℕ) : Type 0 where
  pub fixed : ℕ
  pub bits : ℕ
  pub below : fixed < 2 ^ w
  pub small : bits < 2 ^ w
  pub digits : bit_and bits fixed ≡ bits
  pub row : IsRowAt w f fixed bits
  pub agrees : AgreesFrom w 0 fixed bits n

covered : {V : Type 0} (w : ℕ) (f : ℕ → Option V) → IsDecided (Option V) → (n : ℕ) → n < 2 ^ w → IsSome (f n) → IsCovered w f n
covered zero f d = λ n l s.
    let z : n ≡ 0 = omega arith in
    record {
      fixed = 0;
      bits = 0;
      below = omega arith;
      small = omega arith;
      digits = refl;
      row = record {
        something = λ k i _. let e : n ≡ k = omega arith in subst (λ x. IsSome (f x)) e s;
        starred = λ j i. absurd (omega arith);
        star = λ j i. absurd (omega arith);
      };
      agrees = λ i _ k. absurd (omega arith);
    }
covered (suc m) f d =
    let t = twice m in
    elim (decide_below (2 ^ m) m f d) [
      | inl s ↦ by_digit m (λ n. IsSome (f n) → IsCovered (suc m) f n) (λ c n l v. let q = covered m f d n l (subst IsSome (same_at c m f s n l) v) in record {
        fixed = q.fixed;
        bits = q.bits;
        below = let b = q.below in omega (arith, t);
        small = let b = q.small in omega (arith, t);
        digits = q.digits;
        row = row_star m f q.fixed q.bits q.below s q.row;
        agrees = agrees_star m 0 q.fixed q.bits (with_top c m n) q.below (agrees_same m 0 q.fixed q.bits (with_top c m n) q.fixed q.bits n (λ i k. refl) (λ i k. refl) (bit_below c m n) q.agrees);
      })
      | inr s ↦ by_digit m (λ n. IsSome (f n) → IsCovered (suc m) f n) (λ c n l v. let q = covered m (λ x. f (with_top c m x)) d n l v in record {
        fixed = with_top true m q.fixed;
        bits = with_top c m q.bits;
        below = with_top_lt true m q.fixed q.below;
        small = with_top_lt c m q.bits q.small;
        digits = digits_at c m q.fixed q.bits q.below q.digits;
        row = row_digit c m f q.fixed q.bits q.below q.small s q.row;
        agrees = agrees_digit c m 0 q.fixed q.bits n q.small l q.agrees;
      })
    ]

pub header_has_row : {V : Type 0} (f : ℕ → Option V) → IsDecided (Option V) → (h : ℕ) → h < 2 ^ 112 → IsSome (f h) → HasRowOf f h
header_has_row f d h l s =
    let q = covered 112 f d h l s in
    let c : Cube = record { fixed = q.fixed; bits = q.bits; below = q.below; digits = q.digits } in
    record { cube = c; row = row_from_at f c q.row; member = in_from_agrees c h q.agrees }

-- to decide values is to decide optional values
optional_decided : {V : Type 0} → IsDecided V → IsDecided (Option V)
optional_decided d None None = inl refl
optional_decided d None (Some y) = inr (λ e. absurd cc)
optional_decided d (Some x) None = inr (λ e. absurd cc)
optional_decided d (Some x) (Some y) = elim (d x y) [ inl e ↦ inl (ap Some e) | inr n ↦ inr (λ e. n cc) ]

pub rows_cover : {V : Type 0} (f : ℕ → Option V) → IsDecided V → (h : ℕ) → h < 2 ^ 112 → HasRowOf f h ↔ IsSome (f h)
rows_cover f d h l = (λ r. r.row.something h l r.member, header_has_row f (optional_decided d) h l)
