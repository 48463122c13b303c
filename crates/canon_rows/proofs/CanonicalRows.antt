use Rattle.std.proofs.Common.{ℕ, zero, suc, ◌-◌, ◌<◌, ◌≡◌, inl, inr, Bool, true, false, ◌==◌, cond, List, [], ◌∷◌, map, Option, Some, None, IsNone, refl, ◌∙◌, subst, arith, All, AllPairs, Contains, bit_and, get_or}
use Rattle.std.specs.Int.{bit_at}
use Rattle.std.proofs.lemmas.Bool.{eqb-true, eq-eqb}
use Rattle.std.proofs.lemmas.List.Elements.{All-nil, All-cons, All-head, All-tail, Contains-append_right}
use Rattle.std.proofs.lemmas.List.Kept.{AllPairs-cons}
use Rattle.hdr_bits.specs.declared.cube.Cube.{Cube}
use Rattle.hdr_bits.specs.Bits.{bit_of}
use Rattle.hdr_bits.specs.CubeBits.{digit_at, IsIn, AgreesBefore, IsStar, is_in}
use Rattle.hdr_bits.specs.Rows.{IsRow, ComesBefore, AreRows}
use Rattle.hdr_bits.proofs.Masks.{AgreesFrom, in_from_mask, mask_from_in, agrees_from_fixed, fixed_at}
use Rattle.hdr_bits.proofs.CubeLemmas.{same_cube}
use Rattle.canon_rows.specs.declared.Piece.{Piece}
use Rattle.canon_rows.specs.Pieces.{HasValue, AreApart, value_of}
use Rattle.canon_rows.specs.PlainRows.{plain, IsRowsOf, Each}
use Rattle.canon_rows.proofs.Canonical.{IsRowAt, Unchanged}
use Rattle.canon_rows.proofs.RowLists.{IsRowOf, HasRow, rows_each, rows_every}
use Rattle.canon_rows.proofs.RowOrder.{Before, Ordered, rows_ordered}

-- ---- bits and positions
star_from_zero : (c : Cube) (k : ℕ) → bit_of c.fixed k ≡ 0 → IsStar c k
star_from_zero c k e = rw e refl

cond_none : (t : Bool) (b : ℕ) → IsNone (cond t None (Some b)) → t ≡ true
cond_none true b h = refl
cond_none false b h = absurd cc

zero_from_star : (c : Cube) (k : ℕ) → IsStar c k → bit_of c.fixed k ≡ 0
zero_from_star c k h = eqb-true (bit_of c.fixed k) 0 (cond_none (bit_of c.fixed k == 0) (bit_of c.bits k) h)

pub in_from_agrees : (c : Cube) (n : ℕ) → AgreesFrom 112 0 c.fixed c.bits n → IsIn c n
in_from_agrees c n a k l = agrees_from_fixed c n k (a (111 - k) (omega arith) (omega arith))

pub agrees_from_in : (c : Cube) (n : ℕ) → IsIn c n → AgreesFrom 112 0 c.fixed c.bits n
agrees_from_in c n a i _ l = fixed_at c n i l (a (111 - i) (omega arith))

before_from_agrees : (c : Cube) (k n : ℕ) → k < 112 → AgreesFrom 112 (suc (111 - k)) c.fixed c.bits n → AgreesBefore c k n
before_from_agrees c k n q a i l = agrees_from_fixed c n i (a (111 - i) (omega arith) (omega arith))

agrees_from_before : (c : Cube) (k n : ℕ) → k < 112 → AgreesBefore c k n → AgreesFrom 112 (suc (111 - k)) c.fixed c.bits n
agrees_from_before c k n q a i p l = fixed_at c n i l (a (111 - i) (omega arith))

-- a fact of the bit counted from the other end
by_position : (P : ℕ → Type 0) → ((k : ℕ) → k < 112 → P (111 - k)) → (j : ℕ) → j < 112 → P j
by_position P h j l =
    let e : 111 - (111 - j) ≡ j = omega arith in subst P e (h (111 - j) (omega arith))

pub row_from_at : {V : Type 0} (f : ℕ → Option V) (c : Cube) → IsRowAt 112 f c.fixed c.bits → IsRow f c
row_from_at f c h =
    record {
      something = λ n l a. h.something n l (agrees_from_in c n a);
      star = λ k l. (λ s n b a. h.starred (111 - k) (omega arith) (zero_from_star c k s) n b (agrees_from_before c k n l a), λ u. star_from_zero c k (h.star (111 - k) (omega arith) (λ n b a. u n b (before_from_agrees c k n l a))));
    }

pub at_from_row : {V : Type 0} (f : ℕ → Option V) (c : Cube) → IsRow f c → IsRowAt 112 f c.fixed c.bits
at_from_row f c h =
    record {
      something = λ n l a. h.something n l (in_from_agrees c n a);
      starred = by_position (λ j. bit_at c.fixed j ≡ 0 → Unchanged 112 f c.fixed c.bits j) (λ k l e n b a. (h.star k l).0 (star_from_zero c k e) n b (before_from_agrees c k n l a));
      star = by_position (λ j. Unchanged 112 f c.fixed c.bits j → bit_at c.fixed j ≡ 0) (λ k l u. zero_from_star c k ((h.star k l).1 (λ n b a. u n b (agrees_from_before c k n l a))));
    }

-- ---- the lists
cubes_each : (f : ℕ → Option ℕ) (ps : List Piece) → Each (IsRowOf 112 f) (map plain ps) → All (IsRow f) (map (λ p. p.cube) ps)
cubes_each f [] h = All-nil (IsRow f)
cubes_each f (p ∷ ps) h = All-cons (IsRow f) p.cube (map (λ q. q.cube) ps) (row_from_at f p.cube h.0.row) (cubes_each f ps h.1)

contains_head : (x c : Cube) (xs : List Cube) → x ≡ c → Contains (x ∷ xs) c
contains_head x c xs e = (0, omega arith, e)

cubes_has : (c : Cube) (ps : List Piece) → HasRow c.fixed c.bits (map plain ps) → Contains (map (λ p. p.cube) ps) c
cubes_has c [] h = absurd h
cubes_has c (p ∷ ps) h =
    elim h [
      | inl e ↦ contains_head p.cube c (map (λ q. q.cube) ps) (same_cube p.cube c e.0 e.1)
      | inr k ↦ Contains-append_right (p.cube ∷ []) (map (λ q. q.cube) ps) c (cubes_has c ps k)
    ]

same_digit_at : (c d : Cube) (k : ℕ) → bit_of c.fixed k ≡ bit_of d.fixed k → bit_of c.bits k ≡ bit_of d.bits k → digit_at c k ≡ digit_at d k
same_digit_at c d k e g = rw (e, g)

digit_there : (c : Cube) (k b : ℕ) → bit_of c.fixed k ≡ 1 → bit_of c.bits k ≡ b → digit_at c k ≡ Some b
digit_there c k b e g = rw (e, g)

cube_before : (p q : Piece) → Before 112 (plain p) (plain q) → ComesBefore p.cube q.cube
cube_before p q h =
    let j = h.position in
    let l = h.within in
    let e : 111 - (111 - j) ≡ j = omega arith in
    record {
      first = 111 - j;
      within = omega arith;
      same = λ i k. same_digit_at p.cube q.cube i (h.same_fixed (111 - i) (omega arith) (omega arith)) (h.same_bits (111 - i) (omega arith) (omega arith));
      zero_there = digit_there p.cube (111 - j) 0 (rw e h.digits.0) (rw e h.zero_one.0);
      one_there = digit_there q.cube (111 - j) 1 (rw e h.digits.1) (rw e h.zero_one.1);
    }

cubes_before : (p : Piece) (ps : List Piece) → Each (Before 112 (plain p)) (map plain ps) → All (ComesBefore p.cube) (map (λ q. q.cube) ps)
cubes_before p [] h = All-nil (ComesBefore p.cube)
cubes_before p (q ∷ ps) h =
    All-cons (ComesBefore p.cube) q.cube (map (λ r. r.cube) ps) (cube_before p q h.0) (cubes_before p ps h.1)

cubes_ordered : (ps : List Piece) → Ordered 112 (map plain ps) → AllPairs ComesBefore (map (λ q. q.cube) ps)
cubes_ordered [] h = λ i j d l k. absurd (omega arith)
cubes_ordered (p ∷ ps) h =
    AllPairs-cons ComesBefore p.cube (map (λ r. r.cube) ps) (cubes_before p ps h.0) (cubes_ordered ps h.1)

pub are_rows : (f : ℕ → Option ℕ) (ps : List Piece) → IsRowsOf 112 f (map plain ps) → AreRows f (map (λ p. p.cube) ps)
are_rows f ps k =
    record {
      each = cubes_each f ps (rows_each 112 f (map plain ps) k);
      every = λ c r. cubes_has c ps (rows_every 112 f (map plain ps) k c.fixed c.bits c.below c.digits (at_from_row f c r));
      ordered = cubes_ordered ps (rows_ordered 112 f (map plain ps) k);
    }

pub have_values : (f : ℕ → Option ℕ) (ps : List Piece) → Each (IsRowOf 112 f) (map plain ps) → All (HasValue f) ps
have_values f [] h = All-nil (HasValue f)
have_values f (p ∷ ps) h =
    All-cons (HasValue f) p ps (λ n l a. h.0.value n l (agrees_from_in p.cube n a)) (have_values f ps h.1)

pub all_have_values : (f : ℕ → Option ℕ) (ps : List Piece) → IsRowsOf 112 f (map plain ps) → All (HasValue f) ps
all_have_values f ps h = have_values f ps (rows_each 112 f (map plain ps) h)

-- ---- where pieces are apart, each gives its value
in_from_test : (c : Cube) (h : ℕ) → is_in c h ≡ true → IsIn c h
in_from_test c h e = in_from_mask c h (eqb-true (bit_and h c.fixed) c.bits e)

first_value : (t : Bool) (v : ℕ) (o : Option ℕ) → t ≡ true → cond t (Some v) o ≡ Some v
first_value true v o e = refl
first_value false v o e = cc

later_value : (t : Bool) (v : ℕ) (o r : Option ℕ) → (t ≡ true → ⊥) → o ≡ r → cond t (Some v) o ≡ r
later_value true v o r n e = absurd (n refl)
later_value false v o r n e = e

pub piece_holds : (p : Piece) (ps : List Piece) (h : ℕ) → IsIn p.cube h → value_of (p ∷ ps) h ≡ Some p.value
piece_holds p ps h i =
    first_value (is_in p.cube h) p.value (value_of ps h) (eq-eqb (bit_and h p.cube.fixed) p.cube.bits (mask_from_in p.cube h i))

pub piece_passes : (p : Piece) (ps : List Piece) (h : ℕ) → (IsIn p.cube h → ⊥) → value_of (p ∷ ps) h ≡ value_of ps h
piece_passes p ps h n =
    later_value (is_in p.cube h) p.value (value_of ps h) (value_of ps h) (λ t. n (in_from_test p.cube h t)) refl

pub no_piece_holds : (ps : List Piece) (h : ℕ) → All (λ p. IsIn p.cube h → ⊥) ps → value_of ps h ≡ None
no_piece_holds [] h a = refl
no_piece_holds (p ∷ ps) h a =
    piece_passes p ps h (All-head (λ q. IsIn q.cube h → ⊥) p ps a) ∙ no_piece_holds ps h (All-tail (λ q. IsIn q.cube h → ⊥) p ps a)

pub apart_values : (ps : List Piece) → AllPairs AreApart ps → All (HasValue (value_of ps)) ps
apart_values [] a = All-nil (HasValue (value_of []))
apart_values (p ∷ ps) a =
    let rest = apart_values ps (λ i j d l k. a (suc i) (suc j) d (omega arith) (omega arith)) in
    All-cons (HasValue (value_of (p ∷ ps))) p ps
    (λ h l i. first_value (is_in p.cube h) p.value (value_of ps h) (eq-eqb (bit_and h p.cube.fixed) p.cube.bits (mask_from_in p.cube h i)))
    (λ k d l h b i. later_value (is_in p.cube h) p.value (value_of ps h) (Some (get_or ps k d).value) (λ t. a zero (suc k) d (omega arith) (omega arith) h b (in_from_test p.cube h t) i) (rest k d l h b i))
