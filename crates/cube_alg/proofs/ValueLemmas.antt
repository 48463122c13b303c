use Rattle.std.proofs.Common.{ℕ, zero, suc, ◌≡◌, ◌<◌, ◌+◌, inl, inr, Bool, true, false, cond, List, [], ◌∷◌, ◌++◌, take, length, get_or, Option, Some, None, refl, ap, sym, ◌∙◌, subst, arith, bit_and, All, Any}
use Rattle.std.proofs.lemmas.Bool.Decides.{nat_tests, eqb_tells}
use Rattle.std.proofs.lemmas.List.{take_more}
use Rattle.std.proofs.lemmas.List.Elements.{All-head, All-tail, All-push, All-nil}
use Rattle.hdr_bits.specs.declared.cube.Cube.{Cube}
use Rattle.hdr_bits.specs.CubeBits.{IsIn, IsStar, is_in}
use Rattle.hdr_bits.proofs.Masks.{in_from_mask, mask_from_in}
use Rattle.cube_alg.specs.declared.cut.Piece.{Piece}
use Rattle.std.specs.Option.{option_or}
use Rattle.cube_alg.specs.Pairs.{Meets}
use Rattle.cube_alg.specs.Pieces.{value_of, AreStarsAt}
use Rattle.cube_alg.proofs.MaskLemmas.{meets_of_both, inside_of_wider}

pub option_or-none : (x : Option ℕ) → option_or x None ≡ x
option_or-none None = refl
option_or-none (Some x) = refl

pub option_or-assoc : (x y z : Option ℕ) → option_or (option_or x y) z ≡ option_or x (option_or y z)
option_or-assoc None y z = refl
option_or-assoc (Some x) y z = refl

option_or-cond : (b : Bool) (v : ℕ) (x y : Option ℕ) → option_or (cond b (Some v) x) y ≡ cond b (Some v) (option_or x y)
option_or-cond true v x y = refl
option_or-cond false v x y = refl

pub value_of-append : (xs ys : List Piece) (h : ℕ) → value_of (xs ++ ys) h ≡ option_or (value_of xs h) (value_of ys h)
value_of-append [] ys h = refl
value_of-append (x ∷ xs) ys h =
    ap (λ z. cond (is_in x.cube h) (Some x.value) z) (value_of-append xs ys h) ∙ sym (option_or-cond (is_in x.cube h) x.value (value_of xs h) (value_of ys h))

pub test_in : (c : Cube) (h : ℕ) → IsIn c h → is_in c h ≡ true
test_in c h a = let m = mask_from_in c h a in grind (arith, nat_tests)

pub test_out : (c : Cube) (h : ℕ) → (IsIn c h → ⊥) → is_in c h ≡ false
test_out c h f =
    elim (eqb_tells (bit_and h c.fixed) c.bits) [
      | inl p ↦ absurd (f (in_from_mask c h p.1))
      | inr p ↦ p.0
    ]

-- no piece holds the header
pub value_none : (ps : List Piece) (h : ℕ) → All (λ p. IsIn p.cube h → ⊥) ps → value_of ps h ≡ None
value_none [] h a = refl
value_none (p ∷ ps) h a =
    let e : is_in p.cube h ≡ false = test_out p.cube h (All-head (λ q. IsIn q.cube h → ⊥) p ps a) in
    ap (λ b. cond b (Some p.value) (value_of ps h)) e ∙ value_none ps h (All-tail (λ q. IsIn q.cube h → ⊥) p ps a)

pub value_one : (p : Piece) (h : ℕ) → IsIn p.cube h → value_of (p ∷ []) h ≡ Some p.value
value_one p h a = ap (λ b. cond b (Some p.value) None) (test_in p.cube h a)

pub value_one_not : (p : Piece) (h : ℕ) → (IsIn p.cube h → ⊥) → value_of (p ∷ []) h ≡ None
value_one_not p h a = ap (λ b. cond b (Some p.value) None) (test_out p.cube h a)

-- pieces behind one that holds the header don't count
pub value_stop : (ps : List Piece) (i : ℕ) (p : Piece) (h : ℕ) → i < length ps → p ≡ get_or ps i p → IsIn p.cube h → value_of ps h ≡ option_or (value_of (take i ps) h) (Some p.value)
value_stop [] i p h l e a = absurd (omega arith)
value_stop (x ∷ xs) zero p h l e a =
    let t : is_in x.cube h ≡ true = subst (λ q. is_in q.cube h ≡ true) e (test_in p.cube h a) in
    ap (λ b. cond b (Some x.value) (value_of xs h)) t ∙ ap (λ q. Some q.value) (sym e)
value_stop (x ∷ xs) (suc i) p h l e a =
    ap (λ z. cond (is_in x.cube h) (Some x.value) z) (value_stop xs i p h (omega arith) e a) ∙ sym (option_or-cond (is_in x.cube h) x.value (value_of (take i xs) h) (Some p.value))

pub value_take : (ps : List Piece) (i : ℕ) (p : Piece) (h : ℕ) → i < length ps → p ≡ get_or ps i p → value_of (take (i + 1) ps) h ≡ option_or (value_of (take i ps) h) (value_of (p ∷ []) h)
value_take ps i p h l e =
    let t : take (i + 1) ps ≡ take i ps ++ p ∷ [] = rw (← e) at (take_more ps i p l) in
    rw t (value_of-append (take i ps) (p ∷ []) h)

-- ---- the pieces with headers in a cube
pub record IsPart (node : Cube) (pieces kept : List Piece) : Type 0 where
  pub meets : All (λ p. Meets p.cube node) kept
  pub value : (h : ℕ) → IsIn node h → value_of kept h ≡ value_of pieces h

pub part_skip : (node : Cube) (ps kept : List Piece) (i : ℕ) (p : Piece) → i < length ps → p ≡ get_or ps i p → (Meets p.cube node → ⊥) → IsPart node (take i ps) kept → IsPart node (take (i + 1) ps) kept
part_skip node ps kept i p l e n a =
    record {
      meets = a.meets;
      value = λ h m. let v : value_of (p ∷ []) h ≡ None = value_one_not p h (λ q. n (meets_of_both p.cube node h (mask_from_in p.cube h q) (mask_from_in node h m))) in
          a.value h m ∙ (sym (option_or-none _) ∙ (ap (λ z. option_or (value_of (take i ps) h) z) (sym v) ∙ sym (value_take ps i p h l e)));
    }

pub part_take : (node : Cube) (ps kept : List Piece) (i : ℕ) (p : Piece) → i < length ps → p ≡ get_or ps i p → Meets p.cube node → IsPart node (take i ps) kept → IsPart node (take (i + 1) ps) (kept ++ p ∷ [])
part_take node ps kept i p l e n a =
    record {
      meets = All-push (λ q. Meets q.cube node) kept p a.meets n;
      value = λ h m. value_of-append kept (p ∷ []) h ∙ (ap (λ z. option_or z (value_of (p ∷ []) h)) (a.value h m) ∙ sym (value_take ps i p h l e));
    }

pub in_wider : (p : Piece) (node : Cube) (h : ℕ) → Meets p.cube node → bit_and p.cube.fixed node.fixed ≡ p.cube.fixed → IsIn node h → IsIn p.cube h
in_wider p node h n w m = in_from_mask p.cube h (inside_of_wider p.cube node h n w (mask_from_in node h m))

pub part_stop : (node : Cube) (ps kept : List Piece) (i : ℕ) (p : Piece) → i < length ps → p ≡ get_or ps i p → Meets p.cube node → bit_and p.cube.fixed node.fixed ≡ p.cube.fixed → IsPart node (take i ps) kept → IsPart node ps (kept ++ p ∷ [])
part_stop node ps kept i p l e n w a =
    record {
      meets = All-push (λ q. Meets q.cube node) kept p a.meets n;
      value = λ h m. let q = in_wider p node h n w m in
          value_of-append kept (p ∷ []) h ∙ (ap (λ z. option_or z (value_of (p ∷ []) h)) (a.value h m) ∙ (ap (λ z. option_or (value_of (take i ps) h) z) (value_one p h q) ∙ sym (value_stop ps i p h l e q)));
    }

-- ---- bits that no piece fixes
pub record KeepsStars (pieces kept : List Piece) : Type 0 where
  pub stars : (k : ℕ) → AreStarsAt pieces k → AreStarsAt kept k

pub stars_none : (pieces : List Piece) → KeepsStars pieces []
stars_none pieces = record { stars = λ k a. All-nil _ }

pub stars_take : (ps kept : List Piece) (i : ℕ) (p : Piece) → i < length ps → p ≡ get_or ps i p → KeepsStars ps kept → KeepsStars ps (kept ++ p ∷ [])
stars_take ps kept i p l e s =
    record { stars = λ k a. All-push (λ q. IsStar q.cube k) kept p (s.stars k a) (subst (λ q. IsStar q.cube k) (sym e) (a i p l)) }

-- ---- pieces with one value
pub record HasOnly (v : ℕ) (pieces : List Piece) : Type 0 where
  pub only : (h : ℕ) → option_or (value_of pieces h) (Some v) ≡ Some v

one_only : (v w : ℕ) (b : Bool) → w ≡ v → option_or (cond b (Some w) None) (Some v) ≡ Some v
one_only v w true e = ap Some e
one_only v w false e = refl

pub only_more : (v : ℕ) (ps : List Piece) (i : ℕ) (p : Piece) → i < length ps → p ≡ get_or ps i p → p.value ≡ v → HasOnly v (take i ps) → HasOnly v (take (i + 1) ps)
only_more v ps i p l e s a =
    record {
      only = λ h. ap (λ z. option_or z (Some v)) (value_take ps i p h l e) ∙ (option_or-assoc (value_of (take i ps) h) (value_of (p ∷ []) h) (Some v) ∙ (ap (λ z. option_or (value_of (take i ps) h) z) (one_only v p.value (is_in p.cube h) s) ∙ a.only h));
    }

pub only_stop : (v : ℕ) (node : Cube) (ps : List Piece) (i : ℕ) (p : Piece) → i < length ps → p ≡ get_or ps i p → p.value ≡ v → Meets p.cube node → bit_and p.cube.fixed node.fixed ≡ p.cube.fixed → HasOnly v (take i ps) → (h : ℕ) → IsIn node h → value_of ps h ≡ Some v
only_stop v node ps i p l e s n w a h m =
    value_stop ps i p h l e (in_wider p node h n w m) ∙ (ap (λ x. option_or (value_of (take i ps) h) (Some x)) s ∙ a.only h)

-- ---- in disjoint pieces each piece gives its own value
pub value_each : (ps : List Piece) → ((i j : ℕ) (d : Piece) → i < j → j < length ps → (h : ℕ) → IsIn (get_or ps i d).cube h → IsIn (get_or ps j d).cube h → ⊥) → (k : ℕ) (d : Piece) → k < length ps → (h : ℕ) → IsIn (get_or ps k d).cube h → value_of ps h ≡ Some (get_or ps k d).value
value_each [] a k d l h i = absurd (omega arith)
value_each (p ∷ ps) a zero d l h i = ap (λ b. cond b (Some p.value) (value_of ps h)) (test_in p.cube h i)
value_each (p ∷ ps) a (suc k) d l h i =
    ap (λ b. cond b (Some p.value) (value_of ps h)) (test_out p.cube h (λ j. a 0 (suc k) d (omega arith) l h j i)) ∙ value_each ps (λ x y e m n. a (suc x) (suc y) e (omega arith) (omega arith)) k d (omega arith) h i

-- where the pieces give a value a piece holds the header
pub value_holder : (ps : List Piece) (h v : ℕ) → value_of ps h ≡ Some v → Any (λ p. IsIn p.cube h) ps
value_holder [] h v e = absurd cc
value_holder (p ∷ ps) h v e =
    elim (eqb_tells (bit_and h p.cube.fixed) p.cube.bits) [
      | inl q ↦ (0, p, omega arith, refl, in_from_mask p.cube h q.1)
      | inr q ↦ let f : value_of ps h ≡ Some v = ap (λ b. cond b (Some p.value) (value_of ps h)) (sym q.0) ∙ e in
          let r = value_holder ps h v f in
          (suc r.0, r.1, omega (arith, r.2), r.3, r.4)
    ]
