-- Whether a text is written so, part by part.
use Rattle.std.proofs.Common.{◌≡◌, ℕ, zero, suc, ◌<◌, ◌≤◌, ◌^◌, Bool, true, false, ◌&&◌, ◌==◌, List, [], ◌∷◌, ◌++◌, length, take, drop, refl, sym, ap, ◌∙◌, append_assoc, arith}
use Rattle.std.specs.Int.{bit_at}
use Rattle.std.specs.Str.{bytes_eq}
use Rattle.std.specs.Prelude.{codes}
use Rattle.std.proofs.lemmas.Bool.{eq-eqb, ne_eqb, eqb-true}
use Rattle.std.specs.FinSet.{nat_cmp-IsAntisymmetric}
use Rattle.std.specs.FinMap.{slice_cmp-IsAntisymmetric}
use Rattle.std.specs.Cmp.{Equal-is}
use Rattle.std.specs.Cmp.Lexicographic.{slice_cmp}
use Rattle.std.specs.Ordering.{nat_cmp}
use Rattle.std.proofs.lemmas.Map.Text.{is_eq-slice_cmp}
use Rattle.report_text.specs.FieldText.{address_text, digit_text, ternary_text}
use Rattle.report_text.specs.Reading.{cut_at}
use Rattle.report_text.proofs.Cuts.{cut_back}
use Rattle.report_text.proofs.Numerals.{address_plain, ternary_size}

and_false : (a : Bool) → (a && false) ≡ false
and_false true = refl
and_false false = refl

pub short : (f w x : List ℕ) → length w < length f → bytes_eq (f ++ x) w ≡ false
short [] w x h = absurd (omega (arith, h))
short (y ∷ f) [] x h = refl
short (y ∷ f) (z ∷ w) x h = rw (short f w x (omega (arith, h))) (and_false (y == z))

pub same_front : (f w x : List ℕ) → length f ≤ length w → bytes_eq (take (length f) w) f ≡ true → bytes_eq (f ++ x) w ≡ bytes_eq x (drop (length f) w)
same_front [] w x h e = refl
same_front (y ∷ f) [] x h e = absurd (omega (arith, h))
same_front (y ∷ f) (z ∷ w) x h e = let g = both (z == y) (bytes_eq (take (length f) w) f) e in rw (eq-eqb y z (sym (eqb-true z y g.0))) (same_front f w x (omega (arith, h)) g.1)
  where
    both : (a b : Bool) → (a && b) ≡ true → (a ≡ true) × (b ≡ true)
    both true true h = (refl, refl)
    both true false h = absurd (cc)
    both false b h = absurd (cc)

pub other_front : (f w x : List ℕ) → length f ≤ length w → bytes_eq (take (length f) w) f ≡ false → bytes_eq (f ++ x) w ≡ false
other_front [] w x h e = absurd (no e)
  where
    no : true ≡ false → ⊥
    no e = cc
other_front (y ∷ f) [] x h e = refl
other_front (y ∷ f) (z ∷ w) x h e = (elim (z == y) as (λ t. (z == y) ≡ t → (t && bytes_eq (take (length f) w) f) ≡ false → ((y == z) && bytes_eq (f ++ x) w) ≡ false) [
  | true ↦ λ g k. rw (other_front f w x (omega (arith, h)) k) (and_false (y == z))
  | false ↦ λ g k. rw (other y z g) refl
]) refl e
  where
    other : (y z : ℕ) → (z == y) ≡ false → (y == z) ≡ false
    other y z g = ne_eqb y z (λ q. clash (sym (eq-eqb z y (sym q)) ∙ g))
      where
        clash : true ≡ false → ⊥
        clash e = cc

-- ---- ternary digits

pub digit_same : (k m f b d x : ℕ) (w rest : List ℕ) → w ≡ x ∷ rest → digit_text (bit_at f k) (bit_at b k) ≡ d ∷ [] → m ≡ suc k → x ≡ d → bytes_eq (ternary_text m f b) w ≡ bytes_eq (ternary_text k f b) rest
unfolding ternary_text
digit_same k m f b d x w rest h e s q = rw (h, s, e, eq-eqb d x (sym q)) refl

pub digit_other : (k m f b d x : ℕ) (w rest : List ℕ) → w ≡ x ∷ rest → digit_text (bit_at f k) (bit_at b k) ≡ d ∷ [] → m ≡ suc k → (x ≡ d → ⊥) → bytes_eq (ternary_text m f b) w ≡ false
unfolding ternary_text
digit_other k m f b d x w rest h e s q = rw (h, s, e, ne_eqb d x (λ z. q (sym z))) refl

not_empty : (w : List ℕ) → 0 < length w → bytes_eq w [] ≡ false
not_empty [] h = absurd (omega (arith, h))
not_empty (x ∷ w) h = refl

pub digit_none : (m f b : ℕ) (w : List ℕ) → 0 < m → w ≡ [] → bytes_eq (ternary_text m f b) w ≡ false
digit_none m f b w h e = rw e (not_empty (ternary_text m f b) (omega (arith, h, ternary_size m f b)))

pub digits_done : (k f b : ℕ) (rest : List ℕ) → k ≤ 0 → bytes_eq (ternary_text k f b) rest ≡ bytes_eq [] rest
unfolding ternary_text
digits_done zero f b rest h = refl
digits_done (suc k) f b rest h = absurd (omega arith)

pub empty_test : (w : List ℕ) → (length w == 0) ≡ bytes_eq [] w
empty_test [] = refl
empty_test (x ∷ w) = ne_eqb (length (x ∷ w)) 0 (λ e. omega (arith, e))

-- ---- an address with a length

pub same_bytes : (w : List ℕ) → bytes_eq w w ≡ true
same_bytes [] = refl
same_bytes (x ∷ xs) = rw (eq-eqb x x refl, same_bytes xs) refl

pub bytes_same : (x y : List ℕ) → bytes_eq x y ≡ true → x ≡ y
bytes_same x y e = slice_cmp-IsAntisymmetric nat_cmp-IsAntisymmetric x y ((Equal-is (slice_cmp nat_cmp x y)).0 (is_eq-slice_cmp x y ∙ e))

-- with another address before the slash
pub other_address : (a : ℕ) (l w front : List ℕ) → a < 2 ^ 32 → front ≡ (cut_at 47 w).0 → bytes_eq (address_text a) front ≡ false → bytes_eq (address_text a ++ codes "/" ++ l) w ≡ false
other_address a l w front h e d = go (bytes_eq (address_text a ++ codes "/" ++ l) w) refl
  where
    go : (t : Bool) → bytes_eq (address_text a ++ codes "/" ++ l) w ≡ t → t ≡ false
    go false g = refl
    go true g =
        let s : address_text a ++ (47 ∷ l) ≡ w = sym (append_assoc (address_text a) (codes "/") l) ∙ bytes_same (address_text a ++ codes "/" ++ l) w g in
        let c : (cut_at 47 w).0 ≡ address_text a = ap (λ v. (cut_at 47 v).0) (sym s) ∙ ap (λ q. q.0) (cut_back 47 (address_text a) (47 ∷ l) (address_plain 47 a refl refl h) refl) in
        sym (same_bytes (address_text a)) ∙ ap (bytes_eq (address_text a)) (sym (e ∙ c)) ∙ d

pub own_address : (a : ℕ) (l w front : List ℕ) → bytes_eq (address_text a) front ≡ true → bytes_eq (front ++ codes "/" ++ l) w ≡ bytes_eq (address_text a ++ codes "/" ++ l) w
own_address a l w front e = ap (λ v. bytes_eq (v ++ codes "/" ++ l) w) (sym (bytes_same (address_text a) front e))
