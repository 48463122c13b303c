use Rattle.std.proofs.Common.{ℕ, zero, suc, ◌≡◌, ◌<◌, ◌+◌, ◌⊎◌, inl, inr, List, [], ◌∷◌, ◌++◌, map, take, length, get_or, Option, Some, None, All, AllPairs, Any, refl, ap, sym, ◌∙◌, subst, arith}
use Rattle.std.specs.Option.{option_or}
use Rattle.std.proofs.lemmas.List.{take_more, get_or-take, length-take-le, get_or_default}
use Rattle.std.proofs.lemmas.List.Elements.{All-map, All-append, All-head, All-tail, All-nil}
use Rattle.std.proofs.lemmas.List.Kept.{AllPairs-cons}
use Rattle.hdr_bits.specs.declared.header.Header.{Header}
use Rattle.hdr_bits.specs.declared.cube.Cube.{Cube}
use Rattle.hdr_bits.specs.HeaderBits.{number, IsHeader}
use Rattle.hdr_bits.specs.CubeBits.{IsIn, IsStar}
use Rattle.cube_alg.specs.declared.cut.Piece.{Piece}
use Rattle.cube_alg.specs.declared.stamp.Stamp.{Stamp}
use Rattle.cube_alg.specs.Pairs.{IsInside}
use Rattle.cube_alg.specs.Pieces.{value_of, AreApartPieces}
use Rattle.cube_alg.proofs.ValueLemmas.{value_of-append, value_one}
use Rattle.cube_alg.proofs.CutLemmas.{in_all}
use Rattle.net_types.specs.declared.config.NatRule.{NatRule}
use Rattle.nat_static.specs.declared.rules.Direction.{Direction}
use Rattle.nat_static.specs.Rules.{applying, outer_applying, translated}
use Rattle.nat_static.specs.Pieces.{ReplacesFixed, AreApartStamps, Translates, TellRule, HasRule, IsTranslated, AddsStamps, AreStamps, with_stamps}
use Rattle.nat_static.proofs.RuleLemmas.{both_right}
use Rattle.nat_static.proofs.FixedLemmas.{both_fixed}

-- ---- behind the rules' pieces one for all headers
pub closed : (pieces : List Piece) (rest : Piece) (n : ℕ) → ((k : ℕ) → k < 112 → IsStar rest.cube k) → rest.value ≡ n → (h : ℕ) → value_of (pieces ++ rest ∷ []) h ≡ option_or (value_of pieces h) (Some n)
closed pieces rest n s v h =
    value_of-append pieces (rest ∷ []) h ∙ ap (λ o. option_or (value_of pieces h) o) (value_one rest h (in_all rest.cube h s) ∙ ap Some v)

some_value : (o : Option ℕ) (n : ℕ) → (m : ℕ) × (option_or o (Some n) ≡ Some m)
some_value None n = (n, refl)
some_value (Some m) n = (m, refl)

-- ---- a list of parts, each with its stamp
get_map : (f : Piece → Cube × Stamp) (ps : List Piece) (i : ℕ) (d : Cube × Stamp) (e : Piece) → i < length ps → get_or (map f ps) i d ≡ f (get_or ps i e)
get_map f [] i d e l = absurd (omega arith)
get_map f (p ∷ ps) zero d e l = refl
get_map f (p ∷ ps) (suc i) d e l = get_map f ps i d e (omega arith)

length_map : (f : Piece → Cube × Stamp) (ps : List Piece) → length (map f ps) ≡ length ps
length_map f [] = refl
length_map f (p ∷ ps) = ap suc (length_map f ps)

stamped_apart : (d : Direction) (rules : List NatRule) (n : ℕ) (ps : List Piece) → AllPairs AreApartPieces ps → AllPairs AreApartStamps (map (with_stamps d rules n) ps)
stamped_apart d rules n ps a i j x l m h y z =
    let f = with_stamps d rules n in
    let e : Piece = record { cube = x.0; value = 0 } in
    let k : j < length ps = (let q = length_map f ps in omega (arith, q)) in
    a i j e l k h (subst (λ t. IsIn t.0 h) (get_map f ps i x e (omega arith)) y) (subst (λ t. IsIn t.0 h) (get_map f ps j x e k) z)

stamped_holds : (d : Direction) (rules : List NatRule) (n : ℕ) (ps : List Piece) (h : ℕ) → Any (λ p. IsIn p.cube h) ps → Any (λ p. IsIn p.0 h) (map (with_stamps d rules n) ps)
stamped_holds d rules n ps h a =
    let f = with_stamps d rules n in
    let q = length_map f ps in
    (a.0, f a.1, omega (arith, q, a.2), get_map f ps a.0 (f a.1) a.1 a.2 ∙ ap f a.3, a.4)

-- the parts of a cube whose headers all have one rule, cut by the outer rules
module _ (d : Direction) (rules : List NatRule) (part : Piece) (outer : List Piece) where
  one_translated : HasRule (applying d rules) rules part → TellRule (outer_applying d rules) rules outer → (q : Piece) → IsInside q.cube part.cube → ((h : ℕ) → IsIn q.cube h → value_of outer h ≡ Some q.value) → IsTranslated d rules (with_stamps d rules part.value q)
  one_translated has tells q inside each =
      let own : HasRule (applying d rules) rules (record { cube = q.cube; value = part.value }) = λ h v i. has h v (inside (number h) i) in
      let also : HasRule (outer_applying d rules) rules q = λ h v i. sym (tells h v) ∙ each (number h) i in
      record {
        exact = λ h v i. both_right d rules h part.value q.value (own h v i) (also h v i);
        fixed = both_fixed d rules part.value q.value q.cube own also;
      }

  pub adds_parts : (qs : List Piece) (old new : List (Cube × Stamp)) → HasRule (applying d rules) rules part → TellRule (outer_applying d rules) rules outer → All (λ q. IsInside q.cube part.cube) qs → AllPairs AreApartPieces qs → All (λ q. (h : ℕ) → IsIn q.cube h → value_of outer h ≡ Some q.value) qs → ((h v : ℕ) → IsIn part.cube h → value_of outer h ≡ Some v → Any (λ q. IsIn q.cube h) qs) → new ≡ old ++ map (with_stamps d rules part.value) qs → AddsStamps d rules part.cube old new
  adds_parts qs old new has tells inside apart each holder e =
      let f = with_stamps d rules part.value in
      record {
        more = map f qs;
        added = e;
        apart = stamped_apart d rules part.value qs apart;
        inside = All-map (λ x. IsInside x.0 part.cube) f qs inside;
        covers = λ h v i. (let s = some_value (outer_applying d rules h) (length rules) in stamped_holds d rules part.value qs (number h) (holder (number h) s.0 i (tells h v ∙ s.1)));
        each = All-map (IsTranslated d rules) f qs (λ i x l. one_translated has tells (get_or qs i x) (inside i x l) (each i x l));
      }

-- ---- lists one behind another
pairs_head : (x : Cube × Stamp) (xs : List (Cube × Stamp)) → AllPairs AreApartStamps (x ∷ xs) → All (AreApartStamps x) xs
pairs_head x xs a = λ k d l. a 0 (suc k) d (omega arith) (omega arith)

pairs_tail : (x : Cube × Stamp) (xs : List (Cube × Stamp)) → AllPairs AreApartStamps (x ∷ xs) → AllPairs AreApartStamps xs
pairs_tail x xs a = λ i j d l m. a (suc i) (suc j) d (omega arith) (omega arith)

pairs_append : (xs ys : List (Cube × Stamp)) → AllPairs AreApartStamps xs → AllPairs AreApartStamps ys → All (λ x. All (AreApartStamps x) ys) xs → AllPairs AreApartStamps (xs ++ ys)
pairs_append [] ys a b c = b
pairs_append (x ∷ xs) ys a b c =
    AllPairs-cons AreApartStamps x (xs ++ ys) (All-append (AreApartStamps x) xs ys (pairs_head x xs a) (All-head (λ q. All (AreApartStamps q) ys) x xs c)) (pairs_append xs ys (pairs_tail x xs a) b (All-tail (λ q. All (AreApartStamps q) ys) x xs c))

module _ {X : Type 0} (P : X → Type 0) where
  any_more : (x : X) (xs : List X) → Any P xs → Any P (x ∷ xs)
  any_more x xs a = (suc a.0, a.1, omega (arith, a.2), a.3, a.4)

  any_left : (xs ys : List X) → Any P xs → Any P (xs ++ ys)
  any_left [] ys a = absurd (omega (arith, a.2))
  any_left (x ∷ xs) ys (zero, y, l, e, p) = (0, y, omega arith, e, p)
  any_left (x ∷ xs) ys (suc k, y, l, e, p) = any_more x (xs ++ ys) (any_left xs ys (k, y, omega (arith, l), e, p))

  any_right : (xs ys : List X) → Any P ys → Any P (xs ++ ys)
  any_right [] ys a = a
  any_right (x ∷ xs) ys a = any_more x (xs ++ ys) (any_right xs ys a)

  any_last : (xs : List X) (x : X) → Any P (xs ++ x ∷ []) → Any P xs ⊎ P x
  any_last [] x (zero, y, l, e, p) = inr (subst P (sym e) p)
  any_last [] x (suc k, y, l, e, p) = absurd (omega (arith, l))
  any_last (z ∷ xs) x (zero, y, l, e, p) = inl (0, y, omega arith, e, p)
  any_last (z ∷ xs) x (suc k, y, l, e, p) = elim (any_last xs x (k, y, omega (arith, l), e, p)) [
    | inl a ↦ inl (any_more z xs a)
    | inr a ↦ inr a
  ]

  any_none : Any P [] → ⊥
  any_none a = absurd (omega (arith, a.2))

  any_of : (xs : List X) → All (λ x. P x → ⊥) xs → Any P xs → ⊥
  any_of xs f a = f a.0 a.1 a.2 (subst P (sym a.3) a.4)

-- ---- the stamps for one part more
module _ (d : Direction) (rules : List NatRule) where
  pub stamps_none : AreStamps d rules [] []
  stamps_none =
      record {
        apart = λ i j x l m. absurd (omega (arith, m));
        inside = All-nil _;
        covers = λ h v a. absurd (any_none (λ p. IsIn p.cube (number h)) a);
        each = All-nil _;
      }

  next_part : (ps : List Piece) (p : Piece) (old new : List (Cube × Stamp)) → All (λ q. AreApartPieces q p) ps → AreStamps d rules ps old → AddsStamps d rules p.cube old new → AreStamps d rules (ps ++ p ∷ []) new
  next_part ps p old new apart a b =
      subst (AreStamps d rules (ps ++ p ∷ [])) (sym b.added) (record {
        apart = pairs_append old b.more a.apart b.apart (λ i x l. λ j y m. λ h u w. any_of (λ q. IsIn q.cube h) ps (λ k z n c. apart k z n h c (b.inside j y m h w)) (a.inside i x l h u));
        inside = All-append In old b.more (λ i x l. λ h u. any_left (λ q. IsIn q.cube h) ps (p ∷ []) (a.inside i x l h u)) (λ j y m. λ h w. any_right (λ q. IsIn q.cube h) ps (p ∷ []) (0, p, omega arith, refl, b.inside j y m h w));
        covers = λ h v c. elim (any_last (λ q. IsIn q.cube (number h)) ps p c) [
          | inl x ↦ any_left (λ y. IsIn y.0 (number h)) old b.more (a.covers h v x)
          | inr x ↦ any_right (λ y. IsIn y.0 (number h)) old b.more (b.covers h v x)
        ];
        each = All-append (IsTranslated d rules) old b.more a.each b.each;
      })
    where
      In : Cube × Stamp → Type 0
      In x = (h : ℕ) → IsIn x.0 h → Any (λ q. IsIn q.cube h) (ps ++ p ∷ [])

  pub stamps_more : (parts : List Piece) (i : ℕ) (p : Piece) (old new : List (Cube × Stamp)) → i < length parts → p ≡ get_or parts i p → AllPairs AreApartPieces parts → AreStamps d rules (take i parts) old → AddsStamps d rules p.cube old new → AreStamps d rules (take (i + 1) parts) new
  stamps_more parts i p old new l e apart a b =
      let s : take (i + 1) parts ≡ take i parts ++ p ∷ [] = rw (← e) at (take_more parts i p l) in
      subst (λ ps. AreStamps d rules ps new) (sym s) (next_part (take i parts) p old new (λ j x m. earlier j x m) a b)
    where
      earlier : (j : ℕ) (x : Piece) → j < length (take i parts) → AreApartPieces (get_or (take i parts) j x) p
      earlier j x m =
          let n = length-take-le i parts (omega arith) in
          let k : j < i = omega (arith, n, m) in
          let g : get_or (take i parts) j x ≡ get_or parts j x = get_or-take i parts j x k in
          let same : get_or parts i x ≡ p = get_or_default parts i x p l ∙ sym e in
          λ h u w. apart j i x k l h (subst (λ t. IsIn t.cube h) g u) (subst (λ t. IsIn t.cube h) (sym same) w)

-- ---- the pieces of all headers
pub tells : (rule : Header → Option ℕ) (rules : List NatRule) (before closed : List Piece) → ((h : Header) → IsHeader h → value_of before (number h) ≡ rule h) → ((h : ℕ) → value_of closed h ≡ option_or (value_of before h) (Some (length rules))) → TellRule rule rules closed
tells rule rules before closed f g h v = g (number h) ∙ ap (λ o. option_or o (Some (length rules))) (f h v)

pub have : (rule : Header → Option ℕ) (rules : List NatRule) (pieces parts : List Piece) → TellRule rule rules pieces → All (λ p. (h : ℕ) → IsIn p.cube h → value_of pieces h ≡ Some p.value) parts → All (HasRule rule rules) parts
have rule rules pieces parts t a = λ i x l. λ h v n. sym (t h v) ∙ a i x l (number h) n

pub stamps_hold : (d : Direction) (rules : List NatRule) (rule : Header → Option ℕ) (pieces parts : List Piece) (stamps : List (Cube × Stamp)) → TellRule rule rules pieces → ((h v : ℕ) → value_of pieces h ≡ Some v → Any (λ p. IsIn p.cube h) parts) → AreStamps d rules parts stamps → (h : Header) → IsHeader h → Any (λ x. IsIn x.0 (number h)) stamps
stamps_hold d rules rule pieces parts stamps t holder a h v =
    let s = some_value (rule h) (length rules) in
    a.covers h v (holder (number h) s.0 (t h v ∙ s.1))

pub stamps_exact : (d : Direction) (rules : List NatRule) (parts : List Piece) (stamps : List (Cube × Stamp)) → AreStamps d rules parts stamps → All (Translates (translated d rules)) stamps
stamps_exact d rules parts stamps a = λ i x l. (a.each i x l).exact

pub stamps_fixed : (d : Direction) (rules : List NatRule) (parts : List Piece) (stamps : List (Cube × Stamp)) → AreStamps d rules parts stamps → All (λ p. ReplacesFixed p.1 p.0) stamps
stamps_fixed d rules parts stamps a = λ i x l. (a.each i x l).fixed
