use Rattle.std.proofs.Common.{ℕ, suc, ◌≡◌, ◌<◌, ◌≤◌, ◌+◌, ◌↔◌, IsTrue, inl, inr, Bool, true, false, cond, ◌||◌, List, [], ◌∷◌, ◌++◌, take, length, get_or, slice_get, Option, Some, None, refl, ap, sym, ◌∙◌, subst, arith, true≢false, find, position}
use Rattle.std.specs.List.{position_from}
use Rattle.std.specs.Option.{option_or}
use Rattle.std.proofs.lemmas.Bool.{cases_Bool}
use Rattle.std.proofs.lemmas.List.{take_more, length-take-le}
use Rattle.std.proofs.lemmas.Option.{slice_get_past}
use Rattle.std.proofs.lemmas.Iterator.Adapters.{position_from-zero}
use Rattle.hdr_bits.specs.declared.header.Header.{Header}
use Rattle.hdr_bits.specs.declared.cube.Cube.{Cube}
use Rattle.hdr_bits.specs.HeaderBits.{number, IsHeader}
use Rattle.hdr_bits.specs.CubeBits.{IsIn}
use Rattle.cube_alg.specs.declared.cut.Piece.{Piece}
use Rattle.cube_alg.specs.Pieces.{value_of}
use Rattle.cube_alg.specs.Stamps.{applied, IsMadeFrom}
use Rattle.cube_alg.proofs.StampLemmas.{then_fields}
use Rattle.cube_alg.proofs.ValueLemmas.{value_of-append, option_or-assoc, option_or-none, value_one, value_one_not}
use Rattle.net_types.specs.declared.config.NatRule.{NatRule}
use Rattle.net_types.specs.Translation.{with_dst, with_src, with_outer_dst, with_outer_src, plain_fits_dst, plain_fits_src}
use Rattle.nat_static.specs.declared.rules.Direction.{Direction}
use Rattle.nat_static.specs.declared.rules.Direction.TheVariants.{FromOutside, FromInside}
use Rattle.nat_static.specs.declared.rules.Group.{Group}
use Rattle.nat_static.specs.declared.rules.Group.TheVariants.{Port, Plain, Outer}
use Rattle.nat_static.specs.Sides.{no_stamp, is_protocol}
use Rattle.nat_static.specs.Rules.{rule_stamp, matched_side, fits_port, fits_plain, fits_outer, fits, fits_as, is_in_group, applying, outer_applying, inner_translated, outer_translated, translated, stamp_of, stamp_at}
use Rattle.nat_static.specs.Pieces.{AddsRules, both_stamps}
use Rattle.nat_static.proofs.SideLemmas.{of_its_group, of_other_group, applied_to_port, applied_from_port, applied_to, applied_from, applied_outer_src, applied_outer_dst, made_at}

-- ---- the first position
or_cond : (b : Bool) (n : ℕ) (x y : Option ℕ) → cond b (Some n) (option_or x y) ≡ option_or (cond b (Some n) x) y
or_cond true n x y = refl
or_cond false n x y = refl

position_from-append : {X : Type 0} (t : X → Bool) (n : ℕ) (xs ys : List X) → position_from t n (xs ++ ys) ≡ option_or (position_from t n xs) (position_from t (n + length xs) ys)
position_from-append t n [] ys = ap (λ k. position_from t k ys) (omega arith)
position_from-append t n (x ∷ xs) ys =
    let e : (n + 1) + length xs ≡ n + length (x ∷ xs) = omega arith in
    ap (λ o. cond (t x) (Some n) o) (position_from-append t (n + 1) xs ys ∙ ap (λ k. option_or (position_from t (n + 1) xs) (position_from t k ys)) e) ∙ or_cond (t x) n (position_from t (n + 1) xs) (position_from t (n + length (x ∷ xs)) ys)

pub position_from-more : {X : Type 0} (t : X → Bool) (xs : List X) (i : ℕ) (x : X) → i < length xs → x ≡ get_or xs i x → position_from t 0 (take (i + 1) xs) ≡ option_or (position_from t 0 (take i xs)) (cond (t x) (Some i) None)
position_from-more t xs i x l e =
    let s : take (i + 1) xs ≡ take i xs ++ x ∷ [] = rw (← e) at (take_more xs i x l) in
    let n : 0 + length (take i xs) ≡ i = omega (arith, length-take-le i xs (omega arith)) in
    rw s (position_from-append t 0 (take i xs) (x ∷ []) ∙ ap (λ k. option_or (position_from t 0 (take i xs)) (cond (t x) (Some k) None)) n)

-- the element at the first position
pub record IsFirst {X : Type 0} (t : X → Bool) (xs : List X) (j : ℕ) : Type 0 where
  pub item : X
  pub there : slice_get xs j ≡ Some item
  pub passes : t item ≡ true
  pub found : find t xs ≡ Some item

some_same : (a b : ℕ) → Some a ≡ Some b → a ≡ b
some_same a b e = cc

first_is : {X : Type 0} (t : X → Bool) (k n : ℕ) (xs : List X) → position_from t k xs ≡ Some n → (j : ℕ) × (n ≡ k + j) × IsFirst t xs j
first_is t k n [] e = absurd cc
first_is t k n (x ∷ xs) e =
    elim (cases_Bool (t x)) [
      | inl p ↦ let g : Some k ≡ Some n = ap (λ b. cond b (Some k) (position_from t (k + 1) xs)) (sym p) ∙ e in
          let q = some_same k n g in
          (0, omega (arith, q), record { item = x; there = refl; passes = p; found = ap (λ b. cond b (Some x) (find t xs)) p })
      | inr p ↦ let g : position_from t (k + 1) xs ≡ Some n = ap (λ b. cond b (Some k) (position_from t (k + 1) xs)) (sym p) ∙ e in
          let r = first_is t (k + 1) n xs g in
          (suc r.0, omega (arith, r.1), record { item = r.2.item; there = r.2.there; passes = r.2.passes; found = ap (λ b. cond b (Some x) (find t xs)) p ∙ r.2.found })
    ]

pub first_of : {X : Type 0} (t : X → Bool) (n : ℕ) (xs : List X) → position t xs ≡ Some n → IsFirst t xs n
first_of t n xs e =
    let r = first_is t 0 n xs (sym (position_from-zero t xs) ∙ e) in
    let q : r.0 ≡ n = omega (arith, r.1) in
    subst (λ j. IsFirst t xs j) q r.2

none_is : {X : Type 0} (t : X → Bool) (k : ℕ) (xs : List X) → position_from t k xs ≡ None → find t xs ≡ None
none_is t k [] e = refl
none_is t k (x ∷ xs) e =
    elim (cases_Bool (t x)) [
      | inl p ↦ let g : Some k ≡ None = ap (λ b. cond b (Some k) (position_from t (k + 1) xs)) (sym p) ∙ e in absurd cc
      | inr p ↦ let g : position_from t (k + 1) xs ≡ None = ap (λ b. cond b (Some k) (position_from t (k + 1) xs)) (sym p) ∙ e in
          ap (λ b. cond b (Some x) (find t xs)) p ∙ none_is t (k + 1) xs g
    ]

pub none_of : {X : Type 0} (t : X → Bool) (xs : List X) → position t xs ≡ None → find t xs ≡ None
none_of t xs e = none_is t 0 xs (sym (position_from-zero t xs) ∙ e)

-- ---- which rule applies: a port rule, else a plain one, else none
pub data Applies (d : Direction) (rules : List NatRule) (h : Header) (n : ℕ) : Type 0 where
  as_port : IsFirst (fits_port d h) rules n → Applies d rules h n
  as_plain : find (fits_port d h) rules ≡ None → IsFirst (fits_plain d h) rules n → Applies d rules h n
  as_none : find (fits_port d h) rules ≡ None → find (fits_plain d h) rules ≡ None → n ≡ length rules → Applies d rules h n

applies_case : (d : Direction) (rules : List NatRule) (h : Header) (n : ℕ) (p q : Option ℕ) → position (fits_port d h) rules ≡ p → position (fits_plain d h) rules ≡ q → option_or (option_or p q) (Some (length rules)) ≡ Some n → Applies d rules h n
applies_case d rules h n (Some i) q e f g = as_port (first_of (fits_port d h) n rules (e ∙ g))
applies_case d rules h n None (Some i) e f g = as_plain (none_of (fits_port d h) rules e) (first_of (fits_plain d h) n rules (f ∙ g))
applies_case d rules h n None None e f g =
    as_none (none_of (fits_port d h) rules e) (none_of (fits_plain d h) rules f) (sym (some_same (length rules) n g))

pub applies : (d : Direction) (rules : List NatRule) (h : Header) (n : ℕ) → option_or (applying d rules h) (Some (length rules)) ≡ Some n → Applies d rules h n
applies d rules h n g =
    applies_case d rules h n (position (fits_port d h) rules) (position (fits_plain d h) rules) refl refl g

right_port : (d : Direction) (rules : List NatRule) (h : Header) (r : NatRule) → fits_port d h r ≡ true → find (fits_port d h) rules ≡ Some r → applied (rule_stamp d r) h ≡ inner_translated d rules h
right_port FromOutside rules h r f e = applied_to_port r.kind r.local r.local_port _ h f ∙ ap (λ x. with_dst h x (find (plain_fits_dst h) rules)) (sym e)
right_port FromInside rules h r f e = applied_from_port r.kind r.global r.global_port _ h f ∙ ap (λ x. with_src h x (find (plain_fits_src h) rules)) (sym e)

right_plain : (d : Direction) (rules : List NatRule) (h : Header) (r : NatRule) → find (fits_port d h) rules ≡ None → fits_plain d h r ≡ true → find (fits_plain d h) rules ≡ Some r → applied (rule_stamp d r) h ≡ inner_translated d rules h
right_plain FromOutside rules h r n f e =
    applied_to r.kind r.local r.local_port _ h f ∙ (ap (λ x. with_dst h None x) (sym e) ∙ ap (λ x. with_dst h x (find (plain_fits_dst h) rules)) (sym n))
right_plain FromInside rules h r n f e =
    applied_from r.kind r.global r.global_port _ h f ∙ (ap (λ x. with_src h None x) (sym e) ∙ ap (λ x. with_src h x (find (plain_fits_src h) rules)) (sym n))

right_none : (d : Direction) (rules : List NatRule) (h : Header) → find (fits_port d h) rules ≡ None → find (fits_plain d h) rules ≡ None → applied no_stamp h ≡ inner_translated d rules h
right_none FromOutside rules h n e = ap (λ x. with_dst h None x) (sym e) ∙ ap (λ x. with_dst h x (find (plain_fits_dst h) rules)) (sym n)
right_none FromInside rules h n e = ap (λ x. with_src h None x) (sym e) ∙ ap (λ x. with_src h x (find (plain_fits_src h) rules)) (sym n)

right_case : (d : Direction) (rules : List NatRule) (h : Header) (n : ℕ) → Applies d rules h n → applied (stamp_at (rule_stamp d) rules n) h ≡ inner_translated d rules h
right_case d rules h n (as_port f) = ap (λ o. applied (stamp_of (rule_stamp d) o) h) f.there ∙ right_port d rules h f.item f.passes f.found
right_case d rules h n (as_plain e f) = ap (λ o. applied (stamp_of (rule_stamp d) o) h) f.there ∙ right_plain d rules h f.item e f.passes f.found
right_case d rules h n (as_none e f g) =
    let l : length rules ≤ n = omega (arith, g) in
    ap (λ o. applied (stamp_of (rule_stamp d) o) h) (slice_get_past rules n l) ∙ right_none d rules h e f

-- the stamp of the rule that applies does what the translation does
pub stamp_right : (d : Direction) (rules : List NatRule) (h : Header) (n : ℕ) → option_or (applying d rules h) (Some (length rules)) ≡ Some n → applied (stamp_at (rule_stamp d) rules n) h ≡ inner_translated d rules h
stamp_right d rules h n g = right_case d rules h n (applies d rules h n g)

-- ---- which outer rule applies
pub data OuterApplies (d : Direction) (rules : List NatRule) (h : Header) (n : ℕ) : Type 0 where
  as_first : IsFirst (fits_outer d h) rules n → OuterApplies d rules h n
  as_rest : find (fits_outer d h) rules ≡ None → n ≡ length rules → OuterApplies d rules h n

outer_case : (d : Direction) (rules : List NatRule) (h : Header) (n : ℕ) (p : Option ℕ) → position (fits_outer d h) rules ≡ p → option_or p (Some (length rules)) ≡ Some n → OuterApplies d rules h n
outer_case d rules h n (Some i) e g = as_first (first_of (fits_outer d h) n rules (e ∙ g))
outer_case d rules h n None e g = as_rest (none_of (fits_outer d h) rules e) (sym (some_same (length rules) n g))

outer_applies : (d : Direction) (rules : List NatRule) (h : Header) (n : ℕ) → option_or (outer_applying d rules h) (Some (length rules)) ≡ Some n → OuterApplies d rules h n
outer_applies d rules h n g = outer_case d rules h n (position (fits_outer d h) rules) refl g

right_outer : (d : Direction) (rules : List NatRule) (h g : Header) (r : NatRule) → fits_outer d h r ≡ true → find (fits_outer d h) rules ≡ Some r → applied (rule_stamp d r) g ≡ outer_translated d rules h g
right_outer FromOutside rules h g r f e = applied_outer_src r.kind r.local r.local_port _ g f ∙ ap (λ x. with_outer_src g x) (sym e)
right_outer FromInside rules h g r f e = applied_outer_dst r.kind r.global r.global_port _ g f ∙ ap (λ x. with_outer_dst g x) (sym e)

right_no_outer : (d : Direction) (rules : List NatRule) (h g : Header) → find (fits_outer d h) rules ≡ None → applied no_stamp g ≡ outer_translated d rules h g
right_no_outer FromOutside rules h g e = ap (λ x. with_outer_src g x) (sym e)
right_no_outer FromInside rules h g e = ap (λ x. with_outer_dst g x) (sym e)

outer_right_case : (d : Direction) (rules : List NatRule) (h g : Header) (n : ℕ) → OuterApplies d rules h n → applied (stamp_at (rule_stamp d) rules n) g ≡ outer_translated d rules h g
outer_right_case d rules h g n (as_first f) = ap (λ o. applied (stamp_of (rule_stamp d) o) g) f.there ∙ right_outer d rules h g f.item f.passes f.found
outer_right_case d rules h g n (as_rest e f) =
    let l : length rules ≤ n = omega (arith, f) in
    ap (λ o. applied (stamp_of (rule_stamp d) o) g) (slice_get_past rules n l) ∙ right_no_outer d rules h g e

pub outer_right : (d : Direction) (rules : List NatRule) (h g : Header) (n : ℕ) → option_or (outer_applying d rules h) (Some (length rules)) ≡ Some n → applied (stamp_at (rule_stamp d) rules n) g ≡ outer_translated d rules h g
outer_right d rules h g n e = outer_right_case d rules h g n (outer_applies d rules h n e)

-- both replacements are judged on the header as it comes
in_one : (d : Direction) (rules : List NatRule) (h : Header) → outer_translated d rules h (inner_translated d rules h) ≡ translated d rules h
in_one FromOutside rules h = refl
in_one FromInside rules h = refl

pub both_right : (d : Direction) (rules : List NatRule) (h : Header) (n m : ℕ) → option_or (applying d rules h) (Some (length rules)) ≡ Some n → option_or (outer_applying d rules h) (Some (length rules)) ≡ Some m → applied (both_stamps d rules n m) h ≡ translated d rules h
both_right d rules h n m e f =
    then_fields (stamp_at (rule_stamp d) rules n) (stamp_at (rule_stamp d) rules m) h ∙ (ap (λ g. applied (stamp_at (rule_stamp d) rules m) g) (stamp_right d rules h n e) ∙ (outer_right d rules h (inner_translated d rules h) m f ∙ in_one d rules h))

or_true : (x : Bool) → (x || true) ≡ true
or_true true = refl
or_true false = refl

-- a rule of one of the tests matches
any_fits : (d : Direction) (h : Header) (r : NatRule) → (fits_port d h r || fits_plain d h r) ≡ true → fits d h r ≡ true
any_fits d h r e = ap (λ b. fits_outer d h r || b) e ∙ or_true (fits_outer d h r)

same_item : (x y : NatRule) → Some x ≡ Some y → x ≡ y
same_item x y e = cc

fits_case : (d : Direction) (rules : List NatRule) (h : Header) (n : ℕ) (r : NatRule) → slice_get rules n ≡ Some r → Applies d rules h n → fits d h r ≡ true
fits_case d rules h n r e (as_port f) =
    subst (λ x. fits d h x ≡ true) (same_item f.item r (sym f.there ∙ e)) (any_fits d h f.item (ap (λ b. b || fits_plain d h f.item) f.passes))
fits_case d rules h n r e (as_plain z f) =
    subst (λ x. fits d h x ≡ true) (same_item f.item r (sym f.there ∙ e)) (any_fits d h f.item (ap (λ b. fits_port d h f.item || b) f.passes ∙ or_true (fits_port d h f.item)))
fits_case d rules h n r e (as_none z f g) =
    let l : length rules ≤ n = omega (arith, g) in
    let s : None ≡ Some r = sym (slice_get_past rules n l) ∙ e in
    absurd cc

-- the rule that applies matches
pub rule_fits : (d : Direction) (rules : List NatRule) (h : Header) (n : ℕ) (r : NatRule) → slice_get rules n ≡ Some r → option_or (applying d rules h) (Some (length rules)) ≡ Some n → fits d h r ≡ true
rule_fits d rules h n r e g = fits_case d rules h n r e (applies d rules h n g)

outer_fits_case : (d : Direction) (rules : List NatRule) (h : Header) (n : ℕ) (r : NatRule) → slice_get rules n ≡ Some r → OuterApplies d rules h n → fits d h r ≡ true
outer_fits_case d rules h n r e (as_first f) =
    subst (λ x. fits d h x ≡ true) (same_item f.item r (sym f.there ∙ e)) (ap (λ b. b || (fits_port d h f.item || fits_plain d h f.item)) f.passes)
outer_fits_case d rules h n r e (as_rest z g) =
    let l : length rules ≤ n = omega (arith, g) in
    let s : None ≡ Some r = sym (slice_get_past rules n l) ∙ e in
    absurd cc

pub outer_rule_fits : (d : Direction) (rules : List NatRule) (h : Header) (n : ℕ) (r : NatRule) → slice_get rules n ≡ Some r → option_or (outer_applying d rules h) (Some (length rules)) ≡ Some n → fits d h r ≡ true
outer_rule_fits d rules h n r e g = outer_fits_case d rules h n r e (outer_applies d rules h n g)

-- ---- the pieces
its_group : (d : Direction) (g : Group) (h : Header) (r : NatRule) → is_in_group g r.kind ≡ true → fits d h r ≡ fits_as g d h r
its_group FromOutside g h r e = of_its_group r.kind g h.proto _ _ _ e
its_group FromInside g h r e = of_its_group r.kind g h.proto _ _ _ e

other_group : (d : Direction) (g : Group) (h : Header) (r : NatRule) → is_in_group g r.kind ≡ false → fits_as g d h r ≡ false
other_group FromOutside g h r e = of_other_group r.kind g h.proto _ _ _ e
other_group FromInside g h r e = of_other_group r.kind g h.proto _ _ _ e

pub rules_start : (g : Group) (d : Direction) (old : List Piece) → AddsRules g d [] old old
rules_start g d old = record { exact = λ h fits. sym (option_or-none (value_of old (number h))) }

pub rules_skip : (g : Group) (d : Direction) (rules : List NatRule) (old new : List Piece) (i : ℕ) (r : NatRule) → i < length rules → r ≡ get_or rules i r → is_in_group g r.kind ≡ false → AddsRules g d (take i rules) old new → AddsRules g d (take (i + 1) rules) old new
rules_skip g d rules old new i r l e k a =
    record {
      exact = λ h fits. let t = fits_as g d h in
          let z : cond (t r) (Some i) None ≡ None = ap (λ b. cond b (Some i) None) (other_group d g h r k) in
          let m : position_from t 0 (take (i + 1) rules) ≡ position_from t 0 (take i rules) = position_from-more t rules i r l e ∙ (ap (λ o. option_or (position_from t 0 (take i rules)) o) z ∙ option_or-none (position_from t 0 (take i rules))) in
          a.exact h fits ∙ ap (λ o. option_or (value_of old (number h)) o) (sym m);
    }

piece_case : (piece : Piece) (h : ℕ) (b : Bool) → ((IsIn piece.cube h → b ≡ true) × (b ≡ true → IsIn piece.cube h)) → value_of (piece ∷ []) h ≡ cond b (Some piece.value) None
piece_case piece h true m = value_one piece h (m.1 refl)
piece_case piece h false m = value_one_not piece h (λ a. true≢false (sym (m.0 a)))

pub rules_more : (g : Group) (d : Direction) (rules : List NatRule) (old new : List Piece) (i : ℕ) (r : NatRule) (piece : Piece) → i < length rules → r ≡ get_or rules i r → is_in_group g r.kind ≡ true → piece.value ≡ i → ((h : Header) → IsHeader h → ((IsIn piece.cube (number h) → fits d h r ≡ true) × (fits d h r ≡ true → IsIn piece.cube (number h)))) → AddsRules g d (take i rules) old new → AddsRules g d (take (i + 1) rules) old (new ++ piece ∷ [])
rules_more g d rules old new i r piece l e k v m a =
    record {
      exact = λ h valid. let t = fits_as g d h in
          let n = number h in
          let w : value_of (piece ∷ []) (number h) ≡ cond (t r) (Some i) None = piece_case piece (number h) (fits d h r) (m h valid) ∙ (ap (λ b. cond b (Some piece.value) None) (its_group d g h r k) ∙ ap (λ x. cond (t r) (Some x) None) v) in
          let s : position_from t 0 (take (i + 1) rules) ≡ option_or (position_from t 0 (take i rules)) (cond (t r) (Some i) None) = position_from-more t rules i r l e in
          value_of-append new (piece ∷ []) (number h) ∙ (ap (λ o. option_or o (value_of (piece ∷ []) (number h))) (a.exact h valid) ∙ (ap (λ o. option_or (option_or (value_of old (number h)) (position_from t 0 (take i rules))) o) w ∙ (option_or-assoc (value_of old (number h)) (position_from t 0 (take i rules)) (cond (t r) (Some i) None) ∙ ap (λ o. option_or (value_of old (number h)) o) (sym s))));
    }

-- port rules and then plain ones
pub both_kinds : (d : Direction) (rules : List NatRule) (start middle new : List Piece) → start ≡ [] → AddsRules Port d rules start middle → AddsRules Plain d rules middle new → (h : Header) → IsHeader h → value_of new (number h) ≡ applying d rules h
both_kinds d rules start middle new z a b h fits =
    let p = fits_port d h in
    let q = fits_plain d h in
    b.exact h fits ∙ (ap (λ o. option_or o (position_from q 0 rules)) (a.exact h fits ∙ ap (λ x. option_or (value_of x (number h)) (position_from p 0 rules)) z) ∙ (ap (λ o. option_or o (position_from q 0 rules)) (sym (position_from-zero p rules)) ∙ ap (λ o. option_or (position p rules) o) (sym (position_from-zero q rules))))

-- outer rules alone
pub outer_kind : (d : Direction) (rules : List NatRule) (start new : List Piece) → start ≡ [] → AddsRules Outer d rules start new → (h : Header) → IsHeader h → value_of new (number h) ≡ outer_applying d rules h
outer_kind d rules start new z a h fits =
    let p = fits_outer d h in
    a.exact h fits ∙ (ap (λ x. option_or (value_of x (number h)) (position_from p 0 rules)) z ∙ sym (position_from-zero p rules))

-- the headers that a side's stamp makes are those that the rule matches
pub rule_side : (d : Direction) (r : NatRule) (c : Cube) (g : Header) → ((h : ℕ) → IsIn c h ↔ IsTrue (is_protocol r.kind h)) → IsHeader g → IsMadeFrom (matched_side d r) c g ↔ IsTrue (fits d g r)
rule_side FromOutside r c g f valid = made_at FromOutside r.kind r.global r.global_port c g f valid
rule_side FromInside r c g f valid = made_at FromInside r.kind r.local r.local_port c g f valid
