-- Tests of some member of a list, and the part of a sorted list that has a number.
use Rattle.std.proofs.Common.{◌≡◌, ⊎_elim, ℕ, ◌+◌, ◌-◌, ◌<◌, ◌≤◌, Bool, true, false, List, [], ◌∷◌, length, take, drop, get_or, refl, sym, ap, ◌∙◌, subst, arith, eq-eqb, eqb-true, ltb-true}
use Rattle.std.specs.Prelude.{◌&&◌, ◌||◌, ◌==◌, map, nat_lt, nat_le, min, Contains}
use Rattle.std.specs.List.{list_any}
use Rattle.std.specs.List.Sorted.{IsPartitionPoint}
use Rattle.std.proofs.lemmas.Bool.{false≢true, cases_lt, leb-true, leb-false, ltb-false}
use Rattle.std.proofs.lemmas.List.{get_or-drop, get_or-take, length-drop, length-take}
use Rattle.net_types.proofs.Members.{here, there, from_any, to_any}

pub and_left : (a b : Bool) → (a && b) ≡ true → a ≡ true
and_left true b e = refl
and_left false b e = absurd (false≢true e)

pub and_right : (a b : Bool) → (a && b) ≡ true → b ≡ true
and_right true b e = e
and_right false b e = absurd (false≢true e)

pub and_both : (a b : Bool) → a ≡ true → b ≡ true → (a && b) ≡ true
and_both a b e f = ap (λ x. x && b) e ∙ f

pub not_true : (a : Bool) → (a ≡ true → ⊥) → a ≡ false
not_true true h = absurd (h refl)
not_true false h = refl

pub same_tests : (a b : Bool) → (a ≡ true → b ≡ true) → (b ≡ true → a ≡ true) → a ≡ b
same_tests true b f g = sym (f refl)
same_tests false true f g = g refl
same_tests false false f g = refl

pub any_map : {X Y : Type 0} (p : Y → Bool) (f : X → Y) (xs : List X) → list_any p (map f xs) ≡ list_any (λ x. p (f x)) xs
any_map p f [] = refl
any_map p f (x ∷ xs) = ap (λ b. p (f x) || b) (any_map p f xs)

module _ {X : Type 0} where
  -- tests that agree on the members
  pub any_on : (p q : X → Bool) (xs : List X) → ((x : X) → Contains xs x → p x ≡ q x) → list_any p xs ≡ list_any q xs
  any_on p q [] h = refl
  any_on p q (x ∷ xs) h = ap (λ b. b || list_any p xs) (h x (here x xs)) ∙ ap (λ b. q x || b) (any_on p q xs (λ y c. h y (there x y xs c)))

  pub any_same : (p q : X → Bool) → ((x : X) → p x ≡ q x) → (xs : List X) → list_any p xs ≡ list_any q xs
  any_same p q h xs = any_on p q xs (λ x c. h x)

  -- the part of a list, sorted by a number, that has this number: from the first that is not below it, as far as the
  -- number is not above it
  pub any_run : (n : X → ℕ) (w : ℕ) (xs : List X) (i j : ℕ) → i ≤ length xs → j ≤ length (drop i xs) → IsPartitionPoint (λ y. nat_lt (n y) w ≡ true) (λ y. nat_lt (n y) w ≡ false) xs i → IsPartitionPoint (λ y. nat_le (n y) w ≡ true) (λ y. nat_le (n y) w ≡ false) (drop i xs) j → (p : X → Bool) → list_any p (take j (drop i xs)) ≡ list_any (λ x. (n x == w) && p x) xs
  any_run n w xs i j li lj (below, above) (upto, past) p =
      same_tests _ _
      (λ e.
      (let f = from_any p (take j (drop i xs)) e in
      let k = f.1.0 in
      let lk : k < min j (length (drop i xs)) = rw length-take at f.1.1 in
      let k1 : k < j = omega (arith, min-le_left j (length (drop i xs))) in
      let at : get_or xs (i + k) f.0 ≡ f.0 = sym (get_or-drop i xs k f.0) ∙ (sym (get_or-take j (drop i xs) k f.0 k1) ∙ f.1.2) in
      let in' : i + k < length xs = (let d = length-drop i xs in omega (arith, d)) in
      let u : n f.0 ≤ w = leb-true _ _ (subst (λ x. nat_le (n x) w ≡ true) (get_or-drop i xs k f.0 ∙ at) (upto k f.0 (omega arith) k1)) in
      let v : w ≤ n f.0 = ltb-false _ _ (subst (λ x. nat_lt (n x) w ≡ false) at (above (i + k) f.0 (omega arith) in')) in
      let q : n f.0 ≡ w = omega arith in
      to_any (λ x. (n x == w) && p x) xs f.0 (i + k, in', at) (and_both _ _ (eq-eqb _ _ q) f.2)))
      (λ e.
      (let f = from_any (λ x. (n x == w) && p x) xs e in
      let q : n f.0 ≡ w = eqb-true _ _ (and_left (n f.0 == w) _ f.2) in
      let k = f.1.0 in
      let k1 : i ≤ k = ⊎_elim (λ (s : k < i). (let t : n f.0 < w = ltb-true _ _ (subst (λ x. nat_lt (n x) w ≡ true) f.1.2 (below k f.0 (omega arith) s)) in absurd (omega arith))) (λ s. s) (cases_lt k i) in
      let z : i + (k - i) ≡ k = omega arith in
      let at : get_or (drop i xs) (k - i) f.0 ≡ f.0 = get_or-drop i xs (k - i) f.0 ∙ (ap (λ m. get_or xs m f.0) z ∙ f.1.2) in
      let in' : k - i < length (drop i xs) = (let d = length-drop i xs in let l = f.1.1 in omega (arith, d, l)) in
      let k2 : k - i < j = ⊎_elim (λ s. s) (λ (s : j ≤ k - i). (let t : w < n f.0 = leb-false _ _ (subst (λ x. nat_le (n x) w ≡ false) at (past (k - i) f.0 s in')) in absurd (omega arith))) (cases_lt (k - i) j) in
      let long : k - i < length (take j (drop i xs)) = rw length-take (omega (arith, le-min k2 in')) in
      to_any p (take j (drop i xs)) f.0 (k - i, long, get_or-take j (drop i xs) (k - i) f.0 k2 ∙ at) (and_right (n f.0 == w) _ f.2)))
    where
      le-min : {a b c : ℕ} → a < b → a < c → a < min b c
      le-min {a} {b} {c} h g = omega arith

      min-le_left : (a b : ℕ) → min a b ≤ a
      min-le_left a b = omega arith
