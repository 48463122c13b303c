-- The least address that two of several lists have.
use Rattle.std.proofs.Common.{◌≡◌, ℕ, ◌<◌, ◌≤◌, ◌-◌, suc, min, Bool, true, false, cond, ◌||◌, List, [], ◌∷◌, ◌++◌, length, map, filter, drop, get_or, refl, sym, ap, ◌∙◌, arith}
use Rattle.std.specs.Prelude.{Option, Some, ◌&&◌, nat_le, nat_eq}
use Rattle.std.specs.List.{concat}
use Rattle.std.proofs.lemmas.Bool.{leb-true, leb-false, false≢true}
use Rattle.std.proofs.lemmas.Bool.Decides.{nat_tests}
use Rattle.std.proofs.Math.Seq.{drop-cons}
use Rattle.std.proofs.lemmas.List.Folds.{list_any-append}
use Rattle.topo_links.specs.Check.{has_value, is_shared, lesser, least, least_shared}
use Rattle.topo_links.specs.Shared.{is_in, shared, least_onto}

-- numbers that are equal by the test
nat_same : (a b : ℕ) → nat_eq a b ≡ true → a ≡ b
nat_same a b h = grind (arith, nat_tests)

nat_itself : (a : ℕ) → nat_eq a a ≡ true
nat_itself a = grind (arith, nat_tests)

pub least_onto-least : (xs ys : List ℕ) → least_onto xs (least ys) ≡ least (xs ++ ys)
least_onto-least [] ys = refl
least_onto-least (x ∷ xs) ys = ap (lesser x) (least_onto-least xs ys)

-- a filter has what its list has and the test passes
filter_step : (p : ℕ → Bool) (q x : ℕ) (xs : List ℕ) → has_value q (filter p xs) ≡ (p q && has_value q xs) → has_value q (cond (p x) (x ∷ filter p xs) (filter p xs)) ≡ (p q && (nat_eq q x || has_value q xs))
filter_step p q x xs ih = (elim (nat_eq q x) as (λ b. nat_eq q x ≡ b → has_value q (cond (p x) (x ∷ filter p xs) (filter p xs)) ≡ (p q && (b || has_value q xs))) [
  | true ↦ λ e. here e (p x) refl
  | false ↦ λ e. other e (p x)
]) refl
  where
    here : nat_eq q x ≡ true → (b : Bool) → p x ≡ b → has_value q (cond b (x ∷ filter p xs) (filter p xs)) ≡ (p q && (true || has_value q xs))
    here e true h = rw (e, nat_same q x e, h) refl
    here e false h = ih ∙ rw (nat_same q x e, h) refl

    other : nat_eq q x ≡ false → (b : Bool) → has_value q (cond b (x ∷ filter p xs) (filter p xs)) ≡ (p q && (false || has_value q xs))
    other e true = rw e ih
    other e false = ih

has_filter : (p : ℕ → Bool) (q : ℕ) (xs : List ℕ) → has_value q (filter p xs) ≡ (p q && has_value q xs)
has_filter p q [] = none (p q)
  where
    none : (b : Bool) → false ≡ (b && false)
    none true = refl
    none false = refl
has_filter p q (x ∷ xs) = filter_step p q x xs (has_filter p q xs)

-- how many of the lists have the number
abbrev count : ℕ → List (List ℕ) → ℕ
count q lists = length (filter (has_value q) lists)

in_count : (q : ℕ) (lists : List (List ℕ)) → is_in lists q ≡ nat_le 1 (count q lists)
in_count q [] = refl
in_count q (list ∷ lists) = elim (has_value q list) as (λ b. (b || is_in lists q) ≡ nat_le 1 (length (cond b (list ∷ filter (has_value q) lists) (filter (has_value q) lists)))) [
  | true ↦ more (count q lists)
  | false ↦ in_count q lists
]
  where
    more : (n : ℕ) → true ≡ nat_le 1 (suc n)
    more n = grind (arith, nat_tests)

two : (n : ℕ) → (nat_le 1 n || nat_le 2 n) ≡ nat_le 2 (suc n)
two n = grind (arith, nat_tests)

one_of_two : (n : ℕ) → (nat_le 2 n && nat_le 1 n) ≡ nat_le 2 n
one_of_two n = grind (arith, nat_tests)

-- the addresses of each list that a later one has are those that two lists have
has_shared : (q : ℕ) (lists : List (List ℕ)) → has_value q (shared lists) ≡ is_shared lists q
has_shared q [] = refl
has_shared q (list ∷ lists) =
    list_any-append (nat_eq q) (filter (is_in lists) list) (shared lists)
    ∙ rw (has_filter (is_in lists) q list, has_shared q lists, in_count q lists) (step (has_value q list))
  where
    step : (b : Bool) → ((nat_le 1 (count q lists) && b) || nat_le 2 (count q lists)) ≡ nat_le 2 (length (cond b (list ∷ filter (has_value q) lists) (filter (has_value q) lists)))
    step true = (elim (nat_le 1 (count q lists)) as (λ c. ((c && true) || nat_le 2 (count q lists)) ≡ (c || nat_le 2 (count q lists))) [ true ↦ refl | false ↦ refl ]) ∙ two (count q lists)
    step false = elim (nat_le 1 (count q lists)) as (λ c. ((c && false) || nat_le 2 (count q lists)) ≡ nat_le 2 (count q lists)) [ true ↦ refl | false ↦ refl ]

has_concat : (q : ℕ) (lists : List (List ℕ)) → has_value q (concat lists) ≡ is_in lists q
has_concat q [] = refl
has_concat q (list ∷ lists) = list_any-append (nat_eq q) list (concat lists) ∙ ap (λ b. has_value q list || b) (has_concat q lists)

same_members : (q : ℕ) (lists : List (List ℕ)) → has_value q (shared lists) ≡ has_value q (filter (is_shared lists) (concat lists))
same_members q lists = has_shared q lists ∙ sym (has_filter (is_shared lists) q (concat lists) ∙ ap (λ b. is_shared lists q && b) (has_concat q lists ∙ in_count q lists) ∙ one_of_two (count q lists))

-- the least of a list is one of it, and no other is less
record IsLeast (xs : List ℕ) (m : ℕ) : Type 0 where
  is : least xs ≡ Some m
  there : has_value m xs ≡ true
  low : (q : ℕ) → has_value q xs ≡ true → m ≤ q

at_min : (x n : ℕ) (ys : List ℕ) → has_value n ys ≡ true → (nat_eq (min x n) x || has_value (min x n) ys) ≡ true
at_min x n ys h = (elim (nat_le x n) as (λ b. nat_le x n ≡ b → (nat_eq (min x n) x || has_value (min x n) ys) ≡ true) [
  | true ↦ λ e. (let s : min x n ≡ x = omega (arith, leb-true x n e) in rw (s, nat_itself x) refl)
  | false ↦ λ e. (let s : min x n ≡ n = omega (arith, leb-false x n e) in rw (s, h) (or_true (nat_eq n x)))
]) refl
  where
    or_true : (b : Bool) → (b || true) ≡ true
    or_true true = refl
    or_true false = refl

some_least : (x : ℕ) (xs : List ℕ) → (m : ℕ) × IsLeast (x ∷ xs) m
some_least x [] = (
  x,
  record {
    is = refl;
    there = rw (nat_itself x) refl;
    low = λ q h. only q h;
  },
)
  where
    only : (q : ℕ) → (nat_eq q x || false) ≡ true → x ≤ q
    only q h = (elim (nat_eq q x) as (λ b. nat_eq q x ≡ b → (b || false) ≡ true → x ≤ q) [
      | true ↦ λ e _. omega (arith, nat_same q x e)
      | false ↦ λ e g. absurd (false≢true g)
    ]) refl h
some_least x (y ∷ ys) = both (some_least y ys)
  where
    both : ((m : ℕ) × IsLeast (y ∷ ys) m) → (m : ℕ) × IsLeast (x ∷ y ∷ ys) m
    both (n, h) = (
      min x n,
      record {
        is = rw h.is refl;
        there = at_min x n (y ∷ ys) h.there;
        low = λ q g. (elim (nat_eq q x) as (λ b. nat_eq q x ≡ b → (b || has_value q (y ∷ ys)) ≡ true → min x n ≤ q) [
          | true ↦ λ e _. (let s = nat_same q x e in omega arith)
          | false ↦ λ e k. (let l = h.low q k in omega arith)
        ]) refl g;
      },
    )

-- lists with the same members have the same least
least_same : (xs ys : List ℕ) → ((q : ℕ) → has_value q xs ≡ has_value q ys) → least xs ≡ least ys
least_same [] [] h = refl
least_same [] (y ∷ ys) h = absurd (false≢true (h y ∙ ap (λ b. b || has_value y ys) (nat_itself y)))
least_same (x ∷ xs) [] h = absurd (false≢true (sym (h x) ∙ ap (λ b. b || has_value x xs) (nat_itself x)))
least_same (x ∷ xs) (y ∷ ys) h =
    let a = some_least x xs in
    let b = some_least y ys in
    let c = a.1.low b.0 (h b.0 ∙ b.1.there) in
    let d = b.1.low a.0 (sym (h a.0) ∙ a.1.there) in
    let e : a.0 ≡ b.0 = omega arith in
    a.1.is ∙ ap Some e ∙ sym b.1.is

pub least_shared_is : (lists : List (List ℕ)) → least (shared lists) ≡ least_shared lists
least_shared_is lists = least_same (shared lists) (filter (is_shared lists) (concat lists)) (λ q. same_members q lists)

-- from place i back to the one before it
back : {A : Type 0} (xs : List A) (i : ℕ) (d : A) → 0 < i → i ≤ length xs → drop (i - 1) xs ≡ get_or xs (i - 1) d ∷ drop i xs
back xs i d pos within =
    let j : suc (i - 1) ≡ i = omega arith in
    drop-cons xs (i - 1) d (omega arith) ∙ ap (λ k. get_or xs (i - 1) d ∷ drop k xs) j

pub seen_step : (p : ℕ → Bool) (xs : List ℕ) (i : ℕ) (best o : Option ℕ) → 0 < i → i ≤ length xs → p (get_or xs (i - 1) 0) ≡ true
    → best ≡ least_onto (filter p (drop i xs)) o → lesser (get_or xs (i - 1) 0) best ≡ least_onto (filter p (drop (i - 1) xs)) o
seen_step p xs i best o pos within h e = rw (back xs i 0 pos within, h) (ap (lesser (get_or xs (i - 1) 0)) e)

or_comm : (a b : Bool) → (a || b) ≡ (b || a)
or_comm true true = refl
or_comm true false = refl
or_comm false true = refl
or_comm false false = refl

module _ {V : Type 0} (f : V → List ℕ) (lists : List V) (i : ℕ) (v : V) (list : List ℕ) (pos : 0 < i) (within : i ≤ length lists) (at : v ≡ get_or lists (i - 1) v) (is : list ≡ f v) where
  -- the lists from the place before i on
  front : map f (drop (i - 1) lists) ≡ list ∷ map f (drop i lists)
  front = ap (map f) (back lists i v pos within) ∙ ap (λ l. l ∷ map f (drop i lists)) (ap f (sym at) ∙ sym is)

  pub noted : (ks ms : List ℕ) → ((a : ℕ) → has_value a ks ≡ is_in (map f (drop i lists)) a) → ((a : ℕ) → has_value a ms ≡ (has_value a ks || has_value a list))
      → (a : ℕ) → has_value a ms ≡ is_in (map f (drop (i - 1) lists)) a
  noted ks ms h g a = g a ∙ or_comm (has_value a ks) (has_value a list) ∙ ap (λ b. has_value a list || b) (h a) ∙ ap (λ ls. is_in ls a) (sym front)

  pub lowered : (ks : List ℕ) (o r : Option ℕ) → ((a : ℕ) → has_value a ks ≡ is_in (map f (drop i lists)) a) → o ≡ least (shared (map f (drop i lists)))
      → r ≡ least_onto (filter (λ a. has_value a ks) list) o → r ≡ least (shared (map f (drop (i - 1) lists)))
  lowered ks o r h e g =
      g ∙ ap (λ p. least_onto (filter p list) o) (λ j a. h a j) ∙ ap (least_onto (filter (is_in (map f (drop i lists))) list)) e
      ∙ least_onto-least (filter (is_in (map f (drop i lists))) list) (shared (map f (drop i lists))) ∙ ap (λ ls. least (shared ls)) (sym front)

-- once all lists are gone through
pub all_lists : {V : Type 0} (f : V → List ℕ) (lists : List V) (i : ℕ) (o : Option ℕ) → i ≤ 0 → o ≡ least (shared (map f (drop i lists))) → o ≡ least_shared (map f lists)
all_lists f lists i o none e = let z : i ≡ 0 = omega arith in e ∙ ap (λ k. least (shared (map f (drop k lists)))) z ∙ least_shared_is (map f lists)
