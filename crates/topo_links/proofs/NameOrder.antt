-- Names that were put in order.
use Rattle.std.proofs.Common.{◌≡◌, ◌↔◌, ◌+◌, ◌≤◌, Bool, true, false, cond, List, [], ◌∷◌, ◌++◌, length, map, get_or, suc, ◌||◌, refl, sym, ap, ◌∙◌, arith, filter}
use Rattle.std.specs.Prelude.{◌&&◌}
use Rattle.std.proofs.lemmas.Bool.{false≢true}
use Rattle.std.specs.List.{dedup, dedup_from, IsDistinct, AllByRecursion, Contains, list_any}
use Rattle.std.specs.List.Sorted.{IsPermutation, IsSorted}
use Rattle.std.specs.Ordering.{eq_by_cmp}
use Rattle.std.specs.Cmp.{IsTotalOrder, Equal-is}
use Rattle.std.specs.Cmp.Lexicographic.{nat_list_eq_equiv}
use Rattle.std.specs.FinMap.{IsAntisymmetric, nat_cmp-IsAntisymmetric, slice_cmp-IsAntisymmetric}
use Rattle.std.specs.Str.{bytes_eq}
use Rattle.std.proofs.lemmas.Cmp.{nat_list_cmp_total}
use Rattle.std.proofs.lemmas.Map.Text.{is_eq-slice_cmp}
use Rattle.std.proofs.lemmas.List.{length-map, get_or-map}
use Rattle.std.proofs.lemmas.List.Kept.{IsStrictlySortedBy-dedup, Contains-dedup, Contains-from_dedup}
use Rattle.std.proofs.lemmas.List.Sorted.{Contains-permutation, IsPermutation-sym, IsPermutation-map}
use Rattle.std.specs.declared.cmp.Ordering.TheVariants.{Less, Equal, Greater}
use Rattle.net_types.specs.Order.{put_in_order}
use Rattle.net_types.proofs.Ordered.{is_in_order, has, in_order_sorted, in_order_has, same_lists, has_from_Contains, Contains_from_has}
use Rattle.topo_links.specs.Ends.{Word}
use Rattle.topo_links.specs.Names.{name_cmp, sorted_names, add_name, add_names}

pub name_total : IsTotalOrder name_cmp
name_total = nat_list_cmp_total

pub name_exact : IsAntisymmetric name_cmp
name_exact = slice_cmp-IsAntisymmetric nat_cmp-IsAntisymmetric

ties : (x y : Word) → bytes_eq x y ≡ eq_by_cmp name_cmp x y
ties x y = sym (is_eq-slice_cmp x y)

pub same_if_eq : (x y : Word) → bytes_eq x y ≡ true → x ≡ y
same_if_eq x y e = name_exact x y ((Equal-is (name_cmp x y)).0 (sym (ties x y) ∙ e))

-- names that were sorted and rid of repeats
pub names_in_order : (xs ys zs : List Word) → IsPermutation xs ys → IsSorted name_cmp ys → zs ≡ dedup bytes_eq ys → zs ≡ sorted_names xs
names_in_order xs ys zs moved sorted kept =
    kept ∙ is_in_order name_cmp name_total name_exact xs (dedup bytes_eq ys) (IsStrictlySortedBy-dedup name_total ties ys sorted)
    (λ q. (
      λ h. Contains-permutation ys xs q (IsPermutation-sym xs ys moved) (Contains-from_dedup bytes_eq ys q h),
      λ h. Contains-dedup nat_list_eq_equiv same_if_eq ys q (Contains-permutation xs ys q moved h),
    ))

module _ {K : Type 0} (f : K → Word) where
  abbrev key_eq : K → K → Bool
  key_eq x y = bytes_eq (f x) (f y)

  -- distinct names have no repeats
  dedup_distinct_from : (k : K) (ks : List K) → AllByRecursion (λ y. key_eq k y ≡ false) ks → IsDistinct key_eq ks → dedup_from bytes_eq (f k) (map f ks) ≡ f k ∷ map f ks
  unfolding IsDistinct
  dedup_distinct_from k [] h d = refl
  dedup_distinct_from k (x ∷ ks) h d = rw (nat_list_eq_equiv.symm (f x) (f k), h.0, dedup_distinct_from x ks d.0 d.1) refl

  dedup_distinct : (ks : List K) → IsDistinct key_eq ks → dedup bytes_eq (map f ks) ≡ map f ks
  unfolding IsDistinct
  dedup_distinct [] d = refl
  dedup_distinct (k ∷ ks) d = dedup_distinct_from k ks d.0 d.1

  -- keys that are sorted by their names
  sorted_map : (ks : List K) → IsSorted (λ x y. name_cmp (f x) (f y)) ks → IsSorted name_cmp (map f ks)
  sorted_map [] h = λ i d low high. absurd (omega (arith, high))
  sorted_map (k ∷ ks) h = λ i d low high.
      let n : length (map f (k ∷ ks)) ≡ length (k ∷ ks) = length-map (k ∷ ks) f in
      let a : get_or (map f (k ∷ ks)) (i + 1) d ≡ f (get_or (k ∷ ks) (i + 1) k) = get_or-map f (k ∷ ks) (i + 1) k d (omega (arith, n, high)) in
      let b : get_or (map f (k ∷ ks)) i d ≡ f (get_or (k ∷ ks) i k) = get_or-map f (k ∷ ks) i k d (omega (arith, n, high)) in
      rw (a, b) (h i k low (omega (arith, n, high)))

  -- distinct keys that were sorted by their names
  pub sorted_keys : (ks js : List K) → IsPermutation ks js → IsSorted (λ x y. name_cmp (f x) (f y)) js → IsDistinct key_eq js → map f js ≡ sorted_names (map f ks)
  sorted_keys ks js moved sorted distinct = names_in_order (map f ks) (map f js) (map f js) (IsPermutation-map f ks js moved) (sorted_map js sorted) (sym (dedup_distinct js distinct))

-- n is one of the names
abbrev pub has_name : Word → List Word → Bool
has_name n names = list_any (bytes_eq n) names

has_name-append : (n : Word) (xs ys : List Word) → has_name n (xs ++ ys) ≡ (has_name n xs || has_name n ys)
has_name-append n [] ys = refl
has_name-append n (x ∷ xs) ys = ap (λ b. bytes_eq n x || b) (has_name-append n xs ys) ∙ or_assoc (bytes_eq n x) (has_name n xs) (has_name n ys)
  where
    or_assoc : (a b c : Bool) → (a || (b || c)) ≡ ((a || b) || c)
    or_assoc true b c = refl
    or_assoc false b c = refl

-- a name that is added is there, and what was there stays
has_added : (q : Word) (names : List Word) (n : Word) → has_name q (add_name names n) ≡ (has_name q names || bytes_eq q n)
has_added q names n =
    elim (has_name n names) as (λ b. has_name n names ≡ b → has_name q (cond b names (names ++ n ∷ [])) ≡ (has_name q names || bytes_eq q n)) [
      | true ↦ λ e. there e (bytes_eq q n) refl
      | false ↦ λ e. has_name-append q names (n ∷ []) ∙ ap (λ b. has_name q names || b) (or_false (bytes_eq q n))
    ] refl
  where
    or_false : (a : Bool) → (a || false) ≡ a
    or_false true = refl
    or_false false = refl

    there : has_name n names ≡ true → (b : Bool) → bytes_eq q n ≡ b → has_name q names ≡ (has_name q names || b)
    there e false h = sym (or_false (has_name q names))
    there e true h = rw (same_if_eq q n h, e) refl

has_all : (q : Word) (names ns : List Word) → has_name q (add_names names ns) ≡ (has_name q names || has_name q ns)
has_all q names [] = sym (or_false (has_name q names))
  where
    or_false : (a : Bool) → (a || false) ≡ a
    or_false true = refl
    or_false false = refl
has_all q names (n ∷ ns) = has_all q (add_name names n) ns ∙ ap (λ b. b || has_name q ns) (has_added q names n) ∙ or_assoc (has_name q names) (bytes_eq q n) (has_name q ns)
  where
    or_assoc : (a b c : Bool) → ((a || b) || c) ≡ (a || (b || c))
    or_assoc true b c = refl
    or_assoc false b c = refl

has_name-has : (q : Word) (xs : List Word) → has name_cmp name_total name_exact q xs ≡ has_name q xs
has_name-has q xs = ap (λ t. list_any t xs) (λ i y. sym (ties q y) i)

-- names in order don't depend on repeats
pub sorted_once : (ns : List Word) → sorted_names (add_names [] ns) ≡ sorted_names ns
sorted_once ns = same_lists name_cmp name_total name_exact (sorted_names (add_names [] ns)) (sorted_names ns) (in_order_sorted name_cmp name_total name_exact (add_names [] ns)) (in_order_sorted name_cmp name_total name_exact ns)
    (λ q. in_order_has name_cmp name_total name_exact q (add_names [] ns) ∙ has_name-has q (add_names [] ns) ∙ has_all q [] ns ∙ sym (has_name-has q ns) ∙ sym (in_order_has name_cmp name_total name_exact q ns))

-- there are no more than were written
length_put : (x : Word) (xs : List Word) → length (put_in_order name_cmp x xs) ≤ suc (length xs)
length_put x [] = omega arith
length_put x (y ∷ ys) =
    let ih = length_put x ys in
    elim (name_cmp x y) as (λ r. length (elim r as (λ _. List Word) [ Less ↦ x ∷ y ∷ ys | Equal ↦ y ∷ ys | Greater ↦ y ∷ put_in_order name_cmp x ys ]) ≤ suc (suc (length ys))) [
      | Less ↦ omega arith
      | Equal ↦ omega arith
      | Greater ↦ omega (arith, ih)
    ]

pub length_sorted : (ns : List Word) → length (sorted_names ns) ≤ length ns
length_sorted [] = omega arith
length_sorted (n ∷ ns) = let a = length_put n (sorted_names ns) in let b = length_sorted ns in omega (arith, a, b)

-- names in order have the same members
pub members_sorted : (ns : List Word) (q : Word) → Contains (sorted_names ns) q ↔ Contains ns q
members_sorted ns q = (
  λ h. Contains_from_has name_cmp name_total name_exact q ns (sym (in_order_has name_cmp name_total name_exact q ns) ∙ has_from_Contains name_cmp name_total name_exact q (sorted_names ns) h),
  λ h. Contains_from_has name_cmp name_total name_exact q (sorted_names ns) (in_order_has name_cmp name_total name_exact q ns ∙ has_from_Contains name_cmp name_total name_exact q ns h),
)

module _ {K : Type 0} (f : K → Word) where
  dedup_from-map : (k : K) (ks : List K) → map f (dedup_from (λ x y. bytes_eq (f x) (f y)) k ks) ≡ dedup_from bytes_eq (f k) (map f ks)
  dedup_from-map k [] = refl
  dedup_from-map k (x ∷ ks) = either (bytes_eq (f x) (f k)) (dedup_from-map k ks) (dedup_from-map x ks)
    where
      either : (b : Bool) → map f (dedup_from (λ x y. bytes_eq (f x) (f y)) k ks) ≡ dedup_from bytes_eq (f k) (map f ks) → map f (dedup_from (λ x y. bytes_eq (f x) (f y)) x ks) ≡ dedup_from bytes_eq (f x) (map f ks)
          → map f (cond b (dedup_from (λ x y. bytes_eq (f x) (f y)) k ks) (k ∷ dedup_from (λ x y. bytes_eq (f x) (f y)) x ks)) ≡ cond b (dedup_from bytes_eq (f k) (map f ks)) (f k ∷ dedup_from bytes_eq (f x) (map f ks))
      either true h g = h
      either false h g = ap (λ l. f k ∷ l) g

  dedup-map : (ks : List K) → map f (dedup (λ x y. bytes_eq (f x) (f y)) ks) ≡ dedup bytes_eq (map f ks)
  dedup-map [] = refl
  dedup-map (k ∷ ks) = dedup_from-map k ks

  -- keys that were sorted by their names and rid of repeats
  pub dedup_sorted : (ks js ls : List K) → IsPermutation ks js → IsSorted (λ x y. name_cmp (f x) (f y)) js → ls ≡ dedup (λ x y. bytes_eq (f x) (f y)) js → map f ls ≡ sorted_names (map f ks)
  dedup_sorted ks js ls moved sorted kept = names_in_order (map f ks) (map f js) (map f ls) (IsPermutation-map f ks js moved) (sorted_map f js sorted) (ap (map f) kept ∙ dedup-map js)

-- what passes a test
has_filter : (p : Word → Bool) (q : Word) (xs : List Word) → has_name q (filter p xs) ≡ (p q && has_name q xs)
has_filter p q [] = none (p q)
  where
    none : (b : Bool) → false ≡ (b && false)
    none true = refl
    none false = refl
has_filter p q (x ∷ xs) = step (has_filter p q xs) (bytes_eq q x) refl
  where
    here : has_name q (filter p xs) ≡ (p q && has_name q xs) → bytes_eq q x ≡ true → (b : Bool) → p x ≡ b → has_name q (cond b (x ∷ filter p xs) (filter p xs)) ≡ (p q && (true || has_name q xs))
    here ih e true h = rw (e, same_if_eq q x e, h) refl
    here ih e false h = ih ∙ rw (same_if_eq q x e, h) refl

    other : has_name q (filter p xs) ≡ (p q && has_name q xs) → bytes_eq q x ≡ false → (b : Bool) → has_name q (cond b (x ∷ filter p xs) (filter p xs)) ≡ (p q && (false || has_name q xs))
    other ih e true = rw e ih
    other ih e false = ih

    step : has_name q (filter p xs) ≡ (p q && has_name q xs) → (b : Bool) → bytes_eq q x ≡ b → has_name q (cond (p x) (x ∷ filter p xs) (filter p xs)) ≡ (p q && (b || has_name q xs))
    step ih true e = here ih e (p x) refl
    step ih false e = other ih e (p x)

has_Contains : (q : Word) (xs : List Word) → Contains xs q → has_name q xs ≡ true
has_Contains q xs h = sym (has_name-has q xs) ∙ has_from_Contains name_cmp name_total name_exact q xs h

Contains_has : (q : Word) (xs : List Word) → has_name q xs ≡ true → Contains xs q
Contains_has q xs h = Contains_from_has name_cmp name_total name_exact q xs (has_name-has q xs ∙ h)

pub members_filter : (p : Word → Bool) (xs : List Word) (q : Word) → Contains (filter p xs) q ↔ Contains xs q × (p q ≡ true)
members_filter p xs q = (
  λ h. (let both = sym (has_filter p q xs) ∙ has_Contains q (filter p xs) h in (Contains_has q xs (second (p q) (has_name q xs) both), front (p q) (has_name q xs) both)),
  λ h. Contains_has q (filter p xs) (has_filter p q xs ∙ rw (h.1, has_Contains q xs h.0) refl),
)
  where
    front : (a b : Bool) → (a && b) ≡ true → a ≡ true
    front true b h = refl
    front false b h = h

    second : (a b : Bool) → (a && b) ≡ true → b ≡ true
    second true b h = h
    second false b h = absurd (false≢true h)
