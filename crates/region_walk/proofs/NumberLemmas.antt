-- Numbers of items, and lists that grow.
use Rattle.std.proofs.Common.{◌≡◌, ℕ, ◌⊎◌, zero, suc, ◌<◌, ◌≤◌, List, [], ◌∷◌, ◌++◌, Some, inl, inr, map, length, slice_get, refl, sym, ap, subst, ◌∙◌, arith}
use Rattle.std.specs.Prelude.{flat_map, Contains}
use Rattle.std.specs.List.{AllByRecursion, cons_option}
use Rattle.std.proofs.lemmas.List.{append_assoc, append-nil}
use Rattle.std.proofs.lemmas.List.Elements.{Contains-append_cases, filter_map-append}
use Rattle.std.proofs.lemmas.Option.{slice_get_within, slice_get_cases}
use Rattle.net_types.proofs.Members.{in_none, in_map, to_map, in_flat_map}
use Rattle.transfer_rel.specs.CubeMoves.{SameSet}
use Rattle.hdr_bits.specs.Lists.{Extends}
use Rattle.region_walk.specs.Lists.{AddsFrom, items_at, AreNumbersOf}
use Rattle.region_walk.proofs.SetLemmas.{map_joined, all_at, all_from, same_trans, same_if, same_filter_map}

module _ {A : Type 0} where
  pub get_joined : (xs ys : List A) (i : ℕ) (x : A) → slice_get xs i ≡ Some x → slice_get (xs ++ ys) i ≡ Some x
  get_joined [] ys i x e = cc
  get_joined (y ∷ xs) ys zero x e = e
  get_joined (y ∷ xs) ys (suc i) x e = get_joined xs ys i x e

  pub get_before : (xs ys : List A) (i : ℕ) → i < length xs → slice_get (xs ++ ys) i ≡ slice_get xs i
  get_before [] ys i l = absurd (omega (arith, l))
  get_before (y ∷ xs) ys zero l = refl
  get_before (y ∷ xs) ys (suc i) l = get_before xs ys i (omega (arith, l))

  pub get_last : (xs : List A) (x : A) → slice_get (xs ++ (x ∷ [])) (length xs) ≡ Some x
  get_last [] x = refl
  get_last (y ∷ xs) x = get_last xs x

  -- an item of a list with one item more
  pub get_push : (xs : List A) (x : A) (i : ℕ) (y : A) → slice_get (xs ++ (x ∷ [])) i ≡ Some y → (slice_get xs i ≡ Some y) ⊎ ((i ≡ length xs) × (x ≡ y))
  get_push [] x zero y e = inr (refl, cc)
  get_push [] x (suc i) y e = cc
  get_push (z ∷ xs) x zero y e = inl e
  get_push (z ∷ xs) x (suc i) y e = elim (get_push xs x i y e) [
    | inl g ↦ inl g
    | inr g ↦ inr (ap suc g.0, g.1)
  ]

  -- ---- growth

  pub extends_none : (xs : List A) → Extends xs xs
  extends_none xs = record { more = []; added = sym (append-nil xs) }

  pub extends_then : (xs ys zs : List A) → Extends xs ys → Extends ys zs → Extends xs zs
  extends_then xs ys zs g h = record {
    more = g.more ++ h.more;
    added = h.added ∙ ap (λ l. l ++ h.more) g.added ∙ append_assoc xs g.more h.more;
  }

  pub extends_adds : (items xs ys : List A) → AddsFrom items xs ys → Extends xs ys
  extends_adds items xs ys a = record { more = a.more; added = a.added }

  pub longer : (xs ys : List A) → Extends xs ys → length xs ≤ length ys
  longer xs ys g = subst (λ l. length xs ≤ length l) (sym g.added) (joined xs g.more)
    where
      joined : (xs ys : List A) → length xs ≤ length (xs ++ ys)
      joined [] ys = omega arith
      joined (x ∷ xs) ys = let h = joined xs ys in omega (arith, h)

  pub adds_none : (items xs : List A) → AddsFrom items xs xs
  adds_none items xs = record { more = []; added = sym (append-nil xs); among = λ x c. absurd (in_none x c); once = λ o. o }

  pub adds_then : (first second both xs ys zs : List A) → ((x : A) → Contains first x → Contains both x) → ((x : A) → Contains second x → Contains both x) → AddsFrom first xs ys → AddsFrom second ys zs → AddsFrom both xs zs
  adds_then first second both xs ys zs h k a b = record {
    more = a.more ++ b.more;
    added = b.added ∙ ap (λ l. l ++ b.more) a.added ∙ append_assoc xs a.more b.more;
    among = λ x c. elim (Contains-append_cases a.more b.more x c) [
      | inl e ↦ h x (a.among x e)
      | inr e ↦ k x (b.among x e)
    ];
    once = λ o. b.once (a.once o);
  }

  pub adds_keep : (P : A → Type 0) (items xs ys : List A) → AddsFrom items xs ys → AllByRecursion P items → AllByRecursion P xs → AllByRecursion P ys
  adds_keep P items xs ys a all before = subst (AllByRecursion P) (sym a.added) (all_from P (xs ++ a.more) (λ x c. elim (Contains-append_cases xs a.more x c) [
    | inl e ↦ all_at P xs x before e
    | inr e ↦ all_at P items x all (a.among x e)
  ]))

  -- ---- numbers

  pub numbers_more : (xs ys : List A) (ns : List ℕ) (zs : List A) → Extends xs ys → AreNumbersOf xs ns zs → AreNumbersOf ys ns zs
  numbers_more xs ys [] [] g e = refl
  numbers_more xs ys [] (z ∷ zs) g e = cc
  numbers_more xs ys (n ∷ ns) [] g e = cc
  numbers_more xs ys (n ∷ ns) (z ∷ zs) g e =
      let one : slice_get xs n ≡ Some z = cc in
      let rest : map (slice_get xs) ns ≡ map Some zs = cc in
      let here : slice_get ys n ≡ Some z = subst (λ l. slice_get l n ≡ Some z) (sym g.added) (get_joined xs g.more n z one) in
      let there = numbers_more xs ys ns zs g rest in
      λ i. here i ∷ there i

  pub numbers_joined : (xs : List A) (ns ms : List ℕ) (ys zs : List A) → AreNumbersOf xs ns ys → AreNumbersOf xs ms zs → AreNumbersOf xs (ns ++ ms) (ys ++ zs)
  numbers_joined xs ns ms ys zs e g = map_joined (slice_get xs) ns ms ∙ (λ i. e i ++ g i) ∙ sym (map_joined Some ys zs)

  pub numbers_items : (xs : List A) (ns : List ℕ) (zs : List A) → AreNumbersOf xs ns zs → items_at xs ns ≡ zs
  numbers_items xs [] [] e = refl
  numbers_items xs [] (z ∷ zs) e = cc
  numbers_items xs (n ∷ ns) [] e = cc
  numbers_items xs (n ∷ ns) (z ∷ zs) e =
      let one : slice_get xs n ≡ Some z = cc in
      let rest : map (slice_get xs) ns ≡ map Some zs = cc in
      let there = numbers_items xs ns zs rest in
      λ i. cons_option (one i) (there i)

  pub numbers_within : (xs : List A) (ns : List ℕ) (zs : List A) → AreNumbersOf xs ns zs → AllByRecursion (λ (n : ℕ). n < length xs) ns
  numbers_within xs [] zs e = tt
  numbers_within xs (n ∷ ns) [] e = cc
  numbers_within xs (n ∷ ns) (z ∷ zs) e =
      let one : slice_get xs n ≡ Some z = cc in
      let rest : map (slice_get xs) ns ≡ map Some zs = cc in
      (slice_get_within xs n z one, numbers_within xs ns zs rest)

  -- the items with numbers that were there before
  pub items_before : (xs ys : List A) (ns : List ℕ) → AllByRecursion (λ (n : ℕ). n < length xs) ns → items_at (xs ++ ys) ns ≡ items_at xs ns
  items_before xs ys [] a = refl
  items_before xs ys (n ∷ ns) a = λ i. cons_option (get_before xs ys n a.0 i) (items_before xs ys ns a.1 i)

  pub items_more : (xs ys : List A) (ns : List ℕ) → Extends xs ys → AllByRecursion (λ (n : ℕ). n < length xs) ns → items_at ys ns ≡ items_at xs ns
  items_more xs ys ns g a = ap (λ l. items_at l ns) g.added ∙ items_before xs g.more ns a

  pub all_within : (xs ys : List A) (ns : List ℕ) → length xs ≤ length ys → AllByRecursion (λ (n : ℕ). n < length xs) ns → AllByRecursion (λ (n : ℕ). n < length ys) ns
  all_within xs ys [] l a = tt
  all_within xs ys (n ∷ ns) l a = (omega (arith, l, a.0), all_within xs ys ns l a.1)

module _ {A B : Type 0} where
  -- items that lead on to numbers of other items
  items_flat : (xs : List B) (f : A → List ℕ) (g : A → List B) (vs : List A) → AllByRecursion (λ v. AreNumbersOf xs (f v) (g v)) vs → items_at xs (flat_map f vs) ≡ flat_map g vs
  items_flat xs f g [] a = refl
  items_flat xs f g (v ∷ vs) a =
      filter_map-append (slice_get xs) (f v) (flat_map f vs) ∙ (λ i. numbers_items xs (f v) (g v) a.0 i ++ items_flat xs f g vs a.1 i)

  pub same_items : (xs : List B) (f : A → List ℕ) (g : A → List B) (vs : List A) (ms : List ℕ) → AllByRecursion (λ v. AreNumbersOf xs (f v) (g v)) vs → SameSet ms (flat_map f vs) → SameSet (items_at xs ms) (flat_map g vs)
  same_items xs f g vs ms a same =
      same_trans (items_at xs ms) (items_at xs (flat_map f vs)) (flat_map g vs)
      (same_filter_map (slice_get xs) ms (flat_map f vs) same)
      (same_if (items_at xs (flat_map f vs)) (flat_map g vs) (items_flat xs f g vs a))

  pub next_within : (xs : List B) (f : A → List ℕ) (g : A → List B) (vs : List A) (ms : List ℕ) → AllByRecursion (λ v. AreNumbersOf xs (f v) (g v)) vs → SameSet ms (flat_map f vs) → AllByRecursion (λ (n : ℕ). n < length xs) ms
  next_within xs f g vs ms a same = all_from (λ (n : ℕ). n < length xs) ms (λ n c.
      let b = in_flat_map f vs n ((same n).0 c) in
      all_at (λ (k : ℕ). k < length xs) (f b.0) n (numbers_within xs (f b.0) (g b.0) (all_at (λ v. AreNumbersOf xs (f v) (g v)) vs b.0 a b.1)) b.2)

  -- items that stand at the numbers of other items
  pub items_stand : (of : A → B) (vs : List A) (xs : List B) → ((i : ℕ) (v : A) → slice_get vs i ≡ Some v → slice_get xs i ≡ Some (of v)) → (ns : List ℕ) → AllByRecursion (λ (n : ℕ). n < length vs) ns → map of (items_at vs ns) ≡ items_at xs ns
  items_stand of vs xs at [] a = refl
  items_stand of vs xs at (n ∷ ns) a = elim (slice_get_cases vs n).1 [
    | inl h ↦
        let e = h.2 in
        let g = at n h.0 e in
        ap (λ o. map of (cons_option o (items_at vs ns))) e ∙ (λ i. of h.0 ∷ items_stand of vs xs at ns a.1 i) ∙ ap (λ o. cons_option o (items_at xs ns)) (sym g)
    | inr h ↦ absurd (omega (arith, a.0, h.0))
  ]

module _ {A : Type 0} where
  -- what holds of each item holds of one that is looked up
  pub all_got : (P : A → Type 0) (vs : List A) (n : ℕ) (v : A) → AllByRecursion P vs → slice_get vs n ≡ Some v → P v
  all_got P [] n v a e = cc
  all_got P (x ∷ vs) zero v a e = let g : x ≡ v = cc in subst P g a.0
  all_got P (x ∷ vs) (suc n) v a e = all_got P vs n v a.1 e

  -- what holds of items holds of those with some numbers
  pub items_all : (P : A → Type 0) (vs : List A) (ns : List ℕ) → AllByRecursion P vs → AllByRecursion P (items_at vs ns)
  items_all P vs [] a = tt
  items_all P vs (n ∷ ns) a = elim (slice_get_cases vs n).1 [
    | inl h ↦ subst (λ o. AllByRecursion P (cons_option o (items_at vs ns))) (sym h.2) (all_got P vs n h.0 a h.2, items_all P vs ns a)
    | inr h ↦ subst (λ o. AllByRecursion P (cons_option o (items_at vs ns))) (sym h.1) (items_all P vs ns a)
  ]

-- ---- items by their numbers

module _ {A : Type 0} (xs : List A) (ns : List ℕ) (ys : List A) (e : AreNumbersOf xs ns ys) where
  pub item_of : (n : ℕ) → Contains ns n → (y : A) × Contains ys y × (slice_get xs n ≡ Some y)
  item_of n c =
      let f = in_map Some ys (slice_get xs n) (subst (λ l. Contains l (slice_get xs n)) e (to_map (slice_get xs) ns n c)) in
      (f.0, f.1, sym f.2)

  pub number_of : (y : A) → Contains ys y → (n : ℕ) × Contains ns n × (slice_get xs n ≡ Some y)
  number_of y c = in_map (slice_get xs) ns (Some y) (subst (λ l. Contains l (Some y)) (sym e) (to_map Some ys y c))
