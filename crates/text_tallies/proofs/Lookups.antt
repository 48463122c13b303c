-- What is kept of a text as texts are added, and as they are put in order.
use Rattle.std.proofs.Common.{◌≡◌, ℕ, ◌+◌, ◌<◌, ◌^◌, Bool, true, false, cond, List, [], ◌∷◌, ◌++◌, length, position, refl, sym, ap, ◌∙◌, arith, Vec, Global, true≢false, IsPermutation, Option, Some, None, map, get_or, take, slice_get, ⊎_elim, subst}
use Rattle.std.specs.Prelude.{Result, Ok, Err, IfOk}
use Rattle.text_tallies.specs.declared.tallies.Tally.{Tally}
use Rattle.std.specs.Prelude.{count_by, option_map, option_to_list}
use Rattle.std.proofs.lemmas.Option.{slice_get_cases}
use Rattle.std.specs.Option.{option_or}
use Rattle.std.specs.Cmp.Lexicographic.{on_texts_equal}
use Rattle.std.specs.List.{AllByRecursion, IsDistinct, position_from}
use Rattle.std.specs.List.Sorted.{IsSortedByKey}
use Rattle.std.specs.Map.{lookup, keys_of, IsKeyTest}
use Rattle.std.specs.Str.{bytes_eq}
use Rattle.std.proofs.lemmas.List.{length-map, get_or-map, map-append, take_more, take_all, append-nil}
use Rattle.std.proofs.lemmas.Slice.Eq.{bytes_eq-Decides}
use Rattle.std.proofs.lemmas.List.Sums.{count_by-le-length, sum_by-append}
use Rattle.std.proofs.lemmas.Iterator.Adapters.{position_from-zero}
use Rattle.indexmap.specs.IndexMap.{insert_entry}
use Rattle.indexmap.proofs.MapLemmas.{lookup_permutation}
use Rattle.text_tallies.specs.Tallies.{count_in, counted, kept, raised, rank, rank_cmp, row, rows, tally_of, AreSeen, AreTallies, IsInOrder}
use Rattle.text_tallies.specs.declared.tallies.Tallies.{Tallies}
use Rattle.text_tallies.specs.declared.tallies.Seen.{Seen}

abbrev pub Key : Type 0
Key = Vec ℕ Global

abbrev pub key_eq : Key → Key → Bool
key_eq a b = bytes_eq a.items b.items

same_if_eq : (x y : List ℕ) → bytes_eq x y ≡ true → x ≡ y
same_if_eq x y h = (bytes_eq-Decides x y).0 h

text_test : (text : List ℕ) → IsKeyTest key_eq (λ k. bytes_eq text k.items)
text_test text x y h = ap (λ l. bytes_eq l y.items) (same_if_eq text x.items h)

-- entries that change places
pub kept_reordered : {V : Type 0} (es fs : List (Key × V)) → IsPermutation es fs → IsDistinct key_eq (keys_of fs) → (text : List ℕ) → lookup (λ k. bytes_eq text k.items) fs ≡ lookup (λ k. bytes_eq text k.items) es
kept_reordered es fs moved distinct text = lookup_permutation (on_texts_equal (λ (k : Key). k.items)) es fs moved distinct (λ k. bytes_eq text k.items) (text_test text)

-- an entry that is put in
module _ {V : Type 0} (text : List ℕ) (k : Key) (v : V) where
  test : Key → Bool
  test x = bytes_eq text x.items

  either : (e : Key × V) (rest put : Option V) → put ≡ cond (bytes_eq text k.items) (Some v) rest → (b : Bool) → bytes_eq k.items e.0.items ≡ b → (p q : Bool) → bytes_eq text k.items ≡ p → bytes_eq text e.0.items ≡ q
      → cond b (cond q (Some v) rest) (cond q (Some e.1) put) ≡ cond p (Some v) (cond q (Some e.1) rest)
  either e rest put ih true h true true f g = refl
  either e rest put ih true h true false f g = absurd (true≢false (sym f ∙ ap (bytes_eq text) (same_if_eq k.items e.0.items h) ∙ g))
  either e rest put ih true h false true f g = absurd (true≢false (sym g ∙ ap (bytes_eq text) (sym (same_if_eq k.items e.0.items h)) ∙ f))
  either e rest put ih true h false false f g = refl
  either e rest put ih false h true true f g = absurd (true≢false (sym g ∙ ap (λ l. bytes_eq l e.0.items) (same_if_eq text k.items f) ∙ h))
  either e rest put ih false h true false f g = ih ∙ ap (λ b. cond b (Some v) rest) f
  either e rest put ih false h false true f g = refl
  either e rest put ih false h false false f g = ih ∙ ap (λ b. cond b (Some v) rest) f

  pub kept_put : (es : List (Key × V)) → lookup (λ x. bytes_eq text x.items) (insert_entry key_eq es k v) ≡ cond (bytes_eq text k.items) (Some v) (lookup (λ x. bytes_eq text x.items) es)
  kept_put [] = refl
  kept_put (e ∷ es) =
      let test = λ (x : Key). bytes_eq text x.items in
      elim (key_eq k e.0) as (λ b. key_eq k e.0 ≡ b → lookup test (cond b ((e.0, v) ∷ es) (e ∷ insert_entry key_eq es k v)) ≡ cond (test k) (Some v) (cond (test e.0) (Some e.1) (lookup test es))) [
        | true ↦ λ h. either e (lookup test es) (lookup test (insert_entry key_eq es k v)) (kept_put es) true h (test k) (test e.0) refl refl
        | false ↦ λ h. either e (lookup test es) (lookup test (insert_entry key_eq es k v)) (kept_put es) false h (test k) (test e.0) refl refl
      ] refl

-- ---- a text at the end of a list

raised_count : (o : Option Seen) (place n : ℕ) → counted o ≡ n → n < 2 ^ 63 → (raised o place).count ≡ n + 1
raised_count None place n e h = omega (arith, e)
raised_count (Some s) place n e h = omega (arith, e, h)

count_pushed : (text x : List ℕ) (ts : List (List ℕ)) → count_by (bytes_eq text) (ts ++ x ∷ []) ≡ count_by (bytes_eq text) ts + cond (bytes_eq text x) 1 0
count_pushed text x ts = sum_by-append (λ y. cond (bytes_eq text y) 1 0) ts (x ∷ []) ∙ ap (λ n. count_by (bytes_eq text) ts + n) (none (cond (bytes_eq text x) 1 0))
  where
    none : (n : ℕ) → 0 + n ≡ n
    none n = omega arith

position_later : (test : List ℕ → Bool) (n : ℕ) (x : List ℕ) (ts : List (List ℕ)) → position_from test n (ts ++ x ∷ []) ≡ option_or (position_from test n ts) (cond (test x) (Some (n + length ts)) None)
position_later test n x [] = ap (λ k. cond (test x) (Some k) None) (let e : n ≡ n + 0 = omega arith in e)
position_later test n x (t ∷ ts) =
    let more : n + 1 + length ts ≡ n + length (t ∷ ts) = omega arith in
    let later = position_later test (n + 1) x ts ∙ ap (λ k. option_or (position_from test (n + 1) ts) (cond (test x) (Some k) None)) more in
    elim (test t) as (λ b. cond b (Some n) (position_from test (n + 1) (ts ++ x ∷ [])) ≡ option_or (cond b (Some n) (position_from test (n + 1) ts)) (cond (test x) (Some (n + length (t ∷ ts))) None)) [
      | true ↦ refl
      | false ↦ later
    ]

position_pushed : (test : List ℕ → Bool) (x : List ℕ) (ts : List (List ℕ)) → position test (ts ++ x ∷ []) ≡ option_or (position test ts) (cond (test x) (Some (length ts)) None)
position_pushed test x ts =
    position_from-zero test (ts ++ x ∷ []) ∙ position_later test 0 x ts
    ∙ (λ i. option_or (sym (position_from-zero test ts) i) (cond (test x) (Some (none (length ts) i)) None))
  where
    none : (n : ℕ) → 0 + n ≡ n
    none n = omega arith

module _ (old : List ℕ → Option Seen) (x : List ℕ) (ts : List (List ℕ)) where
  pub count_added : (text : List ℕ) (place : ℕ) → length ts < 2 ^ 63 → ((t : List ℕ) → counted (old t) ≡ count_by (bytes_eq t) ts)
      → counted (cond (bytes_eq text x) (Some (raised (old x) place)) (old text)) ≡ count_by (bytes_eq text) (ts ++ x ∷ [])
  count_added text place short h = by (bytes_eq text x) refl ∙ sym (count_pushed text x ts)
    where
      by : (b : Bool) → bytes_eq text x ≡ b → counted (cond b (Some (raised (old x) place)) (old text)) ≡ count_by (bytes_eq text) ts + cond (bytes_eq text x) 1 0
      by true e =
          raised_count (old x) place (count_by (bytes_eq x) ts) (h x) (let l = count_by-le-length (bytes_eq x) ts in omega (arith, l, short))
          ∙ (λ i. count_by (bytes_eq (sym (same_if_eq text x e) i)) ts + cond (sym e i) 1 0)
      by false e = h text ∙ rw e (omega arith)

  raised_first : (o : Option Seen) (place : ℕ) (p : Option ℕ) → option_map (λ s. s.first) o ≡ p → Some (raised o place).first ≡ option_or p (Some place)
  raised_first None place p e = ap (λ q. option_or q (Some place)) e
  raised_first (Some s) place p e = ap (λ q. option_or q (Some place)) e

  or_none : (o : Option ℕ) → o ≡ option_or o None
  or_none None = refl
  or_none (Some n) = refl

  pub first_added : (text : List ℕ) (place : ℕ) → place ≡ length ts → ((t : List ℕ) → option_map (λ s. s.first) (old t) ≡ position (bytes_eq t) ts)
      → option_map (λ s. s.first) (cond (bytes_eq text x) (Some (raised (old x) place)) (old text)) ≡ position (bytes_eq text) (ts ++ x ∷ [])
  first_added text place at h = by (bytes_eq text x) refl ∙ sym (position_pushed (bytes_eq text) x ts)
    where
      by : (b : Bool) → bytes_eq text x ≡ b → option_map (λ s. s.first) (cond b (Some (raised (old x) place)) (old text)) ≡ option_or (position (bytes_eq text) ts) (cond (bytes_eq text x) (Some (length ts)) None)
      by true e =
          raised_first (old x) place (position (bytes_eq x) ts) (h x)
          ∙ (λ i. option_or (position (bytes_eq (sym (same_if_eq text x e) i)) ts) (cond (sym e i) (Some (at i)) None))
      by false e = h text ∙ or_none (position (bytes_eq text) ts) ∙ ap (λ b. option_or (position (bytes_eq text) ts) (cond b (Some (length ts)) None)) (sym e)

-- ---- rows in order

sorted_rows : (es : List (Key × Seen)) → IsSortedByKey (λ e. rank (row (e.0.items, e.1))) rank_cmp es → IsInOrder (map (λ e. row (e.0.items, e.1)) es)
sorted_rows [] h = λ i d low high. absurd (omega (arith, high))
sorted_rows (e ∷ es) h = λ i d low high.
    let f = λ (e : Key × Seen). row (e.0.items, e.1) in
    let n : length (map f (e ∷ es)) ≡ length (e ∷ es) = length-map (e ∷ es) f in
    let a : get_or (map f (e ∷ es)) (i + 1) d ≡ f (get_or (e ∷ es) (i + 1) e) = get_or-map f (e ∷ es) (i + 1) e d (omega (arith, n, high)) in
    let b : get_or (map f (e ∷ es)) i d ≡ f (get_or (e ∷ es) i e) = get_or-map f (e ∷ es) i e d (omega (arith, n, high)) in
    rw (a, b) (h i e low (omega (arith, n, high)))

tally_at : (text : List ℕ) (es : List (Key × Seen)) → tally_of text (map (λ e. row (e.0.items, e.1)) es) ≡ option_map (λ s. row (text, s)) (lookup (λ k. bytes_eq text k.items) es)
tally_at text [] = refl
tally_at text (e ∷ es) = by (bytes_eq text e.0.items) refl (tally_at text es)
  where
    by : (b : Bool) → bytes_eq text e.0.items ≡ b → tally_of text (map (λ e. row (e.0.items, e.1)) es) ≡ option_map (λ s. row (text, s)) (lookup (λ k. bytes_eq text k.items) es)
        → cond b (Some (row (e.0.items, e.1))) (tally_of text (map (λ e. row (e.0.items, e.1)) es)) ≡ option_map (λ s. row (text, s)) (cond b (Some e.1) (lookup (λ k. bytes_eq text k.items) es))
    by true h rest = ap (λ t. Some (row (t, e.1))) (sym (same_if_eq text e.0.items h))
    by false h rest = rest

count_at : (text : List ℕ) (o : Option Seen) → count_in (option_map (λ s. row (text, s)) o) ≡ counted o
count_at text None = refl
count_at text (Some s) = refl

first_at : (text : List ℕ) (o : Option Seen) → option_map (λ r. r.first) (option_map (λ s. row (text, s)) o) ≡ option_map (λ s. s.first) o
first_at text None = refl
first_at text (Some s) = refl

apart : (e : Key × Seen) (es : List (Key × Seen)) → AllByRecursion (λ y. key_eq e.0 y ≡ false) (keys_of es) → AllByRecursion (λ y. bytes_eq e.0.items y ≡ false) (map (λ r. r.text) (map (λ e. row (e.0.items, e.1)) es))
apart e [] h = h
apart e (x ∷ es) h = (h.0, apart e es h.1)

texts_once : (es : List (Key × Seen)) → IsDistinct key_eq (keys_of es) → IsDistinct bytes_eq (map (λ r. r.text) (map (λ e. row (e.0.items, e.1)) es))
unfolding IsDistinct
texts_once [] h = h
texts_once (e ∷ es) h = (apart e es h.0, texts_once es h.1)

pub tallies_are : (ts : List (List ℕ)) (t : Tallies) → AreSeen ts t → IsDistinct key_eq (keys_of t.seen.entries) → IsSortedByKey (λ e. rank (row (e.0.items, e.1))) rank_cmp t.seen.entries → AreTallies ts (rows t)
tallies_are ts t are once order = record {
  counts = λ text. ap count_in (tally_at text t.seen.entries) ∙ count_at text (kept t text) ∙ are.counts text;
  firsts = λ text. ap (option_map (λ r. r.first)) (tally_at text t.seen.entries) ∙ first_at text (kept t text) ∙ are.firsts text;
  once = texts_once t.seen.entries once;
  order = sorted_rows t.seen.entries order;
}

-- one row more
pub row_more : (es : List (Key × Seen)) (i : ℕ) → map (λ e. row (e.0.items, e.1)) (take i es) ++ option_to_list (option_map (λ e. row (e.0.items, e.1)) (slice_get es i)) ≡ map (λ e. row (e.0.items, e.1)) (take (i + 1) es)
row_more es i =
    let f = λ (e : Key × Seen). row (e.0.items, e.1) in
    ⊎_elim (λ here. ap (λ o. map f (take i es) ++ option_to_list (option_map f o)) here.2 ∙ sym (map-append f (take i es) (here.0 ∷ [])) ∙ ap (λ x. map f (take i es ++ x ∷ [])) (sym here.3) ∙ ap (map f) (sym (take_more es i here.0 here.1)))
    (λ past.
    (let now : take i es ≡ es = take_all i es past.0 in
    let then : take (i + 1) es ≡ es = take_all (i + 1) es (let low = past.0 in omega (arith, low)) in
    ap (λ o. map f (take i es) ++ option_to_list (option_map f o)) past.1 ∙ append-nil (map f (take i es)) ∙ ap (map f) (now ∙ sym then)))
    (slice_get_cases es i).1

pub if_rows : {E : Type 0} (old t : Tallies) (r : Result (Vec Tally Global) E) → IfOk r (λ found. found.items ≡ rows t) → ((ts : List (List ℕ)) → AreSeen ts old → AreTallies ts (rows t)) → IfOk r (λ found. (ts : List (List ℕ)) → AreSeen ts old → AreTallies ts found.items)
if_rows old t (Ok found) e h = λ ts are. subst (AreTallies ts) (sym e) (h ts are)
if_rows old t (Err x) e h = e
