-- Names are tested one after the other.
use Rattle.std.proofs.Common.{◌≡◌, ◌↔◌, ℕ, suc, true, ◌&&◌, List, [], ◌∷◌, length, refl, arith}
use Rattle.std.specs.Prelude.{IsTrue, nat_lt}
use Rattle.std.specs.List.{list_all, AllByRecursion}
use Rattle.std.specs.List.Sorted.{IsStrictlySortedBy}
use Rattle.std.specs.declared.cmp.Ordering.{Ordering}
use Rattle.std.specs.declared.cmp.Ordering.TheVariants.{Less, Equal, Greater}
use Rattle.std.proofs.lemmas.Bool.{lt-ltb}
use Rattle.std.proofs.lemmas.Cmp.{nat_list_cmp_total}
use Rattle.net_text.specs.Texts.{is_inside, IsWord}
use Rattle.net_types.specs.Order.{text_cmp}
use Rattle.report_text.specs.Reports.{AreNames}
use Rattle.report_text.specs.Reading.{is_less, is_name, are_rising}
use Rattle.report_text.proofs.FieldLaws.{both}

less : (o : Ordering) → is_less o ≡ true → o ≡ Less
less Less e = refl
less Equal e = absurd (cc)
less Greater e = absurd (cc)

inside : (w : List ℕ) → list_all is_inside w ≡ true → AllByRecursion (λ c. is_inside c ≡ true) w
inside [] e = tt
inside (c ∷ w) e = let g = both (is_inside c) (list_all is_inside w) e in (g.0, inside w g.1)

inside_back : (w : List ℕ) → AllByRecursion (λ c. is_inside c ≡ true) w → list_all is_inside w ≡ true
inside_back [] h = refl
inside_back (c ∷ w) h = rw (h.0, inside_back w h.1) refl

word : (w : List ℕ) → is_name w ≡ true → IsWord w
word [] e = absurd (cc)
word (c ∷ w) e = inside (c ∷ w) (both (nat_lt 0 (length (c ∷ w))) (list_all is_inside (c ∷ w)) e).1

word_back : (w : List ℕ) → IsWord w → is_name w ≡ true
word_back [] h = absurd h
word_back (c ∷ w) h = rw (lt-ltb 0 (suc (length w)) (omega arith), inside_back (c ∷ w) h) refl

-- what is behind y is behind what y is behind
below : (x y : List ℕ) (ts : List (List ℕ)) → text_cmp x y ≡ Less → AllByRecursion (λ z. text_cmp y z ≡ Less) ts → AllByRecursion (λ z. text_cmp x z ≡ Less) ts
below x y [] h a = tt
below x y (z ∷ ts) h a = (nat_list_cmp_total.trans x y z h a.0, below x y ts h a.1)

-- a word is behind nothing
first : (w : List ℕ) → IsWord w → text_cmp [] w ≡ Less
first [] h = absurd h
first (c ∷ w) h = refl

abbrev Rising : List ℕ → List (List ℕ) → Type 0
Rising b ts = AllByRecursion (λ t. text_cmp b t ≡ Less) ts × IsStrictlySortedBy text_cmp ts × AllByRecursion IsWord ts

rising : (b : List ℕ) (ts : List (List ℕ)) → are_rising b ts ≡ true → Rising b ts
unfolding IsStrictlySortedBy
rising b [] e = (tt, tt, tt)
rising b (t ∷ ts) e =
    let g = both (is_name t) (is_less (text_cmp b t) && are_rising t ts) e in
    let k = both (is_less (text_cmp b t)) (are_rising t ts) g.1 in
    let l : text_cmp b t ≡ Less = less (text_cmp b t) k.0 in
    let r = rising t ts k.1 in
    ((l, below b t ts l r.0), (r.0, r.1), (word t g.0, r.2))

rising_back : (b : List ℕ) (ts : List (List ℕ)) → Rising b ts → are_rising b ts ≡ true
unfolding IsStrictlySortedBy
rising_back b [] h = refl
rising_back b (t ∷ ts) h = rw (word_back t h.2.0, h.0.0, rising_back t ts (h.1.0, h.1.1, h.2.1)) refl

all_first : (ts : List (List ℕ)) → AllByRecursion IsWord ts → AllByRecursion (λ t. text_cmp [] t ≡ Less) ts
all_first [] h = tt
all_first (t ∷ ts) h = (first t h.0, all_first ts h.1)

pub names_tested : (ts : List (List ℕ)) → IsTrue (are_rising [] ts) ↔ AreNames ts
names_tested ts = (
  λ e. (let r = rising [] ts e in record { order = r.1; words = r.2 }),
  λ h. rising_back [] ts (all_first ts h.words, h.order, h.words),
)
