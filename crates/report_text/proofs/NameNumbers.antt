-- Names in order have numbers, their positions.
use Rattle.std.proofs.Common.{◌≡◌, ℕ, zero, suc, ◌+◌, ◌^◌, ◌<◌, Bool, true, false, cond, not, ◌||◌, ◌==◌, List, [], ◌∷◌, ◌++◌, length, take, map, get_or, add-one, refl, sym, ap, ◌∙◌, append_assoc, arith, position}
use Rattle.std.specs.Prelude.{Option, Some, None, option_and_then, nat_lt, codes, IfSome}
use Rattle.std.specs.List.{position_or_len, slice_index_or, list_any, AllByRecursion}
use Rattle.std.specs.List.Sorted.{IsStrictlySortedBy}
use Rattle.std.specs.Str.{bytes_eq}
use Rattle.std.specs.Cmp.{tied_itself}
use Rattle.std.specs.declared.cmp.Ordering.TheVariants.{Less, Equal}
use Rattle.std.proofs.lemmas.Bool.{lt-ltb, ltb-true}
use Rattle.std.proofs.lemmas.Cmp.{nat_list_cmp_total}
use Rattle.std.proofs.Math.Seq.{take-suc}
use Rattle.std.proofs.lemmas.List.{map-append, length-map}
use Rattle.net_text.specs.Texts.{is_inside, IsWord}
use Rattle.net_types.specs.Order.{text_cmp}
use Rattle.net_types.specs.declared.network.Names.{Names}
use Rattle.net_types.specs.declared.network.Place.{Place}
use Rattle.report_text.specs.ReportText.{name_text, place_text}
use Rattle.report_text.specs.Reports.{AreNames, IsNumber, IsPlace}
use Rattle.report_text.specs.Reading.{small, name_number, place_at}
use Rattle.report_text.proofs.Cuts.{has, neither, next_back, skip_back, Tail, after}
use Rattle.report_text.proofs.Joined.{same_bytes, bytes_same}
use Rattle.report_text.proofs.Numerals.{has_both}

-- a name isn't one before it
less_apart : (x y : List ℕ) → text_cmp x y ≡ Less → bytes_eq y x ≡ false
less_apart x y h = (elim (bytes_eq y x) as (λ b. bytes_eq y x ≡ b → b ≡ false) [
  | true ↦ λ e. (let s : y ≡ x = bytes_same y x e in let t : text_cmp x x ≡ Less = ap (text_cmp x) (sym s) ∙ h in absurd (apart (sym (tied_itself nat_list_cmp_total x) ∙ t)))
  | false ↦ λ e. refl
]) refl
  where
    apart : Equal ≡ Less → ⊥
    apart e = cc

all_at : (P : List ℕ → Type 0) (texts : List (List ℕ)) (i : ℕ) → AllByRecursion P texts → i < length texts → P (slice_index_or texts i [])
all_at P [] i a h = absurd (omega (arith, h))
all_at P (x ∷ texts) zero a h = a.0
all_at P (x ∷ texts) (suc i) a h = all_at P texts i a.1 (omega (arith, h))

place_of : (texts : List (List ℕ)) (i : ℕ) → IsStrictlySortedBy text_cmp texts → i < length texts → position_or_len (bytes_eq (slice_index_or texts i [])) texts ≡ i
unfolding IsStrictlySortedBy
place_of [] i s h = absurd (omega (arith, h))
place_of (x ∷ texts) zero s h = rw (same_bytes x) refl
place_of (x ∷ texts) (suc i) s h =
    let l : i < length texts = omega (arith, h) in
    rw (less_apart x (slice_index_or texts i []) (all_at (λ y. text_cmp x y ≡ Less) texts i s.0 l), place_of texts i s.1 l) (omega arith)

pub name_back : (texts : List (List ℕ)) (i : ℕ) → AreNames texts → IsNumber texts i → name_number texts (slice_index_or texts i []) ≡ Some i
name_back texts i a h = rw (place_of texts i a.order h.0, lt-ltb i (length texts) h.0, lt-ltb i (2 ^ 32) h.1) refl

-- ---- names are words: they have no blank and no line end

apart : (b : ℕ) → is_inside b ≡ true → ((b == 32) ≡ false) × ((b == 10) ≡ false)
apart b h = go (b == 32) (b == 9) (b == 13) (b == 10) h
  where
    go : (x y z u : Bool) → not ((x || y || z) || u) ≡ true → (x ≡ false) × (u ≡ false)
    go true y z u h = absurd (cc)
    go false true z u h = absurd (cc)
    go false false true u h = absurd (cc)
    go false false false true h = absurd (cc)
    go false false false false h = (refl, refl)

no_gap : (w : List ℕ) → AllByRecursion (λ c. is_inside c ≡ true) w → (has 32 w ≡ false) × (has 10 w ≡ false)
no_gap [] h = (refl, refl)
no_gap (c ∷ w) h =
    let r = no_gap w h.1 in
    let d = apart c h.0 in
    (neither (c == 32) (has 32 w) d.0 r.0, neither (c == 10) (has 10 w) d.1 r.1)

word_gap : (w : List ℕ) → IsWord w → (has 32 w ≡ false) × (has 10 w ≡ false)
word_gap [] h = absurd h
word_gap (c ∷ w) h = no_gap (c ∷ w) h

pub name_plain : (texts : List (List ℕ)) (i : ℕ) → AreNames texts → IsNumber texts i → (has 32 (slice_index_or texts i []) ≡ false) × (has 10 (slice_index_or texts i []) ≡ false)
name_plain texts i a h = word_gap (slice_index_or texts i []) (all_at IsWord texts i a.words h.0)

-- ---- places

pub place_back : (names : Names) (p : Place) (t : List ℕ) → AreNames names.texts → IsPlace names.texts p → Tail 32 t → place_at names.texts (place_text names p ++ t) ≡ Some (p, after t)
unfolding place_at place_text
place_back names p t a h e =
    let d = name_text names p.device in
    let i = name_text names p.interface in
    let dp = name_plain names.texts p.device a h.0 in
    let ip = name_plain names.texts p.interface a h.1 in
    rw (
      append_assoc d (codes " ") i,
      append_assoc d (32 ∷ i) t,
      next_back d (32 ∷ (i ++ t)) dp.0 refl,
      skip_back d (32 ∷ (i ++ t)) dp.0 refl,
      next_back i t ip.0 e,
      skip_back i t ip.0 e,
      name_back names.texts p.device a h.0,
      name_back names.texts p.interface a h.1,
    ) refl

pub place_plain : (names : Names) (p : Place) → AreNames names.texts → IsPlace names.texts p → has 10 (place_text names p) ≡ false
unfolding place_text
place_plain names p a h = ap (has 10) (append_assoc (name_text names p.device) (codes " ") (name_text names p.interface)) ∙ has_both 10 (name_text names p.device) (32 ∷ name_text names p.interface) (name_plain names.texts p.device a h.0).1 (name_plain names.texts p.interface a h.1).1

-- ---- names that are put into a set one after the other

module _ {K X : Type 0} (f : K → X) (p : X → Bool) where
  list_any-map : (ks : List K) → list_any p (map f ks) ≡ list_any (λ k. p (f k)) ks
  list_any-map [] = refl
  list_any-map (k ∷ ks) = ap (λ b. p (f k) || b) (list_any-map ks)

  position_or_len-map : (ks : List K) → position_or_len p (map f ks) ≡ position_or_len (λ k. p (f k)) ks
  position_or_len-map [] = refl
  position_or_len-map (k ∷ ks) = ap (λ n. cond (not (p (f k))) (1 + n) 0) (position_or_len-map ks)

  pub position-map : (ks : List K) → position p (map f ks) ≡ position (λ k. p (f k)) ks
  position-map ks = rw (position_or_len-map ks, length-map ks f) refl

-- a name that isn't there comes last
abbrev pub with_name : List (List ℕ) → List ℕ → List (List ℕ)
with_name names n = cond (list_any (bytes_eq n) names) names (names ++ n ∷ [])

pub added : {K : Type 0} (f : K → List ℕ) (n : List ℕ) (test : K → Bool) → ((k : K) → test k ≡ bytes_eq n (f k)) → (ks : List K) (k : K) → f k ≡ n → map f (cond (list_any test ks) ks (ks ++ k ∷ [])) ≡ with_name (map f ks) n
added f n test says ks k e =
    ap (λ t. map f (cond (list_any t ks) ks (ks ++ k ∷ []))) (λ i k. says k i)
    ∙ rw (← list_any-map f (bytes_eq n) ks) (elim (list_any (bytes_eq n) (map f ks)) as (λ b. map f (cond b ks (ks ++ k ∷ [])) ≡ cond b (map f ks) (map f ks ++ n ∷ [])) [
      | true ↦ refl
      | false ↦ map-append f ks (k ∷ []) ∙ ap (λ x. map f ks ++ x ∷ []) e
    ])

all_get : (P : List ℕ → Type 0) (texts : List (List ℕ)) (i : ℕ) (d : List ℕ) → AllByRecursion P texts → i < length texts → P (get_or texts i d)
all_get P [] i d a h = absurd (omega (arith, h))
all_get P (x ∷ texts) zero d a h = a.0
all_get P (x ∷ texts) (suc i) d a h = all_get P texts i d a.1 (omega (arith, h))

-- a name in order is none before it
fresh : (texts : List (List ℕ)) (i : ℕ) (d : List ℕ) → IsStrictlySortedBy text_cmp texts → i < length texts → list_any (bytes_eq (get_or texts i d)) (take i texts) ≡ false
unfolding IsStrictlySortedBy
fresh [] i d s h = absurd (omega (arith, h))
fresh (x ∷ texts) zero d s h = refl
fresh (x ∷ texts) (suc i) d s h =
    let l : i < length texts = omega (arith, h) in
    neither (bytes_eq (get_or texts i d) x) (list_any (bytes_eq (get_or texts i d)) (take i texts)) (less_apart x (get_or texts i d) (all_get (λ y. text_cmp x y ≡ Less) texts i d s.0 l)) (fresh texts i d s.1 l)

pub next_name : (texts items : List (List ℕ)) (i : ℕ) (n : List ℕ) → AreNames texts → items ≡ texts → i < length items → n ≡ get_or items i n → with_name (take i texts) n ≡ take (i + 1) texts
next_name texts items i n a e h g =
    let l : i < length texts = omega (arith, h, ap (length {A = _}) e) in
    let m : n ≡ get_or texts i n = g ∙ ap (λ xs. get_or xs i n) e in
    let f : list_any (bytes_eq n) (take i texts) ≡ false = ap (λ w. list_any (bytes_eq w) (take i texts)) m ∙ fresh texts i n a.order l in
    rw f (ap (λ w. take i texts ++ w ∷ []) m ∙ sym (take-suc texts i n l) ∙ ap (λ k. take k texts) (sym (add-one i)))

-- ---- what has a number is a name

some_below : (e n i : ℕ) → option_and_then small (cond (nat_lt e n) (Some e) None) ≡ Some i → (i < n) × (i < 2 ^ 32)
some_below e n i h = (elim (nat_lt e n) as (λ t. nat_lt e n ≡ t → option_and_then small (cond t (Some e) None) ≡ Some i → (i < n) × (i < 2 ^ 32)) [
  | true ↦ λ l g. ((elim (nat_lt e (2 ^ 32)) as (λ t. nat_lt e (2 ^ 32) ≡ t → cond t (Some e) None ≡ Some i → (i < n) × (i < 2 ^ 32)) [
    | true ↦ λ m k. (let s : e ≡ i = cc in (omega (arith, s, ltb-true e n l), omega (arith, s, ltb-true e (2 ^ 32) m)))
    | false ↦ λ m k. absurd (cc)
  ]) refl g)
  | false ↦ λ l g. absurd (cc)
]) refl h

pub number_kept : (texts : List (List ℕ)) (w : List ℕ) → IfSome (name_number texts w) (IsNumber texts)
number_kept texts w = go (name_number texts w) refl
  where
    go : (o : Option ℕ) → name_number texts w ≡ o → IfSome o (IsNumber texts)
    go None e = tt
    go (Some i) e = some_below (position_or_len (bytes_eq w) texts) (length texts) i e
