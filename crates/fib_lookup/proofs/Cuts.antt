-- The parts of the cut with the choices of their groups.
use Rattle.std.proofs.Common.{◌≡◌, ℕ, zero, suc, ◌<◌, ◌≤◌, ◌^◌, ◌/◌, Bool, false, cond, List, [], ◌∷◌, ◌++◌, length, get_or, map, Option, Some, None, refl, sym, ap, subst, ◌∙◌, arith}
use Rattle.std.specs.Prelude.{All, AllPairs, Any}
use Rattle.std.specs.Option.{option_or, unwrap_or}
use Rattle.std.specs.List.Sorted.{IsStrictlySortedBy}
use Rattle.std.proofs.lemmas.List.Kept.{AllPairs-cons}
use Rattle.std.proofs.lemmas.List.Elements.{All-nil, All-map, All-weaker, All-head, All-tail, All-push}
use Rattle.std.specs.Prelude.{IsNone, IfSome, true}
use Rattle.std.proofs.Common.{true≢false}
use Rattle.hdr_bits.specs.Bits.{bit_of}
use Rattle.hdr_bits.specs.CubeBits.{IsIn, IsStar, is_in, digit_at}
use Rattle.cube_alg.proofs.ValueLemmas.{test_in}
use Rattle.cube_alg.specs.declared.cut.Piece.{Piece}
use Rattle.cube_alg.specs.Pieces.{value_of, AreApartPieces, AreStarsAt}
use Rattle.hdr_bits.specs.declared.cube.Cube.{Cube}
use Rattle.net_types.specs.declared.network.Rib.{Rib}
use Rattle.net_types.specs.Order.{hop_cmp, in_order}
use Rattle.net_types.specs.Routes.{holds, hops, hops_within}
use Rattle.net_types.proofs.Members.{to_map}
use Rattle.fib_lookup.specs.declared.form.HopForm.{HopForm}
use Rattle.fib_lookup.specs.declared.form.HopForm.TheVariants.{Discard}
use Rattle.fib_lookup.specs.declared.group.Group.{Group}
use Rattle.fib_lookup.specs.Forms.{form_cmp, hop_of}
use Rattle.fib_lookup.specs.Choices.{choices_in, AreChoicesFor, IsOfDestinations}
use Rattle.fib_lookup.specs.Groups.{number_of, forms_at, first_forms, row, AreChoices}
use Rattle.fib_lookup.proofs.Numbers.{forms_first}

module _ {X Y : Type 0} (f : X → Y) where
  pairs_map : (R : X → X → Type 0) (S : Y → Y → Type 0) → ((x y : X) → R x y → S (f x) (f y)) → (xs : List X) → AllPairs R xs → AllPairs S (map f xs)
  pairs_map R S h [] p = λ i j d l m. absurd (omega arith)
  pairs_map R S h (x ∷ xs) p =
      AllPairs-cons S (f x) (map f xs) (All-map (S (f x)) f xs (λ k d l. h x (get_or xs k d) (p 0 (suc k) d (omega arith) (omega arith))))
      (pairs_map R S h xs (λ i j d l m. p (suc i) (suc j) d (omega arith) (omega arith)))

  any_mapped : (P : X → Type 0) (Q : Y → Type 0) → ((x : X) → P x → Q (f x)) → (xs : List X) → Any P xs → Any Q (map f xs)
  any_mapped P Q h xs a = (let c = to_map f xs a.1 (a.0, a.2, a.3) in (c.0, f a.1, c.1, c.2, h a.1 a.4))

pub rows_apart : (gs : List Group) (parts : List Piece) (rows : List (Cube × List HopForm)) → rows ≡ map (row gs) parts → AllPairs AreApartPieces parts → AllPairs (λ p q. (h : ℕ) → IsIn p.0 h → IsIn q.0 h → ⊥) rows
rows_apart gs parts rows e a = subst (AllPairs (λ p q. (h : ℕ) → IsIn p.0 h → IsIn q.0 h → ⊥)) (sym e) (pairs_map (row gs) AreApartPieces (λ p q. (h : ℕ) → IsIn p.0 h → IsIn q.0 h → ⊥) (λ x y r. r) parts a)

pub rows_cover : (gs : List Group) (pieces parts : List Piece) (rows : List (Cube × List HopForm)) (h n : ℕ) → rows ≡ map (row gs) parts → value_of pieces h ≡ Some n → ((h v : ℕ) → value_of pieces h ≡ Some v → Any (λ p. IsIn p.cube h) parts) → Any (λ p. IsIn p.0 h) rows
rows_cover gs pieces parts rows h n q e f = subst (Any (λ p. IsIn p.0 h)) (sym q) (any_mapped (row gs) (λ p. IsIn p.cube h) (λ p. IsIn p.0 h) (λ x i. i) parts (f h n e))

same_some : (x y : ℕ) → Some x ≡ Some y → x ≡ y
same_some x y e = cc

pub rows_exact : (rib : Rib) (gs : List Group) (pieces parts : List Piece) (rows : List (Cube × List HopForm)) → rows ≡ map (row gs) parts → AreChoices rib gs → ((h : ℕ) → h < 2 ^ 112 → value_of pieces h ≡ Some (unwrap_or (number_of gs (h / 2 ^ 80)) (length gs))) → All (λ p. (h : ℕ) → IsIn p.cube h → value_of pieces h ≡ Some p.value) parts → All (λ p. (h : ℕ) → h < 2 ^ 112 → IsIn p.0 h → in_order hop_cmp (map (hop_of (h / 2 ^ 80)) p.1) ≡ in_order hop_cmp (hops rib (h / 2 ^ 80))) rows
rows_exact rib gs pieces parts rows q c n each =
    subst (All (λ p. (h : ℕ) → h < 2 ^ 112 → IsIn p.0 h → in_order hop_cmp (map (hop_of (h / 2 ^ 80)) p.1) ≡ in_order hop_cmp (hops rib (h / 2 ^ 80)))) (sym q) (All-map (λ p. (h : ℕ) → h < 2 ^ 112 → IsIn p.0 h → in_order hop_cmp (map (hop_of (h / 2 ^ 80)) p.1) ≡ in_order hop_cmp (hops rib (h / 2 ^ 80))) (row gs) parts
    (All-weaker (λ p. (h : ℕ) → IsIn p.cube h → value_of pieces h ≡ Some p.value) (λ p. (h : ℕ) → h < 2 ^ 112 → IsIn p.cube h → in_order hop_cmp (map (hop_of (h / 2 ^ 80)) (forms_at gs p.value)) ≡ in_order hop_cmp (hops rib (h / 2 ^ 80)))
    (λ p f h b i.
    (let e : p.value ≡ unwrap_or (number_of gs (h / 2 ^ 80)) (length gs) = same_some _ _ (sym (f h i) ∙ n h b) in
    ap (λ v. in_order hop_cmp (map (hop_of (h / 2 ^ 80)) (forms_at gs v))) e ∙ (ap (λ fs. in_order hop_cmp (map (hop_of (h / 2 ^ 80)) fs)) (forms_first gs (h / 2 ^ 80)) ∙ c.choices (h / 2 ^ 80))))
    parts each))

one_sorted : IsStrictlySortedBy form_cmp (Discard ∷ [])
unfolding IsStrictlySortedBy
one_sorted = (tt, tt)

forms_sorted : (gs : List Group) (v : ℕ) → All (λ g. IsStrictlySortedBy form_cmp g.forms.items) gs → IsStrictlySortedBy form_cmp (forms_at gs v)
forms_sorted [] v a = one_sorted
forms_sorted (g ∷ gs) zero a = All-head (λ g. IsStrictlySortedBy form_cmp g.forms.items) g gs a
forms_sorted (g ∷ gs) (suc v) a = forms_sorted gs v (All-tail (λ g. IsStrictlySortedBy form_cmp g.forms.items) g gs a)

pub rows_sorted : (rib : Rib) (gs : List Group) (parts : List Piece) (rows : List (Cube × List HopForm)) → rows ≡ map (row gs) parts → AreChoices rib gs → All (λ p. IsStrictlySortedBy form_cmp p.1) rows
rows_sorted rib gs parts rows q c = subst (All (λ p. IsStrictlySortedBy form_cmp p.1)) (sym q) (All-map (λ p. IsStrictlySortedBy form_cmp p.1) (row gs) parts (λ k d l. forms_sorted gs (get_or parts k d).value c.sorted))

pub none_choices : (rib : Rib) → rib.count ≡ 0 → AreChoices rib []
none_choices rib z = record {
  choices = λ a. ap (λ n. in_order hop_cmp (hops_within rib.routes n a)) (sym z);
  sorted = All-nil (λ g. IsStrictlySortedBy form_cmp g.forms.items);
}

-- the cube of all headers holds each
all_agree : (o : Option ℕ) (b : ℕ) → IsNone o → IfSome o (λ x. b ≡ x)
all_agree None b n = tt
all_agree (Some x) b n = absurd (true≢false n)

pub in_all : (c : Cube) → ((k : ℕ) → k < 112 → IsStar c k) → (h : ℕ) → is_in c h ≡ true
in_all c f h = test_in c h (λ k l. all_agree (digit_at c k) (bit_of h k) (f k l))

-- ---- groups that are tried in order
abbrev pub found_forms : List Group → ℕ → Option (List HopForm)
found_forms [] a = None
found_forms (g ∷ gs) a = cond (holds g.prefix a) (Some g.forms.items) (found_forms gs a)

or_if : {X : Type 0} (t : Bool) (x : X) (o p : Option X) → cond t (Some x) (option_or o p) ≡ option_or (cond t (Some x) o) p
or_if true x o p = refl
or_if false x o p = refl

found_push : (gs : List Group) (g : Group) (a : ℕ) → found_forms (gs ++ g ∷ []) a ≡ option_or (found_forms gs a) (cond (holds g.prefix a) (Some g.forms.items) None)
found_push [] g a = refl
found_push (x ∷ gs) g a = ap (cond (holds x.prefix a) (Some x.forms.items)) (found_push gs g a) ∙ or_if (holds x.prefix a) x.forms.items (found_forms gs a) (cond (holds g.prefix a) (Some g.forms.items) None)

choices_push : (rows : List (Cube × List HopForm)) (c : Cube) (forms : List HopForm) (h : ℕ) → choices_in (rows ++ (c, forms) ∷ []) h ≡ option_or (choices_in rows h) (cond (is_in c h) (Some forms) None)
choices_push [] c forms h = refl
choices_push (q ∷ rows) c forms h = ap (cond (is_in q.0 h) (Some q.1)) (choices_push rows c forms h) ∙ or_if (is_in q.0 h) q.1 (choices_in rows h) (cond (is_in c h) (Some forms) None)

-- these are the rows of the groups
pub record AreRows (groups : List Group) (rows : List (Cube × List HopForm)) : Type 0 where
  pub choices : (h : ℕ) → h < 2 ^ 112 → choices_in rows h ≡ found_forms groups (h / 2 ^ 80)
  pub sorted : All (λ p. IsStrictlySortedBy form_cmp p.1) rows
  pub destinations : All (λ p. IsOfDestinations p.0) rows

pub rows_none : AreRows [] []
rows_none = record { choices = λ h b. refl; sorted = All-nil (λ p. IsStrictlySortedBy form_cmp p.1); destinations = All-nil (λ p. IsOfDestinations p.0) }

pub rows_more : (gs : List Group) (rows : List (Cube × List HopForm)) (g : Group) (c : Cube) → ((h : ℕ) → h < 2 ^ 112 → is_in c h ≡ holds g.prefix (h / 2 ^ 80)) → IsOfDestinations c → IsStrictlySortedBy form_cmp g.forms.items → AreRows gs rows → AreRows (gs ++ g ∷ []) (rows ++ (c, g.forms.items) ∷ [])
rows_more gs rows g c f d s r =
    record {
      choices = λ h b. choices_push rows c g.forms.items h
          ∙ ((λ i. option_or (r.choices h b i) (cond (f h b i) (Some g.forms.items) None)) ∙ sym (found_push gs g (h / 2 ^ 80)));
      sorted = All-push (λ p. IsStrictlySortedBy form_cmp p.1) rows (c, g.forms.items) r.sorted s;
      destinations = All-push (λ p. IsOfDestinations p.0) rows (c, g.forms.items) r.destinations d;
    }

or_drop_first : (gs : List Group) (a : ℕ) → option_or (found_forms gs a) (Some (Discard ∷ [])) ≡ Some (first_forms gs a)
or_drop_first [] a = refl
or_drop_first (g ∷ gs) a = by (holds g.prefix a) (or_drop_first gs a)
  where
    by : (t : Bool) → option_or (found_forms gs a) (Some (Discard ∷ [])) ≡ Some (first_forms gs a) → option_or (cond t (Some g.forms.items) (found_forms gs a)) (Some (Discard ∷ [])) ≡ Some (cond t g.forms.items (first_forms gs a))
    by true e = refl
    by false e = e

pub rows_whole : (gs : List Group) (rows : List (Cube × List HopForm)) (c : Cube) (forms : List HopForm) → ((h : ℕ) → is_in c h ≡ true) → forms ≡ Discard ∷ [] → AreRows gs rows → (h : ℕ) → h < 2 ^ 112 → choices_in (rows ++ (c, forms) ∷ []) h ≡ Some (first_forms gs (h / 2 ^ 80))
rows_whole gs rows c forms all e r h b =
    choices_push rows c forms h
    ∙ ((λ i. option_or (r.choices h b i) (cond (all h i) (Some (e i)) None)) ∙ or_drop_first gs (h / 2 ^ 80))

pub rows_whole_sorted : (gs : List Group) (rows : List (Cube × List HopForm)) (c : Cube) (forms : List HopForm) → forms ≡ Discard ∷ [] → AreRows gs rows → All (λ p. IsStrictlySortedBy form_cmp p.1) (rows ++ (c, forms) ∷ [])
rows_whole_sorted gs rows c forms e r =
    All-push (λ p. IsStrictlySortedBy form_cmp p.1) rows (c, forms) r.sorted (subst (λ fs. IsStrictlySortedBy form_cmp fs) (sym e) one_sorted)

pub rows_whole_destinations : (gs : List Group) (rows : List (Cube × List HopForm)) (c : Cube) (forms : List HopForm) → IsOfDestinations c → AreRows gs rows → All (λ p. IsOfDestinations p.0) (rows ++ (c, forms) ∷ [])
rows_whole_destinations gs rows c forms d r = All-push (λ p. IsOfDestinations p.0) rows (c, forms) r.destinations d

pub rows_destinations : (gs : List Group) (parts : List Piece) (rows : List (Cube × List HopForm)) → rows ≡ map (row gs) parts → ((k : ℕ) → 32 ≤ k → k < 112 → AreStarsAt parts k) → All (λ p. IsOfDestinations p.0) rows
rows_destinations gs parts rows q s =
    subst (All (λ p. IsOfDestinations p.0)) (sym q) (All-map (λ p. IsOfDestinations p.0) (row gs) parts (λ i d l k a b. s k a b i d l))

pub rows_choices : (rib : Rib) (gs : List Group) (rows : List (Cube × List HopForm)) → AreChoices rib gs → ((h : ℕ) → h < 2 ^ 112 → choices_in rows h ≡ Some (first_forms gs (h / 2 ^ 80))) → (h : ℕ) → h < 2 ^ 112 → AreChoicesFor rib (h / 2 ^ 80) (choices_in rows h)
rows_choices rib gs rows c n h b =
    record { forms = first_forms gs (h / 2 ^ 80); there = n h b; exact = c.choices (h / 2 ^ 80) }

pub all_at : (P : Group → Type 0) (xs : List Group) (x : Group) (ys : List Group) → All P (xs ++ x ∷ ys) → P x
all_at P [] x ys a = a 0 x (omega arith)
all_at P (z ∷ xs) x ys a = all_at P xs x ys (All-tail P z (xs ++ x ∷ ys) a)

pub no_items : (xs : List Group) → 0 ≡ length xs → [] ≡ xs
no_items [] e = refl
no_items (x ∷ xs) e = absurd (omega (arith, e))
