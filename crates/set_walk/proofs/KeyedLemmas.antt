-- Lists of items that are each a key and the set of the headers of it, as outcomes, devices and steps are: what headers have by
-- them, what is added to it, and keys that stand once.
use Rattle.std.proofs.Common.{ℕ, zero, suc, ◌≡◌, ◌<◌, ◌+◌, ◌⊎◌, ◌↔◌, inl, inr, List, [], ◌∷◌, ◌++◌, Option, Some, None, slice_get, slice_set, get_or, take, length, refl, ap, sym, ◌∙◌, subst, arith}
use Rattle.std.specs.Prelude.{Contains}
use Rattle.std.proofs.lemmas.List.Elements.{Contains-append_cases, Contains-append_left, Contains-append_right}
use Rattle.std.proofs.lemmas.List.{take_more}
pub use Rattle.std.proofs.lemmas.Option.{get_or_from_slice_get as get_is}
use Rattle.net_types.proofs.Members.{here, there, in_cons, in_one, in_none}
use Rattle.hdr_bits.specs.declared.header.Header.{Header}
use Rattle.hdr_bits.specs.HeaderBits.{IsHeader}
use Rattle.cube_diagram.specs.Functions.{Functions, Keeps, count_of}
use Rattle.set_walk.specs.Sets.{InSet, IsSetOf}
use Rattle.set_walk.specs.Keyed.{StandOnceBy, Adds}
use Rattle.set_walk.proofs.SetLemmas.{kept_set}

-- ---- lists
pub in_set : {A : Type 0} (xs : List A) (i : ℕ) (y z : A) → Contains (slice_set xs i y) z → Contains xs z ⊎ (y ≡ z)
in_set [] i y z c = inl c
in_set (x ∷ xs) zero y z c = elim (in_cons y z xs c) [ inl e ↦ inr e | inr d ↦ inl (there x z xs d) ]
in_set {A} (x ∷ xs) (suc i) y z c =
    elim (in_cons x z (slice_set xs i y) c) [
      | inl e ↦ inl (subst (λ u. Contains (x ∷ xs) u) e (here x xs))
      | inr d ↦ elim (in_set xs i y z d) [ inl b ↦ inl (there x z xs b) | inr b ↦ inr b ]
    ]

pub in_get : {A : Type 0} (xs : List A) (i : ℕ) (x : A) → slice_get xs i ≡ Some x → Contains xs x
in_get [] i x e = absurd cc
in_get (y ∷ xs) zero x e = let s : y ≡ x = cc in subst (λ u. Contains (y ∷ xs) u) s (here y xs)
in_get (y ∷ xs) (suc i) x e = there y x xs (in_get xs i x e)

pub at_list : {A : Type 0} (ys xs : List A) (i : ℕ) (x : A) → ys ≡ xs → slice_get ys i ≡ Some x → slice_get xs i ≡ Some x
at_list ys xs i x e g = subst (λ l. slice_get l i ≡ Some x) e g

get_push : {A : Type 0} (xs : List A) (y : A) (j : ℕ) (z : A) → slice_get (xs ++ y ∷ []) j ≡ Some z → ((j ≡ length xs) × (y ≡ z)) ⊎ (slice_get xs j ≡ Some z)
get_push [] y zero z g = inl (refl, cc)
get_push [] y (suc j) z g = absurd cc
get_push (a ∷ xs) y zero z g = inr g
get_push (a ∷ xs) y (suc j) z g = elim (get_push xs y j z g) [ inl p ↦ inl (omega (arith, p.0), p.1) | inr q ↦ inr q ]

-- ---- each key once
module _ {X K : Type 0} {key : X → K} where
  under_set : (xs : List X) (i : ℕ) (x y : X) (j : ℕ) (z : X) → slice_get xs i ≡ Some x → key x ≡ key y → slice_get (slice_set xs i y) j ≡ Some z → (u : X) × (slice_get xs j ≡ Some u) × (key u ≡ key z)
  under_set [] i x y j z e s g = absurd cc
  under_set (a ∷ xs) zero x y zero z e s g = let t : y ≡ z = cc in (x, e, s ∙ ap key t)
  under_set (a ∷ xs) zero x y (suc j) z e s g = (z, g, refl)
  under_set (a ∷ xs) (suc i) x y zero z e s g = (z, g, refl)
  under_set (a ∷ xs) (suc i) x y (suc j) z e s g = under_set xs i x y j z e s g

  pub once_set : (xs : List X) (i : ℕ) (x y : X) → slice_get xs i ≡ Some x → key x ≡ key y → StandOnceBy key xs → StandOnceBy key (slice_set xs i y)
  once_set xs i x y e s a =
      record {
        once = λ j k u v p q o.
            let b = under_set xs i x y j u e s p in
            let c = under_set xs i x y k v e s q in
            a.once j k b.0 c.0 b.1 c.1 (b.2 ∙ (o ∙ sym c.2));
      }

  pub once_push : (xs : List X) (y : X) → ((x : X) → Contains xs x → key x ≡ key y → ⊥) → StandOnceBy key xs → StandOnceBy key (xs ++ y ∷ [])
  once_push xs y new a =
      record {
        once = λ j k u v p q o. elim (get_push xs y j u p) [
          | inl b ↦ elim (get_push xs y k v q) [
            | inl c ↦ b.0 ∙ sym c.0
            | inr c ↦ absurd (new v (in_get xs k v c) (sym o ∙ ap key (sym b.1)))
          ]
          | inr b ↦ elim (get_push xs y k v q) [
            | inl c ↦ absurd (new u (in_get xs j u b) (o ∙ ap key (sym c.1)))
            | inr c ↦ a.once j k u v b c o
          ]
        ];
      }

  pub once_none : StandOnceBy key []
  once_none = record { once = λ i j x y e g o. absurd cc }

-- ---- what is added, whatever headers have
module _ {X A : Type 0} {are : Functions → List X → Type 0} {has : Functions → List X → Header → A → Type 0} where
  pub adds_then : (f g k : Functions) (P Q : Header → A → Type 0) (a b c : List X) → Adds are has f g P a b → Adds are has g k Q b c → Adds are has f k (λ h m. P h m ⊎ Q h m) a c
  adds_then f g k P Q a b c p q =
      record {
        told = q.told;
        exact = λ h v m. (
          λ x. elim ((q.exact h v m).0 x) [
            | inl y ↦ elim ((p.exact h v m).0 y) [ inl z ↦ inl z | inr z ↦ inr (inl z) ]
            | inr y ↦ inr (inr y)
          ],
          λ x. elim x [
            | inl y ↦ (q.exact h v m).1 (inl ((p.exact h v m).1 (inl y)))
            | inr y ↦ elim y [ inl z ↦ (q.exact h v m).1 (inl ((p.exact h v m).1 (inr z))) | inr z ↦ (q.exact h v m).1 (inr z) ]
          ],
        );
      }

  pub adds_same : (f g : Functions) (P Q : Header → A → Type 0) (a b : List X) → ((h : Header) → IsHeader h → (m : A) → P h m ↔ Q h m) → Adds are has f g P a b → Adds are has f g Q a b
  adds_same f g P Q a b e p =
      record {
        told = p.told;
        exact = λ h v m. (
          λ x. elim ((p.exact h v m).0 x) [ inl y ↦ inl y | inr y ↦ inr ((e h v m).0 y) ],
          λ x. elim x [ inl y ↦ (p.exact h v m).1 (inl y) | inr y ↦ (p.exact h v m).1 (inr ((e h v m).1 y)) ],
        );
      }

  -- one more of those that are gone through
  pub adds_turn : {Y : Type 0} (f g k : Functions) (all : List Y → Header → A → Type 0) (one : Header → A → Type 0) (ys : List Y) (i : ℕ) (y : Y) (a b c : List X) → i < length ys → ((h : Header) → IsHeader h → (m : A) → (all (take i ys) h m ⊎ one h m) ↔ all (take i ys ++ get_or ys i y ∷ []) h m) → Adds are has f g (all (take i ys)) a b → Adds are has g k one b c → Adds are has f k (all (take (i + 1) ys)) a c
  adds_turn f g k all one ys i y a b c l more p q =
      subst (λ zs. Adds are has f k (all zs) a c) (sym (take_more ys i y l)) (adds_same f k _ _ a c more (adds_then f g k _ _ a b c p q))

  -- what the headers of a set have where it is found
  pub adds_found : (f g : Functions) (set : ℕ) (found : Option A) (o : A) (P : Header → A → Type 0) (a b : List X) → ((h : Header) → IsHeader h → (q : A) → P h q ↔ (InSet f set h × (found ≡ Some q))) → found ≡ Some o → Adds are has f g (λ h q. InSet f set h × (o ≡ q)) a b → Adds are has f g P a b
  adds_found f g set found o P a b one e add =
      adds_same f g _ P a b (λ h v q. (
        λ u. (one h v q).1 (u.0, e ∙ ap Some u.1),
        λ u. let y = (one h v q).0 u in let same : Some o ≡ Some q = sym e ∙ y.1 in (y.0, cc),
      )) add

-- ---- what headers have by the items
-- what an item gives to the headers of its set
abbrev pub Gives : {X A : Type 0} → (Header → X → A) → (X → ℕ) → Functions → X → Header → A → Type 0
Gives value headers f x h a = InSet f (headers x) h × (value h x ≡ a)

-- headers have just what the items give them; of items, `is` tells at least that their sets are in the table, and does so as the
-- table grows
pub record HasByItems {X A : Type 0} (value : Header → X → A) (headers : X → ℕ) (is : Functions → X → Type 0) (has : Functions → List X → Header → A → Type 0) : Type 0 where
  pub from : (f : Functions) (xs : List X) (h : Header) (a : A) → has f xs h a → (x : X) × Contains xs x × Gives value headers f x h a
  pub to : (f : Functions) (xs : List X) (h : Header) (a : A) (x : X) → Contains xs x → Gives value headers f x h a → has f xs h a
  pub below : (f : Functions) (x : X) → is f x → headers x < count_of f
  pub kept : (f g : Functions) (x : X) → Keeps f g → is f x → is g x

module _ {X A : Type 0} {value : Header → X → A} {headers : X → ℕ} {is : Functions → X → Type 0} {has : Functions → List X → Header → A → Type 0} (by : HasByItems value headers is has) where
  pub all_kept : (f g : Functions) (xs : List X) → Keeps f g → ((x : X) → Contains xs x → is f x) → (x : X) → Contains xs x → is g x
  all_kept f g xs k t x c = by.kept f g x k (t x c)

  pub has_kept : (f g : Functions) (xs : List X) (h : Header) (a : A) → Keeps f g → ((x : X) → Contains xs x → headers x < count_of f) → has g xs h a ↔ has f xs h a
  has_kept f g xs h a k b = (
    λ y. let u = by.from g xs h a y in by.to f xs h a u.0 u.1 ((kept_set f g (headers u.0) h k (b u.0 u.1)).0 u.2.0, u.2.1),
    λ y. let u = by.from f xs h a y in by.to g xs h a u.0 u.1 ((kept_set f g (headers u.0) h k (b u.0 u.1)).1 u.2.0, u.2.1),
  )

  pub has_none : (f : Functions) (h : Header) (a : A) → has f [] h a → ⊥
  has_none f h a y = let u = by.from f [] h a y in in_none u.0 u.1

  pub has_cons : (f : Functions) (x : X) (xs : List X) (h : Header) (a : A) → has f (x ∷ xs) h a ↔ (Gives value headers f x h a ⊎ has f xs h a)
  has_cons f x xs h a = (
    λ y. let u = by.from f (x ∷ xs) h a y in elim (in_cons x u.0 xs u.1) [
      | inl e ↦ inl (subst (λ z. Gives value headers f z h a) (sym e) u.2)
      | inr c ↦ inr (by.to f xs h a u.0 c u.2)
    ],
    λ y. elim y [
      | inl z ↦ by.to f (x ∷ xs) h a x (here x xs) z
      | inr z ↦ let u = by.from f xs h a z in by.to f (x ∷ xs) h a u.0 (there x u.0 xs u.1) u.2
    ],
  )

  pub has_one : (f : Functions) (x : X) (h : Header) (a : A) → has f (x ∷ []) h a ↔ Gives value headers f x h a
  has_one f x h a = (
    λ y. elim ((has_cons f x [] h a).0 y) [ inl z ↦ z | inr z ↦ absurd (has_none f h a z) ],
    λ z. by.to f (x ∷ []) h a x (here x []) z,
  )

  pub has_more : (f : Functions) (xs : List X) (x : X) (h : Header) (a : A) → has f (xs ++ x ∷ []) h a ↔ (has f xs h a ⊎ Gives value headers f x h a)
  has_more f xs x h a = (
    λ y. let u = by.from f (xs ++ x ∷ []) h a y in elim (Contains-append_cases xs (x ∷ []) u.0 u.1) [
      | inl c ↦ inl (by.to f xs h a u.0 c u.2)
      | inr c ↦ inr (subst (λ z. Gives value headers f z h a) (sym (in_one x u.0 c)) u.2)
    ],
    λ y. elim y [
      | inl z ↦ let u = by.from f xs h a z in by.to f (xs ++ x ∷ []) h a u.0 (Contains-append_left xs (x ∷ []) u.0 u.1) u.2
      | inr z ↦ by.to f (xs ++ x ∷ []) h a x (Contains-append_right xs (x ∷ []) x (here x [])) z
    ],
  )

  -- one item is replaced by one that gives more
  pub has_set : (f : Functions) (xs : List X) (i : ℕ) (x y : X) (P : Type 0) (h : Header) (a : A) → slice_get xs i ≡ Some x → (Gives value headers f y h a ↔ (Gives value headers f x h a ⊎ P)) → has f (slice_set xs i y) h a ↔ (has f xs h a ⊎ P)
  has_set f [] i x y P h a e s = absurd cc
  has_set f (w ∷ xs) zero x y P h a e s =
      let same : w ≡ x = cc in
      let old = has_cons f w xs h a in
      let new = has_cons f y xs h a in (
        λ u. elim (new.0 u) [
          | inl b ↦ elim (s.0 b) [ inl c ↦ inl (old.1 (inl (subst (λ z. Gives value headers f z h a) (sym same) c))) | inr c ↦ inr c ]
          | inr b ↦ inl (old.1 (inr b))
        ],
        λ u. elim u [
          | inl b ↦ elim (old.0 b) [ inl c ↦ new.1 (inl (s.1 (inl (subst (λ z. Gives value headers f z h a) same c)))) | inr c ↦ new.1 (inr c) ]
          | inr b ↦ new.1 (inl (s.1 (inr b)))
        ],
      )
  has_set f (w ∷ xs) (suc i) x y P h a e s =
      let rest = has_set f xs i x y P h a e s in
      let old = has_cons f w xs h a in
      let new = has_cons f w (slice_set xs i y) h a in (
        λ u. elim (new.0 u) [
          | inl b ↦ inl (old.1 (inl b))
          | inr b ↦ elim (rest.0 b) [ inl c ↦ inl (old.1 (inr c)) | inr c ↦ inr c ]
        ],
        λ u. elim u [
          | inl b ↦ elim (old.0 b) [ inl c ↦ new.1 (inl c) | inr c ↦ new.1 (inr (rest.1 (inl c))) ]
          | inr b ↦ new.1 (inr (rest.1 (inr b)))
        ],
      )

  -- ---- what is added to it
  pub nothing_added : (f g : Functions) (P : Header → A → Type 0) (xs : List X) → Keeps f g → ((x : X) → Contains xs x → is f x) → ((h : Header) → IsHeader h → (a : A) → P h a → ⊥) → Adds (λ s ys. (y : X) → Contains ys y → is s y) has f g P xs xs
  nothing_added f g P xs k t n =
      record {
        told = all_kept f g xs k t;
        exact = λ h v a. let e = has_kept f g xs h a k (λ x c. by.below f x (t x c)) in (λ y. inl (e.0 y), λ y. elim y [ inl z ↦ e.1 z | inr z ↦ absurd (n h v a z) ]);
      }

  pub pushed : (f : Functions) (xs : List X) (x : X) → is f x → ((y : X) → Contains xs y → is f y) → Adds (λ s ys. (y : X) → Contains ys y → is s y) has f f (Gives value headers f x) xs (xs ++ x ∷ [])
  pushed f xs x m t =
      record {
        told = λ y c. elim (Contains-append_cases xs (x ∷ []) y c) [ inl d ↦ t y d | inr d ↦ subst (is f) (in_one x y d) m ];
        exact = λ h v a. has_more f xs x h a;
      }

  -- the headers of one item more at an item that gives them the same
  pub joined : (f g : Functions) (xs : List X) (i : ℕ) (x y z : X) → Keeps f g → slice_get xs i ≡ Some x → is g y → IsSetOf g (headers y) (λ h. InSet f (headers x) h ⊎ InSet f (headers z) h) → ((h : Header) → value h y ≡ value h x) → ((h : Header) → value h y ≡ value h z) → ((u : X) → Contains xs u → is f u) → Adds (λ s us. (u : X) → Contains us u → is s u) has f g (Gives value headers f z) xs (slice_set xs i y)
  joined f g xs i x y z k e m s ex ez t =
      record {
        told = λ u c. elim (in_set xs i y u c) [ inl d ↦ by.kept f g u k (t u d) | inr d ↦ subst (is g) d m ];
        exact = λ h v a.
            let o = has_kept f g xs h a k (λ u c. by.below f u (t u c)) in
            let kx = kept_set f g (headers x) h k (by.below f x (t x (in_get xs i x e))) in
            let r = has_set g xs i x y (Gives value headers f z h a) h a e (
              λ u. elim ((s h v).0 u.0) [ inl b ↦ inl (kx.1 b, sym (ex h) ∙ u.1) | inr b ↦ inr (b, sym (ez h) ∙ u.1) ],
              λ u. elim u [ inl b ↦ ((s h v).1 (inl (kx.0 b.0)), ex h ∙ b.1) | inr b ↦ ((s h v).1 (inr b.0), ez h ∙ b.1) ],
            ) in (
              λ u. elim (r.0 u) [ inl b ↦ inl (o.0 b) | inr b ↦ inr b ],
              λ u. elim u [ inl b ↦ r.1 (inl (o.1 b)) | inr b ↦ r.1 (inr b) ],
            );
      }

  -- an item is found in a list that is lent, and read there
  pub read_below : (f : Functions) (ys xs : List X) (i : ℕ) (x r : X) → ys ≡ xs → slice_get ys i ≡ Some x → r ≡ get_or xs i r → ((u : X) → Contains xs u → is f u) → headers r < count_of f
  read_below f ys xs i x r e s q t =
      let there = at_list ys xs i x e s in
      subst (λ u. headers u < count_of f) (sym (q ∙ get_is xs i x r there)) (by.below f x (t x (in_get xs i x there)))

  pub joined_read : (f g : Functions) (ys xs : List X) (i : ℕ) (x y z r : X) → ys ≡ xs → slice_get ys i ≡ Some x → r ≡ get_or xs i r → Keeps f g → is g y → IsSetOf g (headers y) (λ h. InSet f (headers r) h ⊎ InSet f (headers z) h) → ((h : Header) → value h y ≡ value h x) → ((h : Header) → value h y ≡ value h z) → ((u : X) → Contains xs u → is f u) → Adds (λ s us. (u : X) → Contains us u → is s u) has f g (Gives value headers f z) xs (slice_set xs i y)
  joined_read f g ys xs i x y z r e s q k m set ex ez t =
      let there = at_list ys xs i x e s in
      joined f g xs i x y z k there m (subst (λ u. IsSetOf g (headers y) (λ h. InSet f (headers u) h ⊎ InSet f (headers z) h)) (q ∙ get_is xs i x r there) set) ex ez t

  pub none_found : (f : Functions) (set : ℕ) (found : Option A) (P : Header → A → Type 0) (xs : List X) → Keeps f f → ((x : X) → Contains xs x → is f x) → ((h : Header) → IsHeader h → (q : A) → P h q ↔ (InSet f set h × (found ≡ Some q))) → found ≡ None → Adds (λ s ys. (y : X) → Contains ys y → is s y) has f f P xs xs
  none_found f set found P xs k t one e =
      nothing_added f f P xs k t (λ h v q u. let no : None ≡ Some q = sym e ∙ ((one h v q).0 u).1 in cc)

-- ---- what headers do by something that they have
pub record DoneBy {X A U B : Type 0} (has : Functions → List X → Header → A → Type 0) (which : U → A) (does : Header → U → B → Type 0) (done : Functions → List X → Header → B → Type 0) : Type 0 where
  pub from : (f : Functions) (xs : List X) (h : Header) (b : B) → done f xs h b → (u : U) × has f xs h (which u) × does h u b
  pub to : (f : Functions) (xs : List X) (h : Header) (b : B) (u : U) → has f xs h (which u) → does h u b → done f xs h b

module _ {X A U B : Type 0} {value : Header → X → A} {headers : X → ℕ} {is : Functions → X → Type 0} {has : Functions → List X → Header → A → Type 0} {which : U → A} {does : Header → U → B → Type 0} {done : Functions → List X → Header → B → Type 0} (by : HasByItems value headers is has) (acts : DoneBy has which does done) where
  pub done_none : (f : Functions) (h : Header) (b : B) → done f [] h b → ⊥
  done_none f h b d = let u = acts.from f [] h b d in has_none by f h (which u.0) u.1

  done_more : (f : Functions) (xs : List X) (x : X) (h : Header) (b : B) → done f (xs ++ x ∷ []) h b ↔ (done f xs h b ⊎ done f (x ∷ []) h b)
  done_more f xs x h b = (
    λ d. let u = acts.from f (xs ++ x ∷ []) h b d in elim ((has_more by f xs x h (which u.0)).0 u.1) [
      | inl y ↦ inl (acts.to f xs h b u.0 y u.2)
      | inr y ↦ inr (acts.to f (x ∷ []) h b u.0 ((has_one by f x h (which u.0)).1 y) u.2)
    ],
    λ d. elim d [
      | inl y ↦ let u = acts.from f xs h b y in acts.to f (xs ++ x ∷ []) h b u.0 ((has_more by f xs x h (which u.0)).1 (inl u.1)) u.2
      | inr y ↦ let u = acts.from f (x ∷ []) h b y in acts.to f (xs ++ x ∷ []) h b u.0 ((has_more by f xs x h (which u.0)).1 (inr ((has_one by f x h (which u.0)).0 u.1))) u.2
    ],
  )

  done_kept : (f g : Functions) (xs : List X) (h : Header) (b : B) → Keeps f g → ((x : X) → Contains xs x → headers x < count_of f) → done g xs h b ↔ done f xs h b
  done_kept f g xs h b k t = (
    λ d. let u = acts.from g xs h b d in acts.to f xs h b u.0 ((has_kept by f g xs h (which u.0) k t).0 u.1) u.2,
    λ d. let u = acts.from f xs h b d in acts.to g xs h b u.0 ((has_kept by f g xs h (which u.0) k t).1 u.1) u.2,
  )

  -- all items, one after the other
  pub done_turn : {Y : Type 0} {are : Functions → List Y → Type 0} {had : Functions → List Y → Header → B → Type 0} (f g k : Functions) (xs : List X) (i : ℕ) (x : X) (a b c : List Y) → Keeps f g → headers (get_or xs i x) < count_of f → i < length xs → Adds are had f g (done f (take i xs)) a b → Adds are had g k (done g (get_or xs i x ∷ [])) b c → Adds are had f k (done f (take (i + 1) xs)) a c
  done_turn f g k xs i x a b c kept lx l p q =
      let one = get_or xs i x in
      adds_turn f g k (done f) (done g (one ∷ [])) xs i x a b c l (λ h v m.
      let old = done_kept f g (one ∷ []) h m kept (λ y d. subst (λ z. headers z < count_of f) (in_one one y d) lx) in
      let more = done_more f (take i xs) one h m in (
        λ u. elim u [ inl z ↦ more.1 (inl z) | inr z ↦ more.1 (inr (old.0 z)) ],
        λ u. elim (more.0 u) [ inl z ↦ inl z | inr z ↦ inr (old.1 z) ],
      )) p q
