-- Numbers put into slots, and answers put to numbers.
use Rattle.std.proofs.Common.{ℕ, zero, suc, ◌≡◌, ◌≢◌, ◌<◌, ◌≤◌, ◌+◌, ◌⊎◌, inl, inr, List, [], ◌∷◌, ◌++◌, Option, Some, None, All, length, take, get_or, slice_get, slice_set, refl, sym, ap, subst, ◌∙◌, arith}
use Rattle.std.specs.Prelude.{Contains}
use Rattle.std.specs.List.{AllZip}
use Rattle.std.proofs.lemmas.Bool.Decides.{eqb_tells}
use Rattle.std.proofs.lemmas.Option.{slice_get_read, get_or_from_slice_get}
use Rattle.std.proofs.lemmas.List.{length-set, length_push}
use Rattle.std.proofs.lemmas.List.Elements.{All-nil, All-push, All-weaker, Contains-append_left, Contains-push}
use Rattle.net_types.specs.declared.question.Answer.{Answer}
use Rattle.net_types.specs.declared.question.Question.{Question}
use Rattle.net_types.specs.World.{World}
use Rattle.loop_search.proofs.Positions.{set_same, set_other}
use Rattle.ask_query.specs.declared.slots.Slot.{Slot}
use Rattle.ask_query.proofs.AnswerLemmas.{zip_more}
use Rattle.ask_query.specs.Slots.{numbers_at, numbers_of, AreBelow, IsInSlot, HaveSlots, AnswersNumber, AreRight, IsKnown}

-- ---- what stands in a list where one item is set, or one more stands last
get_left : {A : Type 0} (xs ys : List A) (i : ℕ) → i < length xs → slice_get (xs ++ ys) i ≡ slice_get xs i
get_left [] ys i l = absurd (omega (arith, l))
get_left (x ∷ xs) ys zero l = refl
get_left (x ∷ xs) ys (suc i) l = get_left xs ys i (omega (arith, l))

get_last : {A : Type 0} (xs : List A) (x : A) → slice_get (xs ++ x ∷ []) (length xs) ≡ Some x
get_last [] x = refl
get_last (y ∷ xs) x = get_last xs x

last_or_before : {A : Type 0} (xs : List A) (x y : A) (n : ℕ) → slice_get (xs ++ x ∷ []) n ≡ Some y → (slice_get xs n ≡ Some y) ⊎ (x ≡ y)
last_or_before [] x y zero e = inr cc
last_or_before [] x y (suc n) e = absurd cc
last_or_before (z ∷ xs) x y zero e = inl e
last_or_before (z ∷ xs) x y (suc n) e = last_or_before xs x y n e

-- ---- one more number in a slot that is there
module _ (slots : List Slot) (k n : ℕ) (s t : Slot) (within : k < length slots) (read : s ≡ get_or slots k s) (more : t.numbers.items ≡ s.numbers.items ++ n ∷ []) where
  was : numbers_of slots k ≡ s.numbers.items
  was = ap numbers_at (slice_get_read slots (length slots) k s refl within read)

  now : numbers_of (slice_set slots k t) k ≡ s.numbers.items ++ n ∷ []
  now = ap numbers_at (set_same slots k t within) ∙ more

  pub below_put : (count : ℕ) → AreBelow count slots → n < count → AreBelow count (slice_set slots k t)
  below_put count a l j = elim (eqb_tells k j) [
    | inl e ↦ subst (λ i. All (λ m. m < count) (numbers_of (slice_set slots k t) i)) e.1 (subst (All (λ m. m < count)) (sym now) (All-push (λ m. m < count) s.numbers.items n (subst (All (λ m. m < count)) was (a k)) l))
    | inr o ↦ subst (λ x. All (λ m. m < count) (numbers_at x)) (sym (set_other slots k j t o.1)) (a j)
  ]

  same_length : length (slice_set slots k t) ≡ length slots
  same_length = length-set slots k t

  pub kept_put : (m : ℕ) → IsInSlot slots m → IsInSlot (slice_set slots k t) m
  kept_put m i =
      record {
        slot = i.slot;
        within = subst (λ c. i.slot < c) (sym same_length) i.within;
        among = elim (eqb_tells k i.slot) [
          | inl e ↦ subst (λ j. Contains (numbers_of (slice_set slots k t) j) m) e.1 (subst (λ xs. Contains xs m) (sym now) (Contains-append_left s.numbers.items (n ∷ []) m (subst (λ xs. Contains xs m) was (subst (λ j. Contains (numbers_of slots j) m) (sym e.1) i.among))))
          | inr o ↦ subst (λ x. Contains (numbers_at x) m) (sym (set_other slots k i.slot t o.1)) i.among
        ];
      }

  pub added_put : IsInSlot (slice_set slots k t) n
  added_put = record { slot = k; within = subst (λ c. k < c) (sym same_length) within; among = subst (λ xs. Contains xs n) (sym now) (Contains-push s.numbers.items n) }

-- ---- one more slot, with one number
module _ (slots : List Slot) (n : ℕ) (t : Slot) (alone : t.numbers.items ≡ n ∷ []) where
  pub below_more : (count : ℕ) → AreBelow count slots → n < count → AreBelow count (slots ++ t ∷ [])
  below_more count a l j = by (slice_get (slots ++ t ∷ []) j) refl
    where
      by : (o : Option Slot) → slice_get (slots ++ t ∷ []) j ≡ o → All (λ m. m < count) (numbers_of (slots ++ t ∷ []) j)
      by None e = subst (λ x. All (λ m. m < count) (numbers_at x)) (sym e) (All-nil (λ m. m < count))
      by (Some x) e = subst (λ y. All (λ m. m < count) (numbers_at y)) (sym e) (elim (last_or_before slots t x j e) [
        | inl q ↦ subst (λ y. All (λ m. m < count) (numbers_at y)) q (a j)
        | inr q ↦ subst (λ (y : Slot). All (λ m. m < count) y.numbers.items) q (subst (All (λ m. m < count)) (sym alone) (All-push (λ m. m < count) [] n (All-nil (λ m. m < count)) l))
      ])

  pub kept_more : (m : ℕ) → IsInSlot slots m → IsInSlot (slots ++ t ∷ []) m
  kept_more m i = record { slot = i.slot; within = (let long = length_push slots t in let w = i.within in omega (arith, long, w)); among = subst (λ x. Contains (numbers_at x) m) (sym (get_left slots (t ∷ []) i.slot i.within)) i.among }

  pub added_more : IsInSlot (slots ++ t ∷ []) n
  added_more = record { slot = length slots; within = (let long = length_push slots t in omega (arith, long)); among = subst (λ x. Contains (numbers_at x) n) (sym (get_last slots t)) (subst (λ xs. Contains xs n) (sym alone) (Contains-push [] n)) }

-- ---- more questions
pub no_slots : (count : ℕ) → AreBelow count []
no_slots count k = All-nil (λ m. m < count)

pub below_later : (c d : ℕ) (slots : List Slot) → c ≤ d → AreBelow c slots → AreBelow d slots
below_later c d slots l a k = All-weaker (λ m. m < c) (λ m. m < d) (λ m w. omega (arith, l, w)) (numbers_of slots k) (a k)

pub have_more : (n : ℕ) (old new : List Slot) → HaveSlots n old → ((m : ℕ) → IsInSlot old m → IsInSlot new m) → IsInSlot new n → HaveSlots (n + 1) new
have_more n old new h kept added m l = elim (eqb_tells m n) [
  | inl e ↦ subst (IsInSlot new) (sym e.1) added
  | inr o ↦ kept m (h m (let apart = o.1 in omega (arith, l, apart)))
]

-- ---- an answer is put to a number
module _ (known : List (Option Answer)) (n : ℕ) (a : Answer) (within : n < length known) where
  pub known_put : IsKnown (slice_set known n (Some a)) n
  known_put = record { answer = a; there = set_same known n (Some a) within }

  pub known_kept : (m : ℕ) → IsKnown known m → IsKnown (slice_set known n (Some a)) m
  known_kept m i = elim (eqb_tells n m) [
    | inl e ↦ subst (IsKnown (slice_set known n (Some a))) e.1 known_put
    | inr o ↦ record { answer = i.answer; there = set_other known n m (Some a) o.1 ∙ i.there }
  ]

  pub right_put : (w : World) (t : ℕ) (questions : List Question) → AnswersNumber w t questions n a → AreRight w t questions known → AreRight w t questions (slice_set known n (Some a))
  right_put w t questions r all m b e = elim (eqb_tells n m) [
    | inl s ↦
        let there : slice_get (slice_set known n (Some a)) m ≡ Some (Some a) = subst (λ j. slice_get (slice_set known n (Some a)) j ≡ Some (Some a)) s.1 (set_same known n (Some a) within) in
        let both : Some (Some a) ≡ Some (Some b) = sym there ∙ e in
        let same : a ≡ b = cc in
        subst (λ j. AnswersNumber w t questions j b) s.1 (subst (AnswersNumber w t questions n) same r)
    | inr o ↦ all m b (sym (set_other known n m (Some a) o.1) ∙ e)
  ]

-- the answer at a position is to the question of the number there
pub zip_at : {X Y : Type 0} (R : X → Y → Type 0) (xs : List X) (ys : List Y) (i : ℕ) (x : X) (y : Y) → AllZip R xs ys → slice_get xs i ≡ Some x → slice_get ys i ≡ Some y → R x y
zip_at R [] ys i x y a e f = absurd cc
zip_at R (u ∷ xs) [] i x y a e f = absurd cc
zip_at R (u ∷ xs) (v ∷ ys) zero x y a e f = let p : u ≡ x = cc in let q : v ≡ y = cc in subst (R x) q (subst (λ z. R z v) p a.0)
zip_at R (u ∷ xs) (v ∷ ys) (suc i) x y a e f = zip_at R xs ys i x y a.1 e f

some_there : {A : Type 0} (xs : List A) (i : ℕ) → i < length xs → (x : A) × (slice_get xs i ≡ Some x)
some_there [] i l = absurd (omega (arith, l))
some_there (x ∷ xs) zero l = (x, refl)
some_there (x ∷ xs) (suc i) l = some_there xs i (omega (arith, l))

-- one more, by what stands at the position
pub zip_next : {X Y : Type 0} (R : X → Y → Type 0) (xs : List X) (ys : List Y) (i : ℕ) (y : Y) → i < length xs → AllZip R (take i xs) ys → ((x : X) → slice_get xs i ≡ Some x → R x y) → AllZip R (take (i + 1) xs) (ys ++ y ∷ [])
zip_next R xs ys i y l a r = let s = some_there xs i l in zip_more R xs ys i s.0 y l (sym (get_or_from_slice_get xs i s.0 s.0 s.1)) a (r s.0 s.1)

-- the same by other names
pub right_as : (w v : World) (t s : ℕ) (qs rs : List Question) (known : List (Option Answer)) → w ≡ v → t ≡ s → qs ≡ rs → AreRight w t qs known → AreRight v s rs known
right_as w v t s qs rs known a b c r = subst (λ x. AreRight x s rs known) a (subst (λ x. AreRight w x rs known) b (subst (λ x. AreRight w t x known) c r))

pub as_long : {X Y : Type 0} (R : X → Y → Type 0) (xs : List X) (ys : List Y) → AllZip R xs ys → length xs ≡ length ys
as_long R [] [] a = refl
as_long R [] (y ∷ ys) a = absurd a
as_long R (x ∷ xs) [] a = absurd a
as_long R (x ∷ xs) (y ∷ ys) a = ap suc (as_long R xs ys a.1)
