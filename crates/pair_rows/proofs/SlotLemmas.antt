-- Leaves by slots.
use Rattle.std.proofs.Common.{◌≡◌, ◌≢◌, ◌⊎◌, inl, inr, ℕ, zero, suc, ◌^◌, ◌<◌, ◌≤◌, Bool, true, false, cond, ◌==◌, List, [], ◌∷◌, ◌++◌, length, get_or, Some, Any, map, slice_get, slice_set, refl, sym, ap, subst, ◌∙◌, arith}
use Rattle.std.specs.Prelude.{⊤, slice_index_or}
use Rattle.std.proofs.lemmas.Bool.{eq-eqb}
use Rattle.std.proofs.lemmas.Bool.Decides.{eqb_tells}
use Rattle.std.proofs.lemmas.List.{append-nil}
use Rattle.std.proofs.lemmas.List.Elements.{filter-append, Contains-push_cases}
use Rattle.std.proofs.lemmas.Option.{slice_get_read, slice_get_within}
use Rattle.hdr_bits.specs.CubeBits.{IsIn}
use Rattle.task_board.specs.declared.leaf.Leaf.{Leaf}
use Rattle.task_board.specs.Regions.{Holds}
use Rattle.task_board.specs.Stands.{Answers}
use Rattle.cube_alg.specs.declared.Region.{Region}
use Rattle.pair_rows.specs.Slots.{AreSorted, HoldsHeader, leaves_of}
use Rattle.pair_rows.specs.Work.{holds_all}
use Rattle.pair_rows.specs.declared.leaves.SlotLeaves.{SlotLeaves}
use Rattle.pair_rows.proofs.ListLemmas.{any_later}

-- ---- one more
-- a leaf of this slot
leaves_more : (before : List (Leaf ⊤)) (l : Leaf ⊤) (slot : ℕ) → l.region.slot ≡ slot → leaves_of (before ++ l ∷ []) slot ≡ leaves_of before slot ++ l ∷ []
leaves_more before l slot same =
    filter-append (λ (m : Leaf ⊤). m.region.slot == slot) before (l ∷ []) ∙ ap (λ b. leaves_of before slot ++ cond b (l ∷ []) []) (eq-eqb l.region.slot slot same)

-- a leaf of another slot
leaves_same : (before : List (Leaf ⊤)) (l : Leaf ⊤) (slot : ℕ) → l.region.slot == slot ≡ false → leaves_of (before ++ l ∷ []) slot ≡ leaves_of before slot
leaves_same before l slot other =
    filter-append (λ (m : Leaf ⊤). m.region.slot == slot) before (l ∷ []) ∙ ap (λ b. leaves_of before slot ++ cond b (l ∷ []) []) other ∙ append-nil (leaves_of before slot)

get_set_same : {A : Type 0} (xs : List A) (i : ℕ) (v : A) → i < length xs → slice_get (slice_set xs i v) i ≡ Some v
get_set_same [] i v l = absurd (omega arith)
get_set_same (x ∷ xs) zero v l = refl
get_set_same (x ∷ xs) (suc i) v l = get_set_same xs i v (omega arith)

get_set_other : {A : Type 0} (xs : List A) (i j : ℕ) (v : A) → i ≢ j → slice_get (slice_set xs i v) j ≡ slice_get xs j
get_set_other [] i j v n = refl
get_set_other (x ∷ xs) zero zero v n = absurd (n refl)
get_set_other (x ∷ xs) zero (suc j) v n = refl
get_set_other (x ∷ xs) (suc i) zero v n = refl
get_set_other (x ∷ xs) (suc i) (suc j) v n = get_set_other xs i j v (λ e. n (ap suc e))

some_same : {A : Type 0} (x y : A) → Some x ≡ Some y → x ≡ y
some_same x y e = cc

module _ {K : Type 0} where
  -- a leaf of one of the slots
  pub sorted_more : (before : List (Leaf ⊤)) (l : Leaf ⊤) (all : List (SlotLeaves K)) (s v : SlotLeaves K) → l.region.slot < length all → s ≡ get_or all l.region.slot s → v.leaves.items ≡ s.leaves.items ++ l ∷ [] → AreSorted before all → AreSorted (before ++ l ∷ []) (slice_set all l.region.slot v)
  sorted_more before l all s v within read more a slot t there =
      elim (eqb_tells l.region.slot slot) [
        | inl e ↦ let same : v ≡ t = some_same v t (sym (get_set_same all l.region.slot v within) ∙ ap (slice_get (slice_set all l.region.slot v)) e.1 ∙ there) in
            let was = a l.region.slot s (slice_get_read all (length all) l.region.slot s refl within read) in
            ap (λ (x : SlotLeaves K). x.leaves.items) (sym same) ∙ more ∙ ap (λ (ls : List (Leaf ⊤)). ls ++ l ∷ []) (was ∙ ap (leaves_of before) e.1) ∙ sym (leaves_more before l slot e.1)
        | inr n ↦ a slot t (sym (get_set_other all l.region.slot slot v n.1) ∙ there) ∙ sym (leaves_same before l slot n.0)
      ]

  -- a leaf of another slot than these
  pub sorted_same : (before : List (Leaf ⊤)) (l : Leaf ⊤) (all : List (SlotLeaves K)) → length all ≤ l.region.slot → AreSorted before all → AreSorted (before ++ l ∷ []) all
  sorted_same before l all beyond a slot t there =
      elim (eqb_tells l.region.slot slot) [
        | inl e ↦ let within = slice_get_within all slot t there in let same = e.1 in absurd (omega (arith, within, beyond, same))
        | inr n ↦ a slot t there ∙ sym (leaves_same before l slot n.0)
      ]

-- ---- headers
-- a leaf of the slot that holds the header is among the slot's leaves
pub held_by_slot : (leaves : List (Leaf ⊤)) (slot h : ℕ) → HoldsHeader slot leaves h → HoldsHeader slot (leaves_of leaves slot) h
held_by_slot [] slot h a = a
held_by_slot (l ∷ ls) slot h (zero, x, within, same, holds) =
    let own : Holds slot h l.region = subst (λ (z : Leaf ⊤). Holds slot h z.region) (sym same) holds in
    let tested : (l.region.slot == slot) ≡ true = eq-eqb l.region.slot slot own.same_slot in
    let first : HoldsHeader slot (l ∷ leaves_of ls slot) h = (0, l, omega arith, refl, own) in
    subst (λ (b : Bool). HoldsHeader slot (cond b (l ∷ leaves_of ls slot) (leaves_of ls slot)) h) (sym tested) first
held_by_slot (l ∷ ls) slot h (suc k, x, within, same, holds) =
    any_later (λ (m : Leaf ⊤). Holds slot h m.region) (l.region.slot == slot) l (leaves_of ls slot) (held_by_slot ls slot h (k, x, omega (arith, within), same, holds))

-- in one more leaf, or in one of the others
pub held_by_last : (leaves : List (Leaf ⊤)) (l : Leaf ⊤) (slot h : ℕ) → HoldsHeader slot (leaves ++ l ∷ []) h → HoldsHeader slot leaves h ⊎ IsIn l.region.cube h
held_by_last leaves l slot h a =
    elim (Contains-push_cases leaves l a.1 (a.0, a.2, a.3)) [
      | inl c ↦ inl (c.0, a.1, c.1, c.2, a.4)
      | inr e ↦ inr (subst (λ (z : Leaf ⊤). IsIn z.region.cube h) (sym e) a.4.member)
    ]

pub held_by_none : (slot h : ℕ) → HoldsHeader slot [] h → ⊥
held_by_none slot h a = let within = a.2 in absurd (omega (arith, within))

-- the pool leaves no header of a root out
pub held_by_answer : (roots : List Region) (leaves : List (Leaf ⊤)) → Answers holds_all roots leaves → (slot h : ℕ) → h < 2 ^ 112 → Any (Holds slot h) roots → HoldsHeader slot leaves h
held_by_answer roots leaves a slot h below there =
    elim (a.rest slot h below there) [ inl held ↦ held | inr none ↦ absurd cc ]

-- ---- places
-- what stands at the place is read there
pub index_there : {A : Type 0} (xs : List A) (n : ℕ) (x d : A) → slice_get xs n ≡ Some x → slice_index_or xs n d ≡ x
index_there [] n x d e = absurd cc
index_there (y ∷ xs) zero x d e = cc
index_there (y ∷ xs) (suc n) x d e = index_there xs n x d e

-- what stands at a place of another list with the same images
pub there_too : {A B C : Type 0} (f : A → C) (g : B → C) (xs : List A) (ys : List B) → map f xs ≡ map g ys → (n : ℕ) (x : A) → slice_get xs n ≡ Some x → (y : B) × (slice_get ys n ≡ Some y) × (g y ≡ f x)
there_too f g [] ys m n x e = absurd cc
there_too f g (a ∷ xs) [] m n x e = absurd cc
there_too f g (a ∷ xs) (b ∷ ys) m zero x e = (b, refl, (let same : a ≡ x = cc in let images : f a ≡ g b = cc in sym images ∙ ap f same))
there_too f g (a ∷ xs) (b ∷ ys) m (suc n) x e = let rest : map f xs ≡ map g ys = cc in there_too f g xs ys rest n x e

-- a place of a list as long has something
pub there_as_long : {A : Type 0} (xs : List A) (n : ℕ) → n < length xs → (x : A) × (slice_get xs n ≡ Some x)
there_as_long [] n l = absurd (omega arith)
there_as_long (x ∷ xs) zero l = (x, refl)
there_as_long (x ∷ xs) (suc n) l = there_as_long xs n (omega (arith, l))
