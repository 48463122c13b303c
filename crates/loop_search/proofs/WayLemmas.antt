-- Sets that grow way by way.
use Rattle.std.proofs.Common.{ℕ, zero, suc, ◌≡◌, ◌<◌, ◌+◌, ◌⊎◌, ◌↔◌, inl, inr, List, [], ◌∷◌, ◌++◌, Some, None, take, length, get_or, slice_get, Result, Ok, Err, IfOk, refl, sym, ap, subst, ◌∙◌, arith}
use Rattle.std.specs.Prelude.{Contains, IsSome}
use Rattle.std.proofs.lemmas.List.{take_more}
use Rattle.std.proofs.lemmas.List.Elements.{Contains-append_cases, Contains-append_left, Contains-append_right}
use Rattle.hdr_bits.specs.declared.header.Header.{Header}
use Rattle.hdr_bits.specs.HeaderBits.{number, IsHeader}
use Rattle.cube_diagram.specs.Functions.{Functions, Keeps, count_of, value_at}
use Rattle.net_types.proofs.Members.{here, in_none, in_one}
use Rattle.set_walk.specs.declared.step.Step.{Step}
use Rattle.set_walk.specs.declared.step.Way.{Way}
use Rattle.set_walk.specs.Sets.{InSet, IsSetOf}
use Rattle.set_walk.proofs.SetLemmas.{kept_set}
use Rattle.loop_search.specs.Looping.{ByWay}

pub empty_set : (f : Functions) (set : ℕ) → ((h : ℕ) → value_at f set h ≡ None) → (h : Header) → InSet f set h → ⊥
empty_set f set e h i = no_value (subst (λ x. IsSome x) (e (number h)) i)
  where
    no_value : IsSome {T = ℕ} None → ⊥
    no_value s = cc

-- what is so by two things that are said of a value
pub ok_both : {T E : Type 0} (r : Result T E) (P Q R : T → Type 0) → ((x : T) → P x → Q x → R x) → IfOk r P → IfOk r Q → IfOk r R
ok_both (Ok x) P Q R f p q = f x p q
ok_both (Err e) P Q R f p q = tt

module _ (f : Functions) (base : Header → Type 0) (Q : Step → Header → Type 0) where
  pub by_none : (h : Header) → ByWay f [] Q h → ⊥
  by_none h b = in_none b.way b.among

  -- before the first way
  pub ways_none : (g : Functions) (set : ℕ) → IsSetOf g set base → IsSetOf g set (λ h. base h ⊎ ByWay f [] Q h)
  ways_none g set s h v = (λ i. inl ((s h v).0 i), λ x. elim x [ inl b ↦ (s h v).1 b | inr y ↦ absurd (by_none h y) ])

  -- one more way
  pub ways_more : (g k : Functions) (ways : List Way) (i : ℕ) (x : Way) (R : Step → Header → Type 0) (old new : ℕ) → Keeps f g → x.headers < count_of f → i < length ways → x ≡ get_or ways i x
      → ((h : Header) → IsHeader h → R x.step h ↔ Q x.step h)
      → IsSetOf g old (λ h. base h ⊎ ByWay f (take i ways) Q h)
      → IsSetOf k new (λ h. InSet g old h ⊎ (InSet g x.headers h × R x.step h))
      → IsSetOf k new (λ h. base h ⊎ ByWay f (take (i + 1) ways) Q h)
  ways_more g k ways i x R old new kept l b e q s t h v =
      let all : take (i + 1) ways ≡ take i ways ++ x ∷ [] = take_more ways i x b ∙ ap (λ y. take i ways ++ y ∷ []) (sym e) in (
        λ m. elim ((t h v).0 m) [
          | inl a ↦ elim ((s h v).0 a) [
            | inl c ↦ inl c
            | inr y ↦ inr (record { way = y.way; among = rw all (Contains-append_left (take i ways) (x ∷ []) y.way y.among); inside = y.inside; holds = y.holds })
          ]
          | inr a ↦ inr (record { way = x; among = rw all (Contains-append_right (take i ways) (x ∷ []) x (here x [])); inside = (kept_set f g x.headers h kept l).0 a.0; holds = (q h v).0 a.1 })
        ],
        λ m. (t h v).1 (elim m [
          | inl c ↦ inl ((s h v).1 (inl c))
          | inr y ↦ elim (Contains-append_cases (take i ways) (x ∷ []) y.way (subst (λ zs. Contains zs y.way) all y.among)) [
            | inl c ↦ inl ((s h v).1 (inr (record { way = y.way; among = c; inside = y.inside; holds = y.holds })))
            | inr c ↦
                let same = in_one x y.way c in
                inr ((kept_set f g x.headers h kept l).1 (subst (λ z. InSet f z.headers h) (sym same) y.inside), (q h v).1 (subst (λ z. Q z.step h) (sym same) y.holds))
          ]
        ]),
      )

-- with nothing to begin with
pub ways_alone : (f g : Functions) (none set : ℕ) (ways : List Way) (Q : Step → Header → Type 0) → ((h : ℕ) → value_at f none h ≡ None) → IsSetOf g set (λ h. InSet f none h ⊎ ByWay f ways Q h) → IsSetOf g set (ByWay f ways Q)
ways_alone f g none set ways Q e s h v = (λ i. elim ((s h v).0 i) [ inl a ↦ absurd (empty_set f none e h a) | inr b ↦ b ], λ b. (s h v).1 (inr b))

pub same_set : (f : Functions) (set : ℕ) → IsSetOf f set (InSet f set)
same_set f set h v = (λ i. i, λ i. i)

-- ---- what stands at a position
pub at_position : {A : Type 0} (xs : List A) (i : ℕ) (x : A) → i < length xs → x ≡ get_or xs i x → slice_get xs i ≡ Some x
at_position [] i x l e = absurd (omega (arith, l))
at_position (y ∷ xs) zero x l e = ap Some (sym e)
at_position (y ∷ xs) (suc i) x l e = at_position xs i x (omega (arith, l)) e

pub got : {A : Type 0} (xs : List A) (y : A) (i : ℕ) (x : A) → slice_get (xs ++ y ∷ []) i ≡ Some x → (slice_get xs i ≡ Some x) ⊎ ((i ≡ length xs) × (y ≡ x))
got [] y zero x e = inr (refl, let same : y ≡ x = cc in same)
got [] y (suc i) x e = absurd cc
got (z ∷ xs) y zero x e = inl e
got (z ∷ xs) y (suc i) x e = elim (got xs y i x e) [ inl a ↦ inl a | inr b ↦ inr (ap suc b.0, b.1) ]

pub length_more : {A : Type 0} (xs : List A) (y : A) (n : ℕ) → length xs ≡ n → length (xs ++ y ∷ []) ≡ n + 1
length_more [] y n e = let f : 0 ≡ n = e in omega (arith, f)
length_more (x ∷ xs) y n e = let i = length_more xs y (length xs) refl in omega (arith, i, e)
