-- Labels of one header are equal exactly where the sets of its ends are, and two labels are compared outcome by outcome.
use Rattle.std.proofs.Common.{◌≡◌, ◌↔◌, ◌⊎◌, inl, inr, ℕ, Bool, true, false, cond, ◌==◌, List, [], ◌∷◌, Option, Some, None, refl, sym, ap, subst, ◌∙◌}
use Rattle.std.specs.Prelude.{Contains, IsNone}
use Rattle.std.specs.Cmp.{tied_itself, Equal-is, both_ways}
use Rattle.std.specs.Cmp.Lexicographic.{slice_cmp}
use Rattle.std.specs.FinSet.{IsAntisymmetric}
use Rattle.std.specs.Ordering.{is_eq}
use Rattle.std.specs.declared.cmp.Ordering.{Ordering}
use Rattle.std.specs.declared.cmp.Ordering.TheVariants.{Less, Equal, Greater}
use Rattle.std.proofs.lemmas.Cmp.{lists_total}
use Rattle.std.proofs.lemmas.Bool.Decides.{Decides-eqb}
use Rattle.hdr_bits.specs.declared.header.Header.{Header}
use Rattle.net_types.specs.declared.label.Outcome.{Outcome}
use Rattle.net_types.specs.declared.network.Place.{Place}
use Rattle.net_types.specs.World.{World}
use Rattle.net_types.specs.Order.{outcome_cmp}
use Rattle.net_types.specs.Walks.{End, dropped, expired, local, exit, IsEnd, changed, outcome_of, state_at, SameEnds, label}
use Rattle.net_types.specs.Report.{same_label, pair_unless, labels_if_other}
use Rattle.net_types.proofs.Outcomes.{total, exact, then_equal}
use Rattle.net_types.proofs.Ordered.{same_lists, has_from_Contains, Contains_from_has}
use Rattle.net_types.proofs.EndLaws.{end_from_label, label_from_end, label_sorted}
use Rattle.net_types.proofs.Kept.{KeptAt, kept_at_end}

-- ---- what a label tells of the ends

-- a field is told by whether it changed, and to what
field_told : (g a b : ℕ) → changed g a ≡ changed g b → a ≡ b
field_told g a b e =
    told (g == a) (g == b) (Decides-eqb g a).0 (Decides-eqb g b).0 e
  where
    told : (x y : Bool) → (x ≡ true → g ≡ a) → (y ≡ true → g ≡ b) → cond x None (Some a) ≡ cond y None (Some b) → a ≡ b
    told true true f h e = sym (f refl) ∙ h refl
    told true false f h e = cc
    told false true f h e = cc
    told false false f h e = cc

pub end_told : (g : Header) (d e : End) → KeptAt g d → KeptAt g e → outcome_of g d ≡ outcome_of g e → d ≡ e
end_told g dropped dropped j k e = refl
end_told g dropped expired j k e = cc
end_told g dropped (local q) j k e = cc
end_told g dropped (exit q i) j k e = cc
end_told g expired dropped j k e = cc
end_told g expired expired j k e = refl
end_told g expired (local q) j k e = cc
end_told g expired (exit q i) j k e = cc
end_told g (local p) dropped j k e = cc
end_told g (local p) expired j k e = cc
end_told g (local p) (local q) j k e = let f : p ≡ q = cc in ap local f
end_told g (local p) (exit q i) j k e = cc
end_told g (exit p h) dropped j k e = cc
end_told g (exit p h) expired j k e = cc
end_told g (exit p h) (local q) j k e = cc
end_told g (exit p h) (exit q i) j k e =
    let place : p ≡ q = cc in
    let src : h.src ≡ i.src = field_told g.src h.src i.src (cc) in
    let dst : h.dst ≡ i.dst = field_told g.dst h.dst i.dst (cc) in
    let sport : h.sport ≡ i.sport = field_told g.sport h.sport i.sport (cc) in
    let dport : h.dport ≡ i.dport = field_told g.dport h.dport i.dport (cc) in
    let proto : h.proto ≡ i.proto = j.proto ∙ sym k.proto in
    let flags : h.flags ≡ i.flags = j.flags ∙ sym k.flags in
    λ x. exit (place x) (record { dst = dst x; src = src x; proto = proto x; dport = dport x; sport = sport x; flags = flags x })

module _ (t : ℕ) (p : Place) (h : Header) where
  end_in : (old new : World) → label old t p h ≡ label new t p h → (e : End) → IsEnd old t (state_at p h) e → IsEnd new t (state_at p h) e
  end_in old new same e i =
      let c = subst (λ (xs : List Outcome). Contains xs (outcome_of h e)) same (label_from_end old t p h (outcome_of h e) (record { end = e; is = i; outcome = refl })) in
      let g = end_from_label new t p h (outcome_of h e) c in
      let told : g.end ≡ e = end_told h g.end e (kept_at_end new t (state_at p h) g.end g.is) (kept_at_end old t (state_at p h) e i) g.outcome in
      subst (IsEnd new t (state_at p h)) told g.is

  outcome_in : (old new : World) → ((e : End) → IsEnd old t (state_at p h) e → IsEnd new t (state_at p h) e) → (o : Outcome) → Contains (label old t p h) o → Contains (label new t p h) o
  outcome_in old new more o c =
      let g = end_from_label old t p h o c in
      label_from_end new t p h o (record { end = g.end; is = more g.end g.is; outcome = g.outcome })

  pub labels_tell_ends : (old new : World) → (label old t p h ≡ label new t p h) ↔ SameEnds old new t p h
  labels_tell_ends old new = (
    λ same e. (end_in old new same e, end_in new old (sym same) e),
    λ ends. same_lists outcome_cmp total exact (label old t p h) (label new t p h) (label_sorted old t p h) (label_sorted new t p h) (λ o.
        both_ways _ _
        (λ a. has_from_Contains outcome_cmp total exact o (label new t p h) (outcome_in old new (λ e. (ends e).0) o (Contains_from_has outcome_cmp total exact o (label old t p h) a)))
        (λ a. has_from_Contains outcome_cmp total exact o (label old t p h) (outcome_in new old (λ e. (ends e).1) o (Contains_from_has outcome_cmp total exact o (label new t p h) a)))),
  )

-- ---- labels are compared

-- only equal lists tie
pub lists_exact : {K : Type 0} (R : K → K → Ordering) → IsAntisymmetric R → (xs ys : List K) → slice_cmp R xs ys ≡ Equal → xs ≡ ys
lists_exact R one [] [] e = refl
lists_exact R one [] (y ∷ ys) e = absurd (let f : Less ≡ Equal = e in cc)
lists_exact R one (x ∷ xs) [] e = absurd (let f : Greater ≡ Equal = e in cc)
lists_exact R one (x ∷ xs) (y ∷ ys) e =
    let b = then_equal (R x y) (slice_cmp R xs ys) e in
    let heads : x ≡ y = one x y b.0 in
    let tails : xs ≡ ys = lists_exact R one xs ys b.1 in
    λ i. heads i ∷ tails i

pub same_from_test : (a b : List Outcome) → same_label a b ≡ true → a ≡ b
same_from_test a b e = lists_exact outcome_cmp exact a b ((Equal-is (slice_cmp outcome_cmp a b)).0 e)

pub test_from_same : (a b : List Outcome) → a ≡ b → same_label a b ≡ true
test_from_same a b e = subst (λ (c : List Outcome). same_label a c ≡ true) e (ap is_eq (tied_itself (lists_total total) a))

pub labels_are_compared : (a b : List Outcome) → (same_label a b ≡ true) ↔ (a ≡ b)
labels_are_compared a b = (same_from_test a b, test_from_same a b)

-- nothing where they are equal, else the pair
pub none_if_same : (a b : List Outcome) → a ≡ b → labels_if_other a b ≡ None
none_if_same a b e = ap (λ t. pair_unless t a b) (test_from_same a b e)

pub pair_if_other : (a b : List Outcome) → (a ≡ b → ⊥) → labels_if_other a b ≡ Some (a, b)
pair_if_other a b other = ap (λ t. pair_unless t a b) (unless (same_label a b) (λ e. other (same_from_test a b e)))
  where
    unless : (t : Bool) → (t ≡ true → ⊥) → t ≡ false
    unless true f = absurd (f refl)
    unless false f = refl

-- of any two labels, pairs of them, and results of a comparison it is decided whether they are equal
pub label_decided : (a b : List Outcome) → (a ≡ b) ⊎ (a ≡ b → ⊥)
label_decided a b = by_test (same_label a b) (same_from_test a b) (test_from_same a b)
  where
    by_test : (t : Bool) → (t ≡ true → a ≡ b) → (a ≡ b → t ≡ true) → (a ≡ b) ⊎ (a ≡ b → ⊥)
    by_test true f g = inl (f refl)
    by_test false f g = inr (λ e. let both : false ≡ true = g e in cc)

pub pair_decided : (x y : List Outcome × List Outcome) → (x ≡ y) ⊎ (x ≡ y → ⊥)
pair_decided x y = elim (label_decided x.0 y.0) [
  | inl e ↦ elim (label_decided x.1 y.1) [
    | inl g ↦ inl (λ i. (e i, g i))
    | inr n ↦ inr (λ h. n (ap (λ (z : List Outcome × List Outcome). z.1) h))
  ]
  | inr n ↦ inr (λ h. n (ap (λ (z : List Outcome × List Outcome). z.0) h))
]

pub affected_decided : (x y : Option (List Outcome × List Outcome)) → (x ≡ y) ⊎ (x ≡ y → ⊥)
affected_decided None None = inl refl
affected_decided None (Some y) = inr (λ e. cc)
affected_decided (Some x) None = inr (λ e. cc)
affected_decided (Some x) (Some y) = elim (pair_decided x y) [ inl e ↦ inl (ap Some e) | inr n ↦ inr (λ e. n (cc)) ]

pub none_is_same : (a b : List Outcome) → IsNone (labels_if_other a b) ↔ (a ≡ b)
none_is_same a b = (by_test (same_label a b) (same_from_test a b), λ e. rw (none_if_same a b e))
  where
    by_test : (t : Bool) → (t ≡ true → a ≡ b) → IsNone (pair_unless t a b) → a ≡ b
    by_test true f n = f refl
    by_test false f n = cc
