-- Parts as the labels and the devices of their headers.
use Rattle.std.proofs.Common.{ℕ, ◌≡◌, ◌<◌, ◌≤◌, ◌⊎◌, ◌↔◌, inl, inr, Bool, true, cond, is_some, List, [], ◌∷◌, Option, Some, None, IsSome, length, slice_get, ◌+◌, map, refl, ap, sym, ◌∙◌, subst, arith}
use Rattle.std.specs.Prelude.{Contains, count_by, filter_map}
use Rattle.std.proofs.lemmas.List.Elements.{Contains-append_cases, Contains-append_left, Contains-append_right}
use Rattle.std.proofs.lemmas.List.Sums.{sum_by-append}
use Rattle.hdr_bits.specs.declared.header.Header.{Header}
use Rattle.hdr_bits.specs.HeaderBits.{number, IsHeader}
use Rattle.cube_diagram.specs.Functions.{Functions, Keeps, count_of, value_at}
use Rattle.net_types.specs.declared.label.Outcome.{Outcome}
use Rattle.net_types.specs.declared.network.Place.{Place}
use Rattle.net_types.specs.World.{World}
use Rattle.net_types.specs.Order.{in_order, outcome_cmp}
use Rattle.net_types.specs.Walks.{label}
use Rattle.net_types.specs.Visits as visiting
use Rattle.net_types.proofs.Members.{here, there, in_cons, in_none, in_map, to_map, in_filter_map, to_filter_map}
use Rattle.net_types.proofs.Outcomes.{total, exact}
use Rattle.net_types.proofs.Ordered.{is_in_order, in_order_has, has_from_Contains, Contains_from_has}
use Rattle.net_types.proofs.EndLaws.{label_sorted, label_some}
use Rattle.set_walk.specs.declared.ends.OutcomeSet.{OutcomeSet}
use Rattle.set_walk.specs.declared.visits.DeviceVisitors.{DeviceVisitors}
use Rattle.set_walk.specs.Sets.{InSet}
use Rattle.set_walk.specs.Outcomes.{AreLabels, AreEndsBelow, AreOnce, HasOutcome}
use Rattle.set_walk.specs.Visits.{AreVisitors, AreVisitorsBelow, HasVisitor, StandApart}
use Rattle.set_walk.proofs.SetLemmas.{kept_set, kept_below}
use Rattle.incr_review.specs.declared.facts.FactSet.{FactSet}
use Rattle.incr_review.specs.declared.facts.WalkFact.{WalkFact}
use Rattle.incr_review.specs.declared.facts.WalkFact.TheVariants.{Ends, Visits}
use Rattle.incr_review.specs.declared.parts.Part.{Part}
use Rattle.incr_review.specs.declared.walked.WalkedPart.{WalkedPart}
use Rattle.incr_review.specs.Facts.{HasFact, AreFactsBelow, StandOnce, facts_of, fact_of_end, fact_of_visitor}
use Rattle.incr_review.specs.Parts.{ones, IsFilled, has_header, in_part, AreParts}
use Rattle.incr_review.specs.Walked.{WalksSo, AreWalked, in_walked, outcome_in, device_in, outcomes_of, HaveOutcomes, IsLabelled, AreLabelled}
use Rattle.incr_review.proofs.ListLemmas.{get_cases, get_map, zip_at}
use Rattle.incr_review.proofs.FactLemmas.{fact_kept}
use Rattle.incr_review.proofs.PartLemmas.{empty_set}

-- ---- how many have a header
pub positive : {X : Type 0} (p : X → Bool) (xs : List X) (x : X) → Contains xs x → p x ≡ true → 1 ≤ count_by p xs
positive p [] x c t = absurd (in_none x c)
positive p (y ∷ ys) x c t =
    let e = sum_by-append (λ z. cond (p z) 1 0) (y ∷ []) ys in
    elim (in_cons y x ys c) [
      | inl d ↦ (let one : p y ≡ true = ap p d ∙ t in let n : count_by p (y ∷ []) ≡ 1 = ap (λ b. 0 + cond b 1 0) one in omega (arith, e, n))
      | inr d ↦ (let r = positive p ys x d t in omega (arith, e, r))
    ]

pub none_there : (o : Option ℕ) → ones o ≡ 0 → o ≡ None
none_there None e = refl
none_there (Some v) e = absurd (omega (arith, e))

pub some_there : (o : Option ℕ) → 1 ≤ ones o → IsSome o
some_there None l = absurd (omega (arith, l))
some_there (Some v) l = refl

-- ---- facts of walks
pub walk_facts_below : (f : Functions) (ends : List OutcomeSet) (visitors : List DeviceVisitors) → AreEndsBelow f ends → AreVisitorsBelow f visitors → AreFactsBelow f (facts_of ends visitors)
walk_facts_below f ends visitors b c x m = elim (Contains-append_cases (map fact_of_end ends) (map fact_of_visitor visitors) x m) [
  | inl d ↦ (let e = in_map fact_of_end ends x d in subst (λ (y : FactSet). y.headers < count_of f) e.2 (b e.0 e.1))
  | inr d ↦ (let v = in_map fact_of_visitor visitors x d in subst (λ (y : FactSet). y.headers < count_of f) v.2 (c v.0 v.1))
]

ends_same : (a b : Outcome) → Ends a ≡ Ends b → a ≡ b
ends_same a b e = cc

visits_same : (a b : ℕ) → Visits a ≡ Visits b → a ≡ b
visits_same a b e = cc

-- each fact of a walk stands once
same_fact : (ends : List OutcomeSet) (visitors : List DeviceVisitors) → AreOnce ends → StandApart visitors → (i j : ℕ) (x y : FactSet) → x.fact ≡ y.fact → (slice_get (map fact_of_end ends) i ≡ Some x) ⊎ ((k : ℕ) × (i ≡ length (map fact_of_end ends) + k) × (slice_get (map fact_of_visitor visitors) k ≡ Some x)) → (slice_get (map fact_of_end ends) j ≡ Some y) ⊎ ((k : ℕ) × (j ≡ length (map fact_of_end ends) + k) × (slice_get (map fact_of_visitor visitors) k ≡ Some y)) → i ≡ j
same_fact ends visitors a b i j x y e (inl p) (inl q) =
    let u = get_map fact_of_end ends i x p in
    let v = get_map fact_of_end ends j y q in
    a.once i j u.0 v.0 u.1 v.1 (ends_same u.0.outcome v.0.outcome (ap (λ (z : FactSet). z.fact) u.2 ∙ e ∙ ap (λ (z : FactSet). z.fact) (sym v.2)))
same_fact ends visitors a b i j x y e (inl p) (inr q) =
    let u = get_map fact_of_end ends i x p in
    let v = get_map fact_of_visitor visitors q.0 y q.2 in
    let no : Ends u.0.outcome ≡ Visits v.0.device = ap (λ (z : FactSet). z.fact) u.2 ∙ e ∙ ap (λ (z : FactSet). z.fact) (sym v.2) in
    absurd cc
same_fact ends visitors a b i j x y e (inr p) (inl q) =
    let u = get_map fact_of_visitor visitors p.0 x p.2 in
    let v = get_map fact_of_end ends j y q in
    let no : Visits u.0.device ≡ Ends v.0.outcome = ap (λ (z : FactSet). z.fact) u.2 ∙ e ∙ ap (λ (z : FactSet). z.fact) (sym v.2) in
    absurd cc
same_fact ends visitors a b i j x y e (inr p) (inr q) =
    let u = get_map fact_of_visitor visitors p.0 x p.2 in
    let v = get_map fact_of_visitor visitors q.0 y q.2 in
    let s = b.once p.0 q.0 u.0 v.0 u.1 v.1 (visits_same u.0.device v.0.device (ap (λ (z : FactSet). z.fact) u.2 ∙ e ∙ ap (λ (z : FactSet). z.fact) (sym v.2))) in
    let m = p.1 in
    let n = q.1 in
    omega (arith, s, m, n)

pub walk_facts_once : (ends : List OutcomeSet) (visitors : List DeviceVisitors) → AreOnce ends → StandApart visitors → StandOnce (facts_of ends visitors)
walk_facts_once ends visitors a b = record { once = λ i j x y p q e. same_fact ends visitors a b i j x y e (get_cases (map fact_of_end ends) (map fact_of_visitor visitors) i x p) (get_cases (map fact_of_end ends) (map fact_of_visitor visitors) j y q) }

fact_ends : (f : Functions) (ends : List OutcomeSet) (visitors : List DeviceVisitors) (h : Header) (o : Outcome) → HasFact f (facts_of ends visitors) h (Ends o) ↔ HasOutcome f ends h o
fact_ends f ends visitors h o = (
  λ x. elim (Contains-append_cases (map fact_of_end ends) (map fact_of_visitor visitors) x.of x.among) [
    | inl d ↦ (
        let e = in_map fact_of_end ends x.of d in
        record { end = e.0; among = e.1; inside = subst (λ (y : FactSet). InSet f y.headers h) (sym e.2) x.inside; is = ends_same e.0.outcome o (ap (λ (y : FactSet). y.fact) e.2 ∙ x.is) })
    | inr d ↦ (
        let v = in_map fact_of_visitor visitors x.of d in
        let no : Visits v.0.device ≡ Ends o = ap (λ (y : FactSet). y.fact) v.2 ∙ x.is in
        absurd cc)
  ],
  λ x. record {
    of = fact_of_end x.end;
    among = Contains-append_left (map fact_of_end ends) (map fact_of_visitor visitors) (fact_of_end x.end) (to_map fact_of_end ends x.end x.among);
    inside = x.inside;
    is = ap Ends x.is;
  },
)

fact_visits : (f : Functions) (ends : List OutcomeSet) (visitors : List DeviceVisitors) (h : Header) (n : ℕ) → HasFact f (facts_of ends visitors) h (Visits n) ↔ HasVisitor f visitors h n
fact_visits f ends visitors h n = (
  λ x. elim (Contains-append_cases (map fact_of_end ends) (map fact_of_visitor visitors) x.of x.among) [
    | inl d ↦ (
        let e = in_map fact_of_end ends x.of d in
        let no : Ends e.0.outcome ≡ Visits n = ap (λ (y : FactSet). y.fact) e.2 ∙ x.is in
        absurd cc)
    | inr d ↦ (
        let v = in_map fact_of_visitor visitors x.of d in
        record { of = v.0; among = v.1; inside = subst (λ (y : FactSet). InSet f y.headers h) (sym v.2) x.inside; is = visits_same v.0.device n (ap (λ (y : FactSet). y.fact) v.2 ∙ x.is) })
  ],
  λ x. record {
    of = fact_of_visitor x.of;
    among = Contains-append_right (map fact_of_end ends) (map fact_of_visitor visitors) (fact_of_visitor x.of) (to_map fact_of_visitor visitors x.of x.among);
    inside = x.inside;
    is = ap Visits x.is;
  },
)

in_outcomes : (facts : List WalkFact) (o : Outcome) → Contains (filter_map outcome_in facts) o ↔ Contains facts (Ends o)
in_outcomes facts o = (
  λ c. (let i = in_filter_map outcome_in facts o c in subst (Contains facts) (is_ends i.0 i.2) i.1),
  λ c. to_filter_map outcome_in facts o (Ends o) c refl,
)
  where
    is_ends : (x : WalkFact) → outcome_in x ≡ Some o → x ≡ Ends o
    is_ends (Ends u) e = ap Ends (let s : Some u ≡ Some o = e in let q : u ≡ o = cc in q)
    is_ends (Visits d) e = (let s : None ≡ Some o = e in absurd cc)

in_devices : (facts : List WalkFact) (d : ℕ) → Contains (filter_map device_in facts) d ↔ Contains facts (Visits d)
in_devices facts d = (
  λ c. (let i = in_filter_map device_in facts d c in subst (Contains facts) (is_visits i.0 i.2) i.1),
  λ c. to_filter_map device_in facts d (Visits d) c refl,
)
  where
    is_visits : (x : WalkFact) → device_in x ≡ Some d → x ≡ Visits d
    is_visits (Visits u) e = ap Visits (let s : Some u ≡ Some d = e in let q : u ≡ d = cc in q)
    is_visits (Ends o) e = (let s : None ≡ Some d = e in absurd cc)

-- ---- parts that say the same
in_order_has_it : (xs : List Outcome) (o : Outcome) → Contains (in_order outcome_cmp xs) o ↔ Contains xs o
in_order_has_it xs o = (
  λ c. Contains_from_has outcome_cmp total exact o xs (sym (in_order_has outcome_cmp total exact o xs) ∙ has_from_Contains outcome_cmp total exact o (in_order outcome_cmp xs) c),
  λ c. Contains_from_has outcome_cmp total exact o (in_order outcome_cmp xs) (in_order_has outcome_cmp total exact o xs ∙ has_from_Contains outcome_cmp total exact o xs c),
)

-- a fact of the one part is one of the other
alike : (q r : Part) (x y : WalkedPart) → IsLabelled q x → IsLabelled r y → x.label ≡ y.label → x.devices ≡ y.devices → (f : WalkFact) → Contains q.facts.items f → Contains r.facts.items f
alike q r x y a b l d (Ends o) c =
    let same : in_order outcome_cmp (outcomes_of q) ≡ in_order outcome_cmp (outcomes_of r) = sym a.label_is ∙ l ∙ b.label_is in
    (in_outcomes r.facts.items o).0 ((in_order_has_it (outcomes_of r) o).0 (subst (λ os. Contains os o) same ((in_order_has_it (outcomes_of q) o).1 ((in_outcomes q.facts.items o).1 c))))
alike q r x y a b l d (Visits n) c =
    let same : filter_map device_in q.facts.items ≡ filter_map device_in r.facts.items = sym a.devices ∙ d ∙ b.devices in
    (in_devices r.facts.items n).0 (subst (λ ds. Contains ds n) same ((in_devices q.facts.items n).1 c))

-- ---- one walk
module _ (w : World) (t : ℕ) (p : Place) (f0 f g : Functions) (domain : ℕ)
    (ends : List OutcomeSet) (visitors : List DeviceVisitors) (parts : List Part)
    (least : 1 ≤ t) (k0 : Keeps f0 f) (k : Keeps f g) (ld : domain < count_of f0)
    (labels : AreLabels w f0 domain p t f ends)
    (visits : AreVisitors w f0 domain p t f visitors)
    (cut : AreParts g domain (facts_of ends visitors) parts) where
  below : AreFactsBelow f (facts_of ends visitors)
  below = walk_facts_below f ends visitors labels.below visits.below

  -- a header of a part is of the domain
  of_domain : (q : Part) (h : Header) → Contains parts q → IsHeader h → InSet g q.headers h → InSet f0 domain h
  of_domain q h c v i =
      let n = positive (in_part g h) parts q c (is_true (value_at g q.headers (number h)) i) in
      let o = cut.one h v in
      let s = some_there (value_at g domain (number h)) (omega (arith, n, o)) in
      (kept_set f0 f domain h k0 ld).0 ((kept_set f g domain h k (kept_below f0 f domain k0 ld)).0 s)
    where
      is_true : (o : Option ℕ) → IsSome o → is_some o ≡ true
      is_true None i = cc
      is_true (Some v) i = refl

  outcomes : (q : Part) (h : Header) → Contains parts q → IsHeader h → InSet g q.headers h → (o : Outcome) → Contains (label w t p h) o ↔ Contains (outcomes_of q) o
  outcomes q h c v i o =
      let a = in_outcomes q.facts.items o in
      let b = cut.exact q h c v i (Ends o) in
      let d = fact_kept f g (facts_of ends visitors) h (Ends o) k below in
      let e = fact_ends f ends visitors h o in
      let l = labels.exact h v o in (
        λ x. a.1 (b.1 (d.1 (e.1 (l.1 (of_domain q h c v i, x))))),
        λ x. (l.0 (e.0 (d.0 (b.0 (a.0 x))))).1,
      )

  devices : (q : Part) (h : Header) → Contains parts q → IsHeader h → InSet g q.headers h → (n : ℕ) → Contains (filter_map device_in q.facts.items) n ↔ visiting.Visits w t p h n
  devices q h c v i n =
      let a = in_devices q.facts.items n in
      let b = cut.exact q h c v i (Visits n) in
      let d = fact_kept f g (facts_of ends visitors) h (Visits n) k below in
      let e = fact_visits f ends visitors h n in
      let l = visits.exact h v n in (
        λ x. (l.0 (e.0 (d.0 (b.0 (a.0 x))))).1,
        λ x. a.1 (b.1 (d.1 (e.1 (l.1 (of_domain q h c v i, x))))),
      )

  pub have_outcomes : HaveOutcomes parts
  have_outcomes q c e =
      cut.some q c (empty_set g q.headers (λ h v i.
      label_some w t p h least (nothing_in (label w t p h) (λ o d. in_none o (subst (λ os. Contains os o) e ((outcomes q h c v i o).0 d))))))
    where
      nothing_in : (os : List Outcome) → ((o : Outcome) → Contains os o → ⊥) → os ≡ []
      nothing_in [] n = refl
      nothing_in (o ∷ os) n = absurd (n o (here o os))

  walks_so : (q : Part) (x : WalkedPart) (h : Header) → Contains parts q → IsLabelled q x → IsHeader h → InSet g q.headers h → WalksSo w t p h x.label x.devices
  walks_so q x h c l v i =
      record {
        label_is = is_in_order outcome_cmp total exact (outcomes_of q) (label w t p h) (label_sorted w t p h) (outcomes q h c v i) ∙ sym l.label_is;
        visits = λ n. (
          λ y. (devices q h c v i n).0 (subst (λ ds. Contains ds n) l.devices y),
          λ y. subst (λ ds. Contains ds n) (sym l.devices) ((devices q h c v i n).1 y),
        );
      }

-- ---- the same sets
record Source (parts : List Part) (x : WalkedPart) : Type 0 where
  part : Part
  among : Contains parts part
  is : IsLabelled part x

source : (parts : List Part) (all : List WalkedPart) (x : WalkedPart) → AreLabelled parts all → Contains all x → Source parts x
source [] [] x a c = absurd (in_none x c)
source [] (y ∷ ys) x a c = absurd a
source (q ∷ qs) [] x a c = absurd a
source (q ∷ qs) (y ∷ ys) x a c = elim (in_cons y x ys c) [
  | inl e ↦ record { part = q; among = here q qs; is = subst (IsLabelled q) e a.0 }
  | inr d ↦ (let s = source qs ys x a.1 d in record { part = s.part; among = there q s.part qs s.among; is = s.is })
]

same_count : (g : Functions) (h : Header) (parts : List Part) (all : List WalkedPart) → AreLabelled parts all → count_by (in_walked g h) all ≡ count_by (in_part g h) parts
same_count g h [] [] a = refl
same_count g h [] (y ∷ ys) a = absurd a
same_count g h (q ∷ qs) [] a = absurd a
same_count g h (q ∷ qs) (y ∷ ys) a =
    let e = sum_by-append (λ z. cond (in_walked g h z) 1 0) (y ∷ []) ys in
    let d = sum_by-append (λ z. cond (in_part g h z) 1 0) (q ∷ []) qs in
    let n : count_by (in_walked g h) (y ∷ []) ≡ count_by (in_part g h) (q ∷ []) = ap (λ s. 0 + cond (has_header g s h) 1 0) a.0.headers in
    let r = same_count g h qs ys a.1 in
    e ∙ ((λ i. n i + r i) ∙ sym d)

pub parts_walked : (w : World) (t : ℕ) (p : Place) (f0 f g : Functions) (domain : ℕ) (ends : List OutcomeSet) (visitors : List DeviceVisitors) (parts : List Part) (all : List WalkedPart) → 1 ≤ t → Keeps f0 f → Keeps f g → domain < count_of f0 → AreLabels w f0 domain p t f ends → AreVisitors w f0 domain p t f visitors → AreParts g domain (facts_of ends visitors) parts → AreLabelled parts all → AreWalked w t p g domain all
parts_walked w t p f0 f g domain ends visitors parts all least k0 k ld labels visits cut a =
    record {
      below = λ x c. (let s = source parts all x a c in subst (λ n. n < count_of g) (sym s.is.headers) (cut.below s.part s.among));
      some = λ x c. (let s = source parts all x a c in subst (IsFilled g) (sym s.is.headers) (cut.some s.part s.among));
      one = λ h v. same_count g h parts all a ∙ cut.one h v;
      right = λ x h c v i.
          let s = source parts all x a c in
          walks_so w t p f0 f g domain ends visitors parts least k0 k ld labels visits cut s.part x h s.among s.is v (subst (λ n. InSet g n h) s.is.headers i);
      apart = λ i j x y ei ej l d.
          let q = zip_at IsLabelled parts all i x a ei in
          let r = zip_at IsLabelled parts all j y a ej in
          cut.apart i j q.0 r.0 q.1 r.1 (λ f. (alike q.0 r.0 x y q.2 r.2 l d f, alike r.0 q.0 y x r.2 q.2 (sym l) (sym d) f));
    }
