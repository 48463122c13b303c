-- Reviews: as they are opened, and after an edit.
use Rattle.std.proofs.Common.{ℕ, ◌≡◌, ◌<◌, ◌≤◌, ◌==◌, ◌⊎◌, inl, inr, true, false, not, cond, List, [], ◌++◌, Option, Some, None, IsSome, length, slice_get, ◌+◌, refl, ap, sym, ◌∙◌, subst, eq-eqb, arith}
use Rattle.std.specs.Prelude.{Contains, count_by, filter}
use Rattle.std.proofs.lemmas.Bool.{cases_Bool}
use Rattle.std.proofs.lemmas.Bool.Decides.{nat_tests}
use Rattle.std.proofs.lemmas.List.Elements.{Contains-append_cases}
use Rattle.std.proofs.lemmas.List.Filters.{sum_by-filter_both}
use Rattle.hdr_bits.specs.declared.header.Header.{Header}
use Rattle.hdr_bits.specs.HeaderBits.{number, IsHeader}
use Rattle.cube_diagram.specs.Functions.{Functions, Keeps, count_of, value_at}
use Rattle.net_types.specs.declared.network.Place.{Place}
use Rattle.net_types.specs.World.{World}
use Rattle.net_types.specs.Edits.{DiffersOnlyAt}
use Rattle.net_types.specs.Visits as visiting
use Rattle.net_types.proofs.Members.{in_none, in_filter, to_any}
use Rattle.net_types.proofs.SameWalks.{labels_alike, visits_alike}
use Rattle.net_types.proofs.Unvisited.{unvisited_walks}
use Rattle.set_walk.specs.Sets.{InSet}
use Rattle.set_walk.proofs.SetLemmas.{kept_set, kept_below}
use Rattle.incr_review.specs.declared.regions.Region.{Region}
use Rattle.incr_review.specs.Reviews.{ReviewState, IsReview}
use Rattle.incr_review.specs.Parts.{ones}
use Rattle.incr_review.specs.Regions.{stays, in_region, IsRight, AreReviewed}
use Rattle.incr_review.specs.Again.{leaves, ArePlaced, AreRegionsOf, AreAgain}
use Rattle.incr_review.specs.Opened.{AreOpened}
use Rattle.incr_review.proofs.ListLemmas.{get_cases, from_get}
use Rattle.incr_review.proofs.PartLemmas.{filled_kept}
use Rattle.incr_review.proofs.RegionLemmas.{split_count, region_counts_kept}

-- ---- opened
pub nothing_opened : (w : World) (t : ℕ) (ingress : List Place) (f : Functions) → AreOpened w t ingress f 0 []
nothing_opened w t ingress f =
    record {
      below = λ r c. absurd (in_none r c);
      early = λ r c. absurd (in_none r c);
      placed = λ r c. absurd (in_none r c);
      some = λ r c. absurd (in_none r c);
      one = λ s h l v. absurd (omega (arith, l));
      none = λ s h l v. refl;
      right = λ r p h c e v i. absurd (in_none r c);
      apart = record { apart = λ i j q r ei ej s o n d. absurd (in_none q (from_get [] i q ei)) };
    }

one_of_all : (o : Option ℕ) → IsSome o → ones o ≡ 1
one_of_all None i = cc
one_of_all (Some v) i = refl

module _ (w : World) (t : ℕ) (ingress : List Place) (e g : Functions) (n scope : ℕ) (rs more : List Region)
    (k : Keeps e g) (l : n < length ingress) (all : (h : Header) → InSet g scope h)
    (before : AreOpened w t ingress e n rs) (own : AreRegionsOf w t ingress n None g scope more) where
  both_counts : (s : ℕ) (h : Header) (a b : ℕ) → count_by (in_region g s h) rs ≡ a → count_by (in_region g s h) more ≡ b → count_by (in_region g s h) (rs ++ more) ≡ a + b
  both_counts s h a b x y = split_count (in_region g s h) rs more ∙ (λ i. x i + y i)

  both_apart : (i j : ℕ) (q r : Region) → q.slot ≡ r.slot → q.old ≡ r.old → q.new ≡ r.new → q.devices ≡ r.devices → (slice_get rs i ≡ Some q) ⊎ ((m : ℕ) × (i ≡ length rs + m) × (slice_get more m ≡ Some q)) → (slice_get rs j ≡ Some r) ⊎ ((m : ℕ) × (j ≡ length rs + m) × (slice_get more m ≡ Some r)) → i ≡ j
  both_apart i j q r s o u d (inl x) (inl y) = before.apart.apart i j q r x y s o u d
  both_apart i j q r s o u d (inl x) (inr y) = (let a = before.early q (from_get rs i q x) in let b = own.slot_is r (from_get more y.0 r y.2) in absurd (omega (arith, a, b, s)))
  both_apart i j q r s o u d (inr x) (inl y) = (let a = before.early r (from_get rs j r y) in let b = own.slot_is q (from_get more x.0 q x.2) in absurd (omega (arith, a, b, s)))
  both_apart i j q r s o u d (inr x) (inr y) = (let a = own.apart x.0 y.0 q r x.2 y.2 u d in let b = x.1 in let c = y.1 in omega (arith, a, b, c))

  pub opened_more : AreOpened w t ingress g (n + 1) (rs ++ more)
  opened_more =
      record {
        below = λ r c. elim (Contains-append_cases rs more r c) [ inl d ↦ kept_below e g r.headers k (before.below r d) | inr d ↦ own.below r d ];
        early = λ r c. elim (Contains-append_cases rs more r c) [ inl d ↦ (let a = before.early r d in omega (arith, a)) | inr d ↦ (let b = own.slot_is r d in omega (arith, b)) ];
        placed = λ r c. elim (Contains-append_cases rs more r c) [ inl d ↦ before.placed r d | inr d ↦ subst (λ m. m < length ingress) (sym (own.slot_is r d)) l ];
        some = λ r c. elim (Contains-append_cases rs more r c) [ inl d ↦ filled_kept e g r.headers k (before.below r d) (before.some r d) | inr d ↦ own.some r d ];
        one = λ s h m v. elim (cases_Bool (s == n)) [
          | inl y ↦ (
              let same : n ≡ s = grind (arith, nat_tests, y) in
              let a = region_counts_kept e g s h k rs before.below ∙ before.none s h (omega (arith, same)) v in
              let b : count_by (in_region g s h) more ≡ 1 = subst (λ z. count_by (in_region g z h) more ≡ 1) same (own.one h v ∙ one_of_all (value_at g scope (number h)) (all h)) in
              both_counts s h 0 1 a b)
          | inr y ↦ (
              let differs : s ≡ n → ⊥ = λ d. (let x : (s == n) ≡ true = eq-eqb s n d in let both : false ≡ true = sym y ∙ x in absurd cc) in
              let below : s < n = omega (arith, m, differs) in
              both_counts s h 1 0 (region_counts_kept e g s h k rs before.below ∙ before.one s h below v) (own.other s h differs))
        ];
        none = λ s h m v.
            let differs : s ≡ n → ⊥ = λ d. omega (arith, m, d) in
            let beyond : n ≤ s = omega (arith, m) in
            both_counts s h 0 0 (region_counts_kept e g s h k rs before.below ∙ before.none s h beyond v) (own.other s h differs);
        right = λ r p h c at v i. elim (Contains-append_cases rs more r c) [
          | inl d ↦ before.right r p h d at v ((kept_set e g r.headers h k (before.below r d)).0 i)
          | inr d ↦ (own.old_is r d, (own.right r p h d (subst (λ m. slice_get ingress m ≡ Some p) (own.slot_is r d) at) v i).1)
        ];
        apart = record { apart = λ i j q r ei ej s o u d. both_apart i j q r s o u d (get_cases rs more i q ei) (get_cases rs more j r ej) };
      }

pub opened_reviewed : (w : World) (t : ℕ) (ingress : List Place) (f : Functions) (rs : List Region) → AreOpened w t ingress f (length ingress) rs → AreReviewed w w t ingress f rs
opened_reviewed w t ingress f rs a =
    record {
      right = record {
        below = a.below;
        placed = a.placed;
        some = a.some;
        right = λ r p h c at v i. let o = a.right r p h c at v i in record { before = o.1.label_is ∙ sym o.0; after = o.1 };
      };
      one = λ s h l v. a.one s h l v;
    }

-- ---- of the table as it was
pub again_from : (w : World) (t : ℕ) (ingress : List Place) (f e : Functions) (bs : List Region) (g : Functions) (more : List Region) → Keeps f e → ((r : Region) → Contains bs r → r.headers < count_of f) → AreAgain w t ingress e bs g more → AreAgain w t ingress f bs g more
again_from w t ingress f e bs g more k b a =
    record {
      below = a.below;
      placed = a.placed;
      some = a.some;
      one = λ s h v. a.one s h v ∙ region_counts_kept f e s h k bs b;
      was = λ r p h c at v i.
          let o = a.was r p h c at v i in
          (record { region = o.0.region; among = o.0.among; inside = (kept_set f e o.0.region.headers h k (b o.0.region o.0.among)).0 o.0.inside; slot = o.0.slot; old = o.0.old }, o.1);
    }

-- ---- edited
not_device : (d : ℕ) (r : Region) → stays d r ≡ true → Contains r.devices d → ⊥
not_device d r s c =
    let a = to_any (λ x. x == d) r.devices d c (eq-eqb d d refl) in
    let both : false ≡ true = sym (ap not a) ∙ s in
    absurd cc

module _ (old w0 w1 : World) (t : ℕ) (ingress : List Place) (f g : Functions) (d : ℕ) (rs more : List Region)
    (differs : DiffersOnlyAt w0 w1 d) (k : Keeps f g)
    (before : AreReviewed old w0 t ingress f rs)
    (again : AreAgain w1 t ingress f (filter (leaves d) rs) g more) where
  keeps : List Region
  keeps = filter (stays d) rs

  kept_right : (r : Region) (p : Place) (h : Header) → Contains (filter (stays d) rs) r → slice_get ingress r.slot ≡ Some p → IsHeader h → InSet g r.headers h → IsRight old w1 t p h r
  kept_right r p h c at v i =
      let m = in_filter (stays d) rs r c in
      let o = before.right.right r p h m.0 at v ((kept_set f g r.headers h k (before.right.below r m.0)).0 i) in
      let away : visiting.Visits w0 t p h d → ⊥ = λ x. not_device d r m.1 ((o.after.visits d).1 x) in
      let alike = unvisited_walks w0 w1 d differs t p h away in
      let same = visits_alike w0 w1 t p h alike t (omega arith) in
      record {
        before = o.before;
        after = record {
          label_is = sym (labels_alike w0 w1 t p h alike t (omega arith)) ∙ o.after.label_is;
          visits = λ n. (λ x. (same n).0 ((o.after.visits n).0 x), λ x. (o.after.visits n).1 ((same n).1 x));
        };
      }

  kept_item : (r : Region) → Contains (filter (stays d) rs) r → Contains rs r
  kept_item r c = (in_filter (stays d) rs r c).0

  -- a header of a region that was walked again had its old label
  again_right : (r : Region) (p : Place) (h : Header) → Contains more r → slice_get ingress r.slot ≡ Some p → IsHeader h → InSet g r.headers h → IsRight old w1 t p h r
  again_right r p h c at v i =
      let o = again.was r p h c at v i in
      let m = in_filter (leaves d) rs o.0.region o.0.among in
      let x = before.right.right o.0.region p h m.0 (subst (λ n. slice_get ingress n ≡ Some p) (sym o.0.slot) at) v o.0.inside in
      record { before = x.before ∙ o.0.old; after = o.1 }

  pub reviewed_after : AreReviewed old w1 t ingress g (filter (stays d) rs ++ more)
  reviewed_after =
      record {
        right = record {
          below = λ r c. elim (Contains-append_cases (filter (stays d) rs) more r c) [ inl x ↦ kept_below f g r.headers k (before.right.below r (kept_item r x)) | inr x ↦ again.below r x ];
          placed = λ r c. elim (Contains-append_cases (filter (stays d) rs) more r c) [ inl x ↦ before.right.placed r (kept_item r x) | inr x ↦ again.placed r x ];
          some = λ r c. elim (Contains-append_cases (filter (stays d) rs) more r c) [ inl x ↦ filled_kept f g r.headers k (before.right.below r (kept_item r x)) (before.right.some r (kept_item r x)) | inr x ↦ again.some r x ];
          right = λ r p h c at v i. elim (Contains-append_cases (filter (stays d) rs) more r c) [ inl x ↦ kept_right r p h x at v i | inr x ↦ again_right r p h x at v i ];
        };
        one = λ s h l v.
            let a = region_counts_kept f g s h k (filter (stays d) rs) (λ r c. before.right.below r (kept_item r c)) in
            let b = again.one s h v in
            let whole = sum_by-filter_both (stays d) (leaves d) (λ x. refl) (λ r. cond (in_region f s h r) 1 0) rs in
            split_count (in_region g s h) (filter (stays d) rs) more ∙ ((λ i. a i + b i) ∙ (whole ∙ before.one s h l v));
      }

-- ---- as the table grows
pub reviewed_kept : (old new : World) (t : ℕ) (ingress : List Place) (f g : Functions) (rs : List Region) → Keeps f g → AreReviewed old new t ingress f rs → AreReviewed old new t ingress g rs
reviewed_kept old new t ingress f g rs k a =
    record {
      right = record {
        below = λ r c. kept_below f g r.headers k (a.right.below r c);
        placed = a.right.placed;
        some = λ r c. filled_kept f g r.headers k (a.right.below r c) (a.right.some r c);
        right = λ r p h c at v i. a.right.right r p h c at v ((kept_set f g r.headers h k (a.right.below r c)).0 i);
      };
      one = λ s h l v. region_counts_kept f g s h k rs a.right.below ∙ a.one s h l v;
    }

pub regions_placed : (r : ReviewState) → IsReview r → ArePlaced r.baseline.links.ingress r.table r.regions
regions_placed r a x c = (a.reviewed.right.placed x c, a.reviewed.right.below x c)
