-- Regions cut in two, and walked again as far as it is needed.
use Rattle.std.proofs.Common.{ℕ, ◌≡◌, ◌<◌, ◌≤◌, ◌+◌, ◌++◌, inl, inr, ◌==◌, ◌&&◌, Bool, true, false, not, cond, if◌then◌else◌, List, [], ◌∷◌, Some, is_some, length, slice_get, filter, refl, ap, sym, ◌∙◌, subst, arith, true≢false}
use Rattle.std.specs.Prelude.{Contains, count_by}
use Rattle.std.proofs.lemmas.List.Elements.{Contains-append_cases, Contains-append_left, Contains-append_right}
use Rattle.hdr_bits.specs.declared.header.Header.{Header}
use Rattle.hdr_bits.specs.HeaderBits.{number, IsHeader}
use Rattle.hdr_bits.proofs.Numbers.{number-below}
use Rattle.cube_diagram.specs.Functions.{Functions, Keeps, GivesNothing, count_of, value_at}
use Rattle.net_types.specs.declared.network.Place.{Place}
use Rattle.net_types.specs.SameWalks.{SameWalksUnder}
use Rattle.net_types.specs.World.{World}
use Rattle.net_types.proofs.Members.{here, there, in_none, in_one, in_filter}
use Rattle.net_types.proofs.SameWalks.{labels_alike, visits_alike}
use Rattle.set_walk.specs.Sets.{InSet, IsSetOf}
use Rattle.set_walk.proofs.SetLemmas.{kept_set, kept_below}
use Rattle.incr_review.specs.declared.regions.Region.{Region}
use Rattle.incr_review.specs.Parts.{IsFilled, has_header}
use Rattle.incr_review.specs.Regions.{in_region, AreReviewed}
use Rattle.incr_review.specs.Again.{leaves, AreAgain, ArePlaced}
use Rattle.incr_review.specs.Groups.{IsDisjoint}
use Rattle.incr_review.specs.Walked.{WalksSo}
use Rattle.incr_review.specs.Split.{AddsPiece, ArePieces, IsPiece, is_in, is_out, with_headers}
use Rattle.incr_review.proofs.PartLemmas.{filled_kept}
use Rattle.incr_review.proofs.RegionLemmas.{split_count, region_counts_kept}

pub no_pieces : (f : Functions) (keep : Header → Bool) → ArePieces f [] keep f []
no_pieces f keep =
    record {
      below = λ r c. absurd (in_none r c);
      some = λ r c. absurd (in_none r c);
      from = λ r c. absurd (in_none r c);
      one = λ s h v. by (keep h);
    }
  where
    by : (b : Bool) → ◌≡◌ {A = ℕ} 0 (if b then 0 else 0)
    by true = refl
    by false = refl

-- the same headers pass a test, one by one
same_test : (a b : Bool) → (a ≡ true → b ≡ true) → (b ≡ true → a ≡ true) → a ≡ b
same_test true b x y = sym (x refl)
same_test false true x y = y refl
same_test false false x y = refl

and_true : (a b : Bool) → (a && b) ≡ true → (a ≡ true) × (b ≡ true)
and_true true b e = (refl, e)
and_true false b e = absurd (true≢false (sym e))

both_true : (a b : Bool) → a ≡ true → b ≡ true → (a && b) ≡ true
both_true a b x y = ap (λ z. z && b) x ∙ y

-- the count of a region that is cut
cut_count : (a b k : Bool) (n : ℕ) → (if k then n else 0) + cond (a && (k && b)) 1 0 ≡ (if k then n + cond (a && b) 1 0 else 0)
cut_count a b true n = refl
cut_count true b false n = refl
cut_count false b false n = refl

zero_plus : (n : ℕ) → 0 + n ≡ n
zero_plus n = omega arith

back : (a c t : ℕ) → c ≡ 0 → a + c ≡ t → a ≡ t
back a c t z w = omega (arith, z, w)

module _ (f e g : Functions) (keep : Header → Bool) (bs : List Region) (r : Region) (ps qs : List Region)
    (kf : Keeps f e) (kg : Keeps e g) (lr : r.headers < count_of f) (before : ArePieces f bs keep e ps)
    (n : ℕ) (below : n < count_of g)
    (exact : (h : Header) → IsHeader h → has_header g n h ≡ (keep h && has_header f r.headers h)) where
  piece : Region
  piece = with_headers r n

  inside : (h : Header) → IsHeader h → has_header g n h ≡ true → InSet f r.headers h × (keep h ≡ true)
  inside h v i = let t = and_true (keep h) (has_header f r.headers h) (sym (exact h v) ∙ i) in (t.1, t.0)

  old_from : (x : Region) → Contains ps x → IsPiece f (bs ++ r ∷ []) keep g x
  old_from x c =
      let o = before.from x c in
      record { region = o.region; among = Contains-append_left bs (r ∷ []) o.region o.among; is = o.is; within = λ h v i. o.within h v ((kept_set e g x.headers h kg (before.below x c)).0 i) }

  piece_from : IsPiece f (bs ++ r ∷ []) keep g (with_headers r n)
  piece_from = record { region = r; among = Contains-append_right bs (r ∷ []) r (here r []); is = refl; within = λ h v i. inside h v i }

  old_count : (s : ℕ) (h : Header) → IsHeader h → count_by (in_region g s h) ps ≡ (if keep h then count_by (in_region f s h) bs else 0)
  old_count s h v = region_counts_kept e g s h kg ps before.below ∙ before.one s h v

  whole_count : (s : ℕ) (h : Header) → IsHeader h → (if keep h then count_by (in_region f s h) bs else 0) + cond (in_region g s h (with_headers r n)) 1 0 ≡ (if keep h then count_by (in_region f s h) (bs ++ r ∷ []) else 0)
  whole_count s h v =
      ap (λ b. (if keep h then count_by (in_region f s h) bs else 0) + cond ((r.slot == s) && b) 1 0) (exact h v)
      ∙ (cut_count (r.slot == s) (has_header f r.headers h) (keep h) (count_by (in_region f s h) bs)
      ∙ (ap (λ m. if keep h then count_by (in_region f s h) bs + m else 0) (sym (zero_plus (cond (in_region f s h r) 1 0)))
      ∙ ap (λ m. if keep h then m else 0) (sym (split_count (in_region f s h) bs (r ∷ [])))))

  filled : IsFilled g n → ArePieces f (bs ++ r ∷ []) keep g (ps ++ with_headers r n ∷ [])
  filled some =
      record {
        below = λ x c. elim (Contains-append_cases ps (with_headers r n ∷ []) x c) [
          | inl d ↦ kept_below e g x.headers kg (before.below x d)
          | inr d ↦ subst (λ (z : Region). z.headers < count_of g) (in_one (with_headers r n) x d) below
        ];
        some = λ x c. elim (Contains-append_cases ps (with_headers r n ∷ []) x c) [
          | inl d ↦ filled_kept e g x.headers kg (before.below x d) (before.some x d)
          | inr d ↦ subst (λ (z : Region). IsFilled g z.headers) (in_one (with_headers r n) x d) some
        ];
        from = λ x c. elim (Contains-append_cases ps (with_headers r n ∷ []) x c) [
          | inl d ↦ old_from x d
          | inr d ↦ subst (IsPiece f (bs ++ r ∷ []) keep g) (in_one (with_headers r n) x d) piece_from
        ];
        one = λ s h v.
            split_count (in_region g s h) ps (with_headers r n ∷ [])
            ∙ (ap (λ m. m + count_by (in_region g s h) (with_headers r n ∷ [])) (old_count s h v)
            ∙ (ap (λ m. (if keep h then count_by (in_region f s h) bs else 0) + m) (zero_plus (cond (in_region g s h (with_headers r n)) 1 0)) ∙ whole_count s h v));
      }

  empty : GivesNothing (value_at g n) → ArePieces f (bs ++ r ∷ []) keep g ps
  empty none =
      record {
        below = λ x d. kept_below e g x.headers kg (before.below x d);
        some = λ x d. filled_kept e g x.headers kg (before.below x d) (before.some x d);
        from = old_from;
        one = λ s h v.
            let away : has_header g n h ≡ false = ap is_some (none (number h) (number-below h v)) in
            let nothing : ◌≡◌ {A = ℕ} (cond (in_region g s h (with_headers r n)) 1 0) 0 = ap (λ b. cond ((r.slot == s) && b) 1 0) away ∙ no_and (r.slot == s) in
            old_count s h v ∙ back (if keep h then count_by (in_region f s h) bs else 0) (cond (in_region g s h (with_headers r n)) 1 0) (if keep h then count_by (in_region f s h) (bs ++ r ∷ []) else 0) nothing (whole_count s h v);
      }
    where
      no_and : (a : Bool) → ◌≡◌ {A = ℕ} (cond (a && false) 1 0) 0
      no_and true = refl
      no_and false = refl

  pub pieces_more : AddsPiece g r n ps qs → ArePieces f (bs ++ r ∷ []) keep g qs
  pieces_more a = elim a [
    | inl x ↦ subst (ArePieces f (bs ++ r ∷ []) keep g) (sym x.1) (empty x.0)
    | inr x ↦ subst (ArePieces f (bs ++ r ∷ []) keep g) (sym x.1) (filled x.0)
  ]

pub pieces_kept : (f e g : Functions) (keep : Header → Bool) (bs ps : List Region) → Keeps e g → ArePieces f bs keep e ps → ArePieces f bs keep g ps
pieces_kept f e g keep bs ps k a =
    record {
      below = λ x d. kept_below e g x.headers k (a.below x d);
      some = λ x d. filled_kept e g x.headers k (a.below x d) (a.some x d);
      from = λ x d. (let o = a.from x d in record { region = o.region; among = o.among; is = o.is; within = λ h v i. o.within h v ((kept_set e g x.headers h k (a.below x d)).0 i) });
      one = λ s h v. region_counts_kept e g s h k ps a.below ∙ a.one s h v;
    }

-- ---- the tests of the two halves
module _ (f e g : Functions) (r : Region) (set : ℕ) (kf : Keeps f e) (lr : r.headers < count_of f) (ls : set < count_of f) where
  set_same : (n : ℕ) → n < count_of f → (h : Header) → has_header e n h ≡ has_header f n h
  set_same n l h = same_test (has_header e n h) (has_header f n h) (kept_set f e n h kf l).0 (kept_set f e n h kf l).1

  pub in_exact : (n : ℕ) → IsSetOf g n (λ h. InSet e r.headers h × InSet e set h) → (h : Header) → IsHeader h → has_header g n h ≡ (is_in f set h && has_header f r.headers h)
  in_exact n a h v =
      same_test (has_header g n h) (has_header e set h && has_header e r.headers h) (λ i. (let b = (a h v).0 i in both_true (has_header e set h) (has_header e r.headers h) b.1 b.0)) (λ i. (let b = and_true (has_header e set h) (has_header e r.headers h) i in (a h v).1 (b.1, b.0)))
      ∙ ((λ i. set_same set ls h i && set_same r.headers lr h i))

  not_true : (b : Bool) → (b ≡ true → ⊥) → not b ≡ true
  not_true true n = absurd (n refl)
  not_true false n = refl

  true_not : (b : Bool) → not b ≡ true → b ≡ true → ⊥
  true_not true n e = true≢false (sym n)
  true_not false n e = true≢false (sym e)

  pub out_exact : (n : ℕ) → IsSetOf g n (λ h. InSet e r.headers h × (InSet e set h → ⊥)) → (h : Header) → IsHeader h → has_header g n h ≡ (is_out f set h && has_header f r.headers h)
  out_exact n a h v =
      same_test (has_header g n h) (not (has_header e set h) && has_header e r.headers h) (λ i. (let b = (a h v).0 i in both_true (not (has_header e set h)) (has_header e r.headers h) (not_true (has_header e set h) b.1) b.0)) (λ i. (let b = and_true (not (has_header e set h)) (has_header e r.headers h) i in (a h v).1 (b.1, true_not (has_header e set h) b.0)))
      ∙ ((λ i. not (set_same set ls h i) && set_same r.headers lr h i))

-- ---- what is walked of the pieces
both_halves : (k : Bool) (n : ℕ) → (if not k then n else 0) + (if k then n else 0) ≡ n
both_halves true n = zero_plus n
both_halves false n = omega arith

one_half : (k : Bool) (n : ℕ) → (if k then n else 0) ≤ n
one_half true n = omega arith
one_half false n = omega arith

-- all pieces of regions that leave leave
pub pieces_leave : (f g : Functions) (d : ℕ) (rs : List Region) (keep : Header → Bool) (ps : List Region) → ArePieces f (filter (leaves d) rs) keep g ps → (r : Region) → Contains ps r → leaves d r ≡ true
pieces_leave f g d rs keep ps a r c =
    let o = a.from r c in
    ap (leaves d) o.is ∙ (in_filter (leaves d) rs o.region o.among).1

pub all_filtered : {X : Type 0} (p : X → Bool) (xs : List X) → ((x : X) → Contains xs x → p x ≡ true) → filter p xs ≡ xs
all_filtered p [] a = refl
all_filtered p (x ∷ xs) a =
    ap (λ b. cond b (x ∷ filter p xs) (filter p xs)) (a x (here x xs)) ∙ ap (λ ys. x ∷ ys) (all_filtered p xs (λ y c. a y (there x y xs c)))

pub pieces_placed : (ingress : List Place) (f g : Functions) (bs : List Region) (keep : Header → Bool) (ps : List Region) → ArePieces f bs keep g ps → ((r : Region) → Contains bs r → r.slot < length ingress) → ArePlaced ingress g ps
pieces_placed ingress f g bs keep ps a l r c =
    let o = a.from r c in
    (subst (λ n. n < length ingress) (ap (λ (x : Region). x.slot) (sym o.is)) (l o.region o.among), a.below r c)

pub pieces_disjoint : (f g : Functions) (bs : List Region) (keep : Header → Bool) (ps : List Region) → ArePieces f bs keep g ps → ((s : ℕ) (h : Header) → IsHeader h → count_by (in_region f s h) bs ≤ 1) → IsDisjoint g ps
pieces_disjoint f g bs keep ps a once s h v =
    let o = a.one s h v in
    let l = once s h v in
    let half = one_half (keep h) (count_by (in_region f s h) bs) in
    omega (arith, o, l, half)

module _ (old w0 w1 : World) (t : ℕ) (ingress : List Place) (f e g : Functions) (d set : ℕ) (rs outside inside more : List Region)
    (k : Keeps e g) (before : AreReviewed old w0 t ingress f rs)
    (out : ArePieces f (filter (leaves d) rs) (is_out f set) e outside)
    (within : ArePieces f (filter (leaves d) rs) (is_in f set) e inside)
    (walked : AreAgain w1 t ingress e inside g more)
    (same : (p : Place) (h : Header) → IsHeader h → (InSet f set h → ⊥) → SameWalksUnder w0 w1 t p h) where
  kept_out : ArePieces f (filter (leaves d) rs) (is_out f set) g outside
  kept_out = pieces_kept f e g (is_out f set) (filter (leaves d) rs) outside k out

  placed_out : (r : Region) → Contains outside r → r.slot < length ingress
  placed_out r c =
      let o = kept_out.from r c in
      let m = in_filter (leaves d) rs o.region o.among in
      subst (λ n. n < length ingress) (ap (λ (x : Region). x.slot) (sym o.is)) (before.right.placed o.region m.0)

  not_in : (b : Bool) → not b ≡ true → b ≡ true → ⊥
  not_in true n i = true≢false (sym n)
  not_in false n i = true≢false (sym i)

  pub again_split : AreAgain w1 t ingress f (filter (leaves d) rs) g (outside ++ more)
  again_split =
      record {
        below = λ r c. elim (Contains-append_cases outside more r c) [ inl x ↦ kept_out.below r x | inr x ↦ walked.below r x ];
        placed = λ r c. elim (Contains-append_cases outside more r c) [ inl x ↦ placed_out r x | inr x ↦ walked.placed r x ];
        some = λ r c. elim (Contains-append_cases outside more r c) [ inl x ↦ kept_out.some r x | inr x ↦ walked.some r x ];
        one = λ s h v.
            split_count (in_region g s h) outside more
            ∙ ((λ i. kept_out.one s h v i + (walked.one s h v ∙ within.one s h v) i)
            ∙ both_halves (is_in f set h) (count_by (in_region f s h) (filter (leaves d) rs)));
        was = λ r p h c at v i. elim (Contains-append_cases outside more r c) [
          | inl x ↦ (
              let o = kept_out.from r x in
              let m = in_filter (leaves d) rs o.region o.among in
              let own = o.within h v i in
              let slot_is : o.region.slot ≡ r.slot = ap (λ (z : Region). z.slot) (sym o.is) in
              let right = before.right.right o.region p h m.0 (subst (λ n. slice_get ingress n ≡ Some p) (sym slot_is) at) v own.0 in
              let alike = same p h v (not_in (is_in f set h) own.1) in
              let visits = visits_alike w0 w1 t p h alike t (omega arith) in
              let walks : WalksSo w1 t p h r.new r.devices = record {
                label_is = sym (labels_alike w0 w1 t p h alike t (omega arith)) ∙ (right.after.label_is ∙ ap (λ (z : Region). z.new) (sym o.is));
                visits = λ n. (
                  λ y. (visits n).0 ((right.after.visits n).0 (subst (λ ds. Contains ds n) (ap (λ (z : Region). z.devices) o.is) y)),
                  λ y. subst (λ ds. Contains ds n) (ap (λ (z : Region). z.devices) (sym o.is)) ((right.after.visits n).1 ((visits n).1 y)),
                );
              } in
              (record { region = o.region; among = o.among; inside = own.0; slot = slot_is; old = ap (λ (z : Region). z.old) (sym o.is) }, walks))
          | inr x ↦ (
              let a = walked.was r p h x at v i in
              let o = within.from a.0.region a.0.among in
              let own = o.within h v a.0.inside in
              (record { region = o.region; among = o.among; inside = own.0; slot = ap (λ (z : Region). z.slot) (sym o.is) ∙ a.0.slot; old = ap (λ (z : Region). z.old) (sym o.is) ∙ a.0.old }, a.1))
        ];
      }
