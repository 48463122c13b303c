-- Regions of walked headers.
use Rattle.std.proofs.Common.{ℕ, zero, suc, ◌≡◌, ◌<◌, ◌==◌, ◌&&◌, inl, inr, Bool, true, false, not, cond, is_some, List, [], ◌∷◌, ◌++◌, Option, Some, None, IsSome, length, take, get_or, slice_get, ◌+◌, map, refl, ap, sym, ◌∙◌, subst, append_assoc, eq-eqb, arith}
use Rattle.std.specs.Prelude.{Contains, count_by, filter, option_copied}
use Rattle.std.proofs.lemmas.Bool.{cases_Bool}
use Rattle.std.proofs.lemmas.Bool.Decides.{nat_tests}
use Rattle.std.proofs.lemmas.List.{append-nil}
use Rattle.std.proofs.lemmas.List.Elements.{filter_more, Contains-append_cases, Contains-append_left, Contains-append_right}
use Rattle.std.proofs.lemmas.List.Sums.{sum_by-append}
use Rattle.hdr_bits.specs.declared.header.Header.{Header}
use Rattle.hdr_bits.specs.HeaderBits.{number, IsHeader}
use Rattle.cube_diagram.specs.Functions.{Functions, Keeps, count_of, value_at}
use Rattle.net_types.specs.declared.network.Place.{Place}
use Rattle.net_types.specs.World.{World}
use Rattle.net_types.proofs.Members.{here, there, in_none, in_map}
use Rattle.net_view.specs.Borrowed.{world_of}
use Rattle.set_walk.specs.Sets.{InSet}
use Rattle.set_walk.proofs.NetLemmas.{net_kept}
use Rattle.set_walk.proofs.SetLemmas.{kept_set, kept_below}
use Rattle.incr_review.specs.declared.regions.Region.{Region}
use Rattle.incr_review.specs.declared.regions.Walk.{Walk}
use Rattle.incr_review.specs.declared.regions.Walking.{Walking}
use Rattle.incr_review.specs.declared.walked.WalkedPart.{WalkedPart}
use Rattle.incr_review.specs.Parts.{ones, IsFilled, has_header}
use Rattle.incr_review.specs.Walked.{WalksSo, AreWalked, in_walked}
use Rattle.incr_review.specs.Regions.{stays, in_region}
use Rattle.incr_review.specs.Again.{leaves, old_or, as_region, AreRegionsOf, AddsRegions, AddsAgain, IsWalkIn, WasIn, AreAgain}
use Rattle.incr_review.proofs.ListLemmas.{get_map}
use Rattle.incr_review.proofs.PartLemmas.{filled_kept}
use Rattle.incr_review.proofs.WalkedLemmas.{positive, some_there}

-- ---- counts
pub split_count : {X : Type 0} (p : X → Bool) (xs ys : List X) → count_by p (xs ++ ys) ≡ count_by p xs + count_by p ys
split_count p xs ys = sum_by-append (λ x. cond (p x) 1 0) xs ys

pub map_count : {X Y : Type 0} (p : X → Bool) (q : Y → Bool) (f : Y → X) → ((y : Y) → p (f y) ≡ q y) → (ys : List Y) → count_by p (map f ys) ≡ count_by q ys
map_count p q f e [] = refl
map_count p q f e (y ∷ ys) =
    let r = map_count p q f e ys in
    split_count p (f y ∷ []) (map f ys) ∙ ((λ i. (0 + cond (e y i) 1 0) + r i) ∙ sym (split_count q (y ∷ []) ys))

pub no_count : {X : Type 0} (p : X → Bool) (xs : List X) → ((x : X) → Contains xs x → p x ≡ false) → count_by p xs ≡ 0
no_count p [] n = refl
no_count p (x ∷ xs) n =
    let r = no_count p xs (λ z c. n z (there x z xs c)) in
    split_count p (x ∷ []) xs ∙ (λ i. (0 + cond (n x (here x xs) i) 1 0) + r i)

pub other_slot : (a b : ℕ) → (b ≡ a → ⊥) → (a == b) ≡ false
other_slot a b n = elim (cases_Bool (a == b)) [ inl t ↦ absurd (n (grind (arith, nat_tests, t))) | inr f ↦ f ]

not_there : (b : Bool) → (false && b) ≡ false
not_there b = refl

-- ---- the parts of one walk
module _ (w : World) (t : ℕ) (p : Place) (ingress : List Place) (g : Functions) (walking : Walking) (parts : List WalkedPart)
    (at : slice_get ingress walking.slot ≡ Some p) (walked : AreWalked w t p g walking.headers parts) where
  regions : List Region
  regions = map (as_region walking) parts

  one_there : (h : Header) (q : WalkedPart) → in_region g walking.slot h (as_region walking q) ≡ in_walked g h q
  one_there h q = ap (λ b. b && has_header g q.headers h) (eq-eqb walking.slot walking.slot refl)

  there_true : (o : Option ℕ) → IsSome o → is_some o ≡ true
  there_true None i = cc
  there_true (Some v) i = refl

  pub walked_regions : AreRegionsOf w t ingress walking.slot (option_copied walking.old) g walking.headers (map (as_region walking) parts)
  walked_regions =
      record {
        below = λ r c. (let i = in_map (as_region walking) parts r c in subst (λ (x : Region). x.headers < count_of g) i.2 (walked.below i.0 i.1));
        slot_is = λ r c. (let i = in_map (as_region walking) parts r c in ap (λ (x : Region). x.slot) (sym i.2));
        some = λ r c. (let i = in_map (as_region walking) parts r c in subst (λ (x : Region). IsFilled g x.headers) i.2 (walked.some i.0 i.1));
        one = λ h v. map_count (in_region g walking.slot h) (in_walked g h) (as_region walking) (one_there h) parts ∙ walked.one h v;
        other = λ s h n. no_count (in_region g s h) (map (as_region walking) parts) (λ r c.
            let i = in_map (as_region walking) parts r c in
            subst (λ (x : Region). in_region g s h x ≡ false) i.2 (ap (λ b. b && has_header g i.0.headers h) (other_slot walking.slot s n)));
        old_is = λ r c. (let i = in_map (as_region walking) parts r c in subst (λ (x : Region). x.old ≡ old_or (option_copied walking.old) x.new) i.2 refl);
        right = λ r q h c e v s.
            let i = in_map (as_region walking) parts r c in
            let same : Some p ≡ Some q = sym at ∙ e in
            let place : p ≡ q = cc in
            let inside : InSet g i.0.headers h = subst (λ (x : Region). InSet g x.headers h) (sym i.2) s in
            let n = positive (in_walked g h) parts i.0 i.1 (there_true (value_at g i.0.headers (number h)) inside) in
            let o = walked.one h v in (
              some_there (value_at g walking.headers (number h)) (omega (arith, n, o)),
              subst (λ (x : Region). WalksSo w t q h x.new x.devices) i.2 (subst (λ z. WalksSo w t z h i.0.label i.0.devices) place (walked.right i.0 h i.1 v inside)),
            );
        apart = λ i j q r ei ej n d.
            let u = get_map (as_region walking) parts i q ei in
            let v = get_map (as_region walking) parts j r ej in
            walked.apart i j u.0 v.0 u.1 v.1
            (ap (λ (x : Region). x.new) u.2 ∙ n ∙ ap (λ (x : Region). x.new) (sym v.2))
            (ap (λ (x : Region). x.devices) u.2 ∙ d ∙ ap (λ (x : Region). x.devices) (sym v.2));
      }

-- ---- the table grows
pub region_counts_kept : (f g : Functions) (s : ℕ) (h : Header) → Keeps f g → (rs : List Region) → ((r : Region) → Contains rs r → r.headers < count_of f) → count_by (in_region g s h) rs ≡ count_by (in_region f s h) rs
region_counts_kept f g s h k [] b = refl
region_counts_kept f g s h k (r ∷ rs) b =
    let e = k.value r.headers (b r (here r rs)) (number h) in
    let n = region_counts_kept f g s h k rs (λ x c. b x (there r x rs c)) in
    split_count (in_region g s h) (r ∷ []) rs ∙ ((λ i. (0 + cond (r.slot == s && is_some (e i)) 1 0) + n i) ∙ sym (split_count (in_region f s h) (r ∷ []) rs))

was_more : (f : Functions) (bs all : List Region) (h : Header) (r : Region) → ((q : Region) → Contains bs q → Contains all q) → WasIn f bs h r → WasIn f all h r
was_more f bs all h r m o = record { region = o.region; among = m o.region o.among; inside = o.inside; slot = o.slot; old = o.old }

pub again_nothing : (w : World) (t : ℕ) (ingress : List Place) (f g : Functions) → AreAgain w t ingress f [] g []
again_nothing w t ingress f g =
    record {
      below = λ r c. absurd (in_none r c);
      placed = λ r c. absurd (in_none r c);
      some = λ r c. absurd (in_none r c);
      one = λ s h v. refl;
      was = λ r p h c e v i. absurd (in_none r c);
    }

ones_cond : (o : Option ℕ) → ones o ≡ 0 + cond (is_some o) 1 0
ones_cond None = refl
ones_cond (Some v) = refl

-- one region more is walked again
module _ (w : World) (t : ℕ) (ingress : List Place) (f e g : Functions) (bs as' more : List Region) (q : Region)
    (kf : Keeps f e) (kg : Keeps e g) (placed : q.slot < length ingress) (lq : q.headers < count_of f)
    (before : AreAgain w t ingress f bs e as')
    (own : AreRegionsOf w t ingress q.slot (Some q.old) g q.headers more) where
  own_count : (s : ℕ) (h : Header) → IsHeader h → count_by (in_region g s h) more ≡ count_by (in_region f s h) (q ∷ [])
  own_count s h v = elim (cases_Bool (q.slot == s)) [
    | inl y ↦ (
        let same : q.slot ≡ s = grind (arith, nat_tests, y) in
        let n : count_by (in_region g s h) more ≡ ones (value_at g q.headers (number h)) = subst (λ z. count_by (in_region g z h) more ≡ ones (value_at g q.headers (number h))) same (own.one h v) in
        n ∙ (ap ones (kg.value q.headers (kept_below f e q.headers kf lq) (number h) ∙ kf.value q.headers lq (number h))
        ∙ (ones_cond (value_at f q.headers (number h)) ∙ ap (λ b. 0 + cond (b && has_header f q.headers h) 1 0) (sym y))))
    | inr n ↦ (
        let differs : s ≡ q.slot → ⊥ = λ d. (let t' : (q.slot == s) ≡ true = eq-eqb q.slot s (sym d) in let both : false ≡ true = sym n ∙ t' in absurd cc) in
        own.other s h differs ∙ ap (λ b. 0 + cond (b && has_header f q.headers h) 1 0) (sym n))
  ]

  pub again_more : AreAgain w t ingress f (bs ++ q ∷ []) g (as' ++ more)
  again_more =
      record {
        below = λ r c. elim (Contains-append_cases as' more r c) [ inl d ↦ kept_below e g r.headers kg (before.below r d) | inr d ↦ own.below r d ];
        placed = λ r c. elim (Contains-append_cases as' more r c) [ inl d ↦ before.placed r d | inr d ↦ subst (λ n. n < length ingress) (sym (own.slot_is r d)) placed ];
        some = λ r c. elim (Contains-append_cases as' more r c) [ inl d ↦ filled_kept e g r.headers kg (before.below r d) (before.some r d) | inr d ↦ own.some r d ];
        one = λ s h v.
            let a = region_counts_kept e g s h kg as' before.below ∙ before.one s h v in
            let b = own_count s h v in
            split_count (in_region g s h) as' more ∙ ((λ i. a i + b i) ∙ sym (split_count (in_region f s h) bs (q ∷ [])));
        was = λ r p h c at v i. elim (Contains-append_cases as' more r c) [
          | inl d ↦ (
              let o = before.was r p h d at v ((kept_set e g r.headers h kg (before.below r d)).0 i) in
              (was_more f bs (bs ++ q ∷ []) h r (Contains-append_left bs (q ∷ [])) o.0, o.1))
          | inr d ↦ (
              let o = own.right r p h d (subst (λ n. slice_get ingress n ≡ Some p) (own.slot_is r d) at) v i in
              let s = (kept_set f e q.headers h kf lq).0 ((kept_set e g q.headers h kg (kept_below f e q.headers kf lq)).0 o.0) in
              (record { region = q; among = Contains-append_right bs (q ∷ []) q (here q []); inside = s; slot = sym (own.slot_is r d); old = sym (own.old_is r d) }, o.1))
        ];
      }

-- ---- by a list of regions
pub at_default : {X : Type 0} (xs : List X) (i : ℕ) (d : X) → i < length xs → slice_get xs i ≡ Some (get_or xs i d)
at_default [] i d l = absurd (omega (arith, l))
at_default (x ∷ xs) zero d l = refl
at_default (x ∷ xs) (suc i) d l = at_default xs i d (omega (arith, l))

pub step_kept : (d : ℕ) (rs : List Region) (i : ℕ) (r : Region) → i < length rs → r ≡ get_or rs i r → stays d r ≡ true → filter (leaves d) (take (i + 1) rs) ≡ filter (leaves d) (take i rs)
step_kept d rs i r l e s =
    let same : leaves d (get_or rs i r) ≡ false = ap (leaves d) (sym e) ∙ ap not s in
    filter_more (leaves d) rs i r l ∙ (ap (λ b. filter (leaves d) (take i rs) ++ cond b (get_or rs i r ∷ []) []) same ∙ append-nil (filter (leaves d) (take i rs)))

pub step_left : (d : ℕ) (rs : List Region) (i : ℕ) (r : Region) → i < length rs → r ≡ get_or rs i r → stays d r ≡ false → filter (leaves d) (take (i + 1) rs) ≡ filter (leaves d) (take i rs) ++ r ∷ []
step_left d rs i r l e s =
    let same : leaves d (get_or rs i r) ≡ true = ap (leaves d) (sym e) ∙ ap not s in
    filter_more (leaves d) rs i r l ∙ (ap (λ b. filter (leaves d) (take i rs) ++ cond b (get_or rs i r ∷ []) []) same ∙ ap (λ z. filter (leaves d) (take i rs) ++ z ∷ []) (sym e))

pub adds_more : (walk : Walk) (walking : Walking) (f e g : Functions) (bs before middle after : List Region) (q : Region) → Keeps f e → Keeps e g → q.slot < length walk.ingress.now → q.headers < count_of f → walking.slot ≡ q.slot → walking.headers ≡ q.headers → option_copied walking.old ≡ Some q.old → AddsAgain (world_of walk.net.now.world) walk.ttl walk.ingress.now f bs e before middle → AddsRegions walk walking g middle after → AddsAgain (world_of walk.net.now.world) walk.ttl walk.ingress.now f (bs ++ q ∷ []) g before after
adds_more walk walking f e g bs before middle after q kf kg pl lq es eh eo a b =
    record {
      more = a.more ++ b.more;
      added = b.added ∙ (ap (λ xs. xs ++ b.more) a.added ∙ append_assoc before a.more b.more);
      are = again_more (world_of walk.net.now.world) walk.ttl walk.ingress.now f e g bs a.more b.more q kf kg pl lq a.are
          (subst (λ n. AreRegionsOf (world_of walk.net.now.world) walk.ttl walk.ingress.now q.slot (Some q.old) g n b.more) eh
          (subst (λ o. AreRegionsOf (world_of walk.net.now.world) walk.ttl walk.ingress.now q.slot o g walking.headers b.more) eo
          (subst (λ n. AreRegionsOf (world_of walk.net.now.world) walk.ttl walk.ingress.now n (option_copied walking.old) g walking.headers b.more) es b.are)));
    }

pub walk_kept : (f g : Functions) (walk : Walk) → Keeps f g → IsWalkIn f walk → IsWalkIn g walk
walk_kept f g walk k a = record { net = net_kept f g walk.net.now k a.net; all = λ h. (kept_set f g walk.net.now.scope h k a.net.below).1 (a.all h); least = a.least }
