-- Bounds of what loops: a header that enters a loop goes on to where it enters one too.
use Rattle.std.proofs.Common.{ℕ, zero, suc, ◌≡◌, ◌≤◌, ◌<◌, ◌+◌, ◌⊎◌, inl, inr, List, [], ◌∷◌, ◌++◌, Option, Some, None, take, length, replicate, get_or, slice_get, slice_set, refl, sym, ap, subst, ◌∙◌, arith}
use Rattle.std.specs.Prelude.{Contains, IsSome, option_and_then}
use Rattle.std.proofs.lemmas.Bool.{cases_eq}
use Rattle.std.proofs.lemmas.List.{take_more}
use Rattle.std.proofs.lemmas.List.Elements.{All-head, All-tail, All-weaker, Contains-append_cases}
use Rattle.indexmap.specs.IndexMap.{get}
use Rattle.hdr_bits.specs.declared.header.Header.{Header}
use Rattle.hdr_bits.specs.HeaderBits.{number, IsHeader}
use Rattle.cube_diagram.specs.Functions.{Functions, Keeps, count_of, value_at}
use Rattle.net_types.specs.declared.network.Move.TheVariants.{Drop, Go}
use Rattle.net_types.specs.declared.network.Place.{Place}
use Rattle.net_types.specs.declared.network.State.{State}
use Rattle.net_types.specs.World.{World, same_place}
use Rattle.net_types.specs.Moves.{moves}
use Rattle.net_types.specs.Walks.{IsWalk, state_at}
use Rattle.net_types.specs.Questions.{Loops}
use Rattle.net_types.proofs.Members.{in_one}
use Rattle.net_view.specs.Borrowed.{world_of}
use Rattle.set_walk.specs.declared.net.Net.{Net}
use Rattle.set_walk.specs.declared.net.PlaceWays.{PlaceWays}
use Rattle.set_walk.specs.declared.step.Step.{Step}
use Rattle.set_walk.specs.declared.step.Way.{Way}
use Rattle.set_walk.specs.Nets.{ways_at}
use Rattle.set_walk.specs.Sets.{InSet, IsSetOf}
use Rattle.set_walk.proofs.SetLemmas.{kept_set, kept_below}
use Rattle.loop_search.specs.Bounds.{AreInTable, AreBounds, EntersLoop, IsInAt}
use Rattle.loop_search.specs.Looping.{ByWay, LeadsTo}
use Rattle.loop_search.specs.WholeNets.{IsWholeNet}
use Rattle.loop_search.proofs.LoopLemmas.{leads_to}
use Rattle.loop_search.proofs.Positions.{set_same, set_other}

some_one : {A : Type 0} {x y : A} → Some x ≡ Some y → x ≡ y
some_one e = cc

-- ---- walks from their first move on

-- a move leads to a state from which this holds
MovesTo : World → (State → Type 0) → State → Type 0
MovesTo w P s = (u : State) × Contains (moves w s.place s.header) (Go u.place u.header) × P u

first_move : (w : World) (n : ℕ) (s u : State) → IsWalk w (suc n) s u → MovesTo w (λ v. IsWalk w n v u) s
unfolding MovesTo
first_move w zero s u k = (u, subst (λ (x : State). Contains (moves w x.place x.header) (Go u.place u.header)) (sym k.1) k.2, refl)
first_move w (suc n) s u k = let i = first_move w n s k.0 k.1 in (i.0, i.1, (k.0, i.2, k.2))

enters_by : (w : World) (b a : ℕ) (s v : State) → 1 ≤ a → IsWalk w b s v → IsWalk w a v v → MovesTo w (EntersLoop w) s
unfolding MovesTo
enters_by w zero zero s v one b r = absurd (omega (arith, one))
enters_by w zero (suc n) s v one b r =
    let f = first_move w n v v r in
    (f.0, subst (λ (x : State). Contains (moves w x.place x.header) (Go f.0.place f.0.header)) (sym b) f.1, record { before = n; around = suc n; moves = one; state = v; comes = f.2; again = r })
enters_by w (suc n) a s v one b r =
    let f = first_move w n s v b in
    (f.0, f.1, record { before = n; around = a; moves = one; state = v; comes = f.2; again = r })

enters : (w : World) (s : State) → EntersLoop w s → MovesTo w (EntersLoop w) s
enters w s e = enters_by w e.before e.around s e.state e.moves e.comes e.again

-- a header that loops under a TTL enters a loop
loop_entered : (w : World) (t : ℕ) (p : Place) (h : Header) → Loops w t p h → EntersLoop w (state_at p h)
loop_entered w t p h l = record { before = l.before; around = l.around; moves = l.moves; state = l.state; comes = l.comes; again = l.again }

-- ---- at the places of a network

-- it goes on by one of the place's ways
by_way : (f : Functions) (net : Net) (p : Place) (v : PlaceWays) (h : Header) → IsWholeNet f net → ways_at net p ≡ Some v → IsHeader h → EntersLoop (world_of net.world) (state_at p h) → ByWay f v.ways.items (LeadsTo (EntersLoop (world_of net.world))) h
unfolding MovesTo
by_way f net p v h a e fits r =
    let w = world_of net.world in
    let u = enters w (state_at p h) r in
    let m = ((a.ways.right p v e).exact h fits (a.all h) (Go u.0.place u.0.header)).0 u.1 in
    record { way = m.way; among = m.among; inside = m.inside; holds = leads_to (EntersLoop w) h m.way.step u.0 m.made u.2 }

-- where a place has no ways, nothing enters a loop
no_way : (f : Functions) (net : Net) (p : Place) (h : Header) → IsWholeNet f net → ways_at net p ≡ None → IsHeader h → EntersLoop (world_of net.world) (state_at p h) → ⊥
unfolding MovesTo
no_way f net p h a e fits r =
    let u = enters (world_of net.world) (state_at p h) r in
    let d : Drop ≡ Go u.0.place u.0.header = (a.ways.missing p e h fits (a.all h) (Go u.0.place u.0.header)).0 u.1 in
    cc

-- ---- bounds

pub below_kept : (f g : Functions) (sets : List ℕ) → Keeps f g → AreInTable f sets → AreInTable g sets
below_kept f g sets k a = All-weaker (λ n. n < count_of f) (λ n. n < count_of g) (λ n l. kept_below f g n k l) sets a

below_at : (f : Functions) (sets : List ℕ) (o : Option ℕ) (n : ℕ) → AreInTable f sets → option_and_then (slice_get sets) o ≡ Some n → n < count_of f
below_at f sets None n a e = absurd cc
below_at f sets (Some i) n a e = at sets i n a e
  where
    at : (sets : List ℕ) (i n : ℕ) → AreInTable f sets → slice_get sets i ≡ Some n → n < count_of f
    at [] i n a e = absurd cc
    at (x ∷ xs) zero n a e = subst (λ m. m < count_of f) (some_one e) (All-head (λ m. m < count_of f) x xs a)
    at (x ∷ xs) (suc i) n a e = at xs i n (All-tail (λ m. m < count_of f) x xs a) e

pub bounds_kept : (f g : Functions) (net : Net) (sets : List ℕ) → Keeps f g → AreInTable f sets → AreBounds f net sets → AreBounds g net sets
bounds_kept f g net sets k below a p h fits r =
    let i = a p h fits r in
    record { set = i.set; there = i.there; inside = (kept_set f g i.set h k (below_at f sets (get same_place net.places.now p) i.set below i.there)).1 i.inside }

-- all headers
pub all_bounds : (f : Functions) (net : Net) (sets : List ℕ) (all : ℕ) → IsWholeNet f net → ((n : ℕ) → value_at f all n ≡ Some 1) → sets ≡ replicate (length net.lists.now) all → AreBounds f net sets
all_bounds f net sets all a every e p h fits r = at (get same_place net.places.now p) refl
  where
    replicated : (c i : ℕ) (v : PlaceWays) (ls : List PlaceWays) → c ≡ length ls → slice_get ls i ≡ Some v → slice_get (replicate c all) i ≡ Some all
    replicated c i v [] e q = absurd cc
    replicated zero i v (x ∷ ls) e q = absurd (omega (arith, e))
    replicated (suc c) zero v (x ∷ ls) e q = refl
    replicated (suc c) (suc i) v (x ∷ ls) e q = replicated c i v ls (omega (arith, e)) q

    within : (i : ℕ) (o : Option PlaceWays) → slice_get net.lists.now i ≡ o → get same_place net.places.now p ≡ Some i → IsInAt f sets (Some i) h
    within i None q g = absurd (no_way f net p h a (ap (option_and_then (slice_get net.lists.now)) g ∙ q) fits r)
    within i (Some v) q g = record {
      set = all;
      there = ap (λ ss. slice_get ss i) e ∙ replicated (length net.lists.now) i v net.lists.now refl q;
      inside = subst (λ o. IsSome o) (sym (every (number h))) refl;
    }

    at : (o : Option ℕ) → get same_place net.places.now p ≡ o → IsInAt f sets (get same_place net.places.now p) h
    at None g = absurd (no_way f net p h a (ap (option_and_then (slice_get net.lists.now)) g) fits r)
    at (Some i) g = subst (λ o. IsInAt f sets o h) (sym g) (within i (slice_get net.lists.now i) refl g)

-- ---- one more way
pub one_more : (f k : Functions) (Q : Step → Header → Type 0) (ways : List Way) (i : ℕ) (x : Way) (h : Header) (old : ℕ) → i < length ways → x ≡ get_or ways i x → Keeps f k → x.headers < count_of f
    → (ByWay f (take i ways) Q h → InSet k old h) → ByWay f (take (i + 1) ways) Q h → InSet k old h ⊎ (InSet k x.headers h × Q x.step h)
one_more f k Q ways i x h old l e kept below before y =
    let all : take (i + 1) ways ≡ take i ways ++ x ∷ [] = take_more ways i x l ∙ ap (λ y. take i ways ++ y ∷ []) (sym e) in
    elim (Contains-append_cases (take i ways) (x ∷ []) y.way (subst (λ zs. Contains zs y.way) all y.among)) [
      | inl c ↦ inl (before (record { way = y.way; among = c; inside = y.inside; holds = y.holds }))
      | inr c ↦
          let same = in_one x y.way c in
          inr ((kept_set f k x.headers h kept below).1 (subst (λ (z : Way). InSet f z.headers h) (sym same) y.inside), subst (λ (z : Way). Q z.step h) (sym same) y.holds)
    ]

-- ---- a bound that is narrowed
pub narrowed : (t0 t1 : Functions) (net : Net) (bounds : List ℕ) (p : Place) (i set : ℕ) (v : PlaceWays) → Keeps t0 t1 → IsWholeNet t0 net → AreInTable t0 bounds → i < length bounds → get same_place net.places.now p ≡ Some i → slice_get net.lists.now i ≡ Some v
    → (AreBounds t0 net bounds → (h : Header) → IsHeader h → ByWay t0 v.ways.items (LeadsTo (EntersLoop (world_of net.world))) h → InSet t1 set h)
    → AreBounds t0 net bounds → AreBounds t1 net (slice_set bounds i set)
narrowed t0 t1 net bounds p i set v k whole below l here list stay a q h fits r = at (get same_place net.places.now q) refl
  where
    at : (o : Option ℕ) → get same_place net.places.now q ≡ o → IsInAt t1 (slice_set bounds i set) (get same_place net.places.now q) h
    at None g = absurd (no_way t0 net q h whole (ap (option_and_then (slice_get net.lists.now)) g) fits r)
    at (Some j) g = subst (λ o. IsInAt t1 (slice_set bounds i set) o h) (sym g) (elim (cases_eq i j) [
      | inl e ↦ record {
        set = set;
        there = subst (λ n. slice_get (slice_set bounds i set) n ≡ Some set) e (set_same bounds i set l);
        inside = stay a h fits (by_way t0 net q v h whole (ap (option_and_then (slice_get net.lists.now)) g ∙ subst (λ n. slice_get net.lists.now n ≡ Some v) e list) fits r);
      }
      | inr n ↦
          let b = bounds_kept t0 t1 net bounds k below a q h fits r in
          record { set = b.set; there = set_other bounds i j set n ∙ subst (λ o. option_and_then (slice_get bounds) o ≡ Some b.set) g b.there; inside = b.inside }
    ])

-- ---- a question's headers that loop

-- they are among those within the bound of its place
pub bounded_loops : (f0 f1 f2 f3 : Functions) (net : Net) (bounds : List ℕ) (q : Place) (t filter bound domain set : ℕ) (F : Header → Type 0) → Keeps f0 f1 → AreInTable f0 bounds → AreBounds f0 net bounds
    → option_and_then (slice_get bounds) (get same_place net.places.now q) ≡ Some bound
    → IsSetOf f1 filter F
    → IsSetOf f2 domain (λ h. InSet f1 filter h × InSet f1 bound h)
    → IsSetOf f3 set (λ h. InSet f2 domain h × Loops (world_of net.world) t q h)
    → IsSetOf f3 set (λ h. F h × Loops (world_of net.world) t q h)
bounded_loops f0 f1 f2 f3 net bounds q t filter bound domain set F k below a at fl d s h v = (
  λ i. let x = (s h v).0 i in ((fl h v).0 ((d h v).0 x.0).0, x.1),
  λ x.
      let b = a q h v (loop_entered (world_of net.world) t q h x.1) in
      let one : b.set ≡ bound = some_one (sym b.there ∙ at) in
      let low : bound < count_of f0 = below_at f0 bounds (get same_place net.places.now q) bound below at in
      (s h v).1 ((d h v).1 ((fl h v).1 x.0, (kept_set f0 f1 bound h k low).1 (subst (λ n. InSet f0 n h) one b.inside)), x.1),
)
