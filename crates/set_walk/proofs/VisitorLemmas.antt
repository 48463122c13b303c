-- Devices that headers visit, and how groups arrive at them.
use Rattle.std.proofs.Common.{ℕ, zero, suc, ◌≡◌, ◌≤◌, ◌<◌, ◌+◌, ◌⊎◌, ◌↔◌, inl, inr, List, [], ◌∷◌, Some, length, refl, ap, sym, ◌∙◌, subst, arith}
use Rattle.std.proofs.Math.Numerals.{add-one}
use Rattle.std.proofs.Math.Nat.{eq-or-lt_of_le}
use Rattle.std.specs.Prelude.{Contains}
use Rattle.net_types.proofs.Members.{in_none}
use Rattle.net_types.proofs.Walking.{walk_from_states, states_from_walk}
use Rattle.hdr_bits.specs.declared.header.Header.{Header}
use Rattle.cube_alg.specs.Stamps.{applied}
use Rattle.cube_diagram.specs.Functions.{Functions, Keeps, count_of}
use Rattle.net_types.specs.declared.network.Move.{Move}
use Rattle.net_types.specs.declared.network.Move.TheVariants.{Drop, Local, Lost, Exit, Go}
use Rattle.net_types.specs.declared.network.Place.{Place}
use Rattle.net_types.specs.declared.network.State.{State}
use Rattle.net_types.specs.World.{World}
use Rattle.net_types.specs.Visits.{Visits}
use Rattle.net_types.specs.Walks.{states_after, state_at}
use Rattle.set_walk.specs.declared.step.Step.{Step}
use Rattle.set_walk.specs.declared.step.Step.TheVariants as step
use Rattle.set_walk.specs.declared.step.Way.{Way}
use Rattle.set_walk.specs.declared.circles.Mark.{Mark}
use Rattle.set_walk.specs.declared.visits.DeviceVisitors.{DeviceVisitors}
use Rattle.set_walk.specs.Sets.{InSet}
use Rattle.set_walk.specs.Ways.{HasMove, move_of}
use Rattle.set_walk.specs.Levels.{IsLevel}
use Rattle.set_walk.specs.Visits.{HasVisitor, AddsVisitors, ArrivesBy, AreVisitors, device_of_step}
use Rattle.set_walk.proofs.SetLemmas.{kept_below}
use Rattle.set_walk.proofs.KeyedLemmas.{HasByItems, DoneBy, all_kept, has_kept}
use Rattle.set_walk.proofs.ToldLemmas.{move_none, move_one}
use Rattle.set_walk.specs.Circles.{AllSame, IsRound}
use Rattle.set_walk.proofs.WalkLemmas.{no_state}
use Rattle.set_walk.proofs.CircleLemmas.{fewer_states, levels_same}

-- headers are in the sets of the devices
pub by_visitors : HasByItems (λ h (x : DeviceVisitors). x.device) (λ (x : DeviceVisitors). x.headers) (λ f (x : DeviceVisitors). x.headers < count_of f) HasVisitor
by_visitors = record {
  from = λ f xs h d y. (y.of, y.among, (y.inside, y.is));
  to = λ f xs h d x c z. record { of = x; among = c; inside = z.0; is = z.1 };
  below = λ f x l. l;
  kept = λ f g x k l. kept_below f g x.headers k l;
}

-- ---- the device of a step
go_device : (h : Header) (m : Step) (u : State) → move_of h m ≡ Go u.place u.header → device_of_step m ≡ Some u.place.device
go_device h step.Drop u e = absurd cc
go_device h (step.Local p) u e = absurd cc
go_device h step.Lost u e = absurd cc
go_device h (step.Exit p s) u e = absurd cc
go_device h (step.Go p s) u e = ap (λ m. Some (device_or m)) e
  where
    device_or : Move → ℕ
    device_or (Go q g) = q.device
    device_or Drop = 0
    device_or Lost = 0
    device_or (Local q) = 0
    device_or (Exit q g) = 0

goes_to : (h : Header) (m : Step) (d : ℕ) → device_of_step m ≡ Some d → (u : State) × (move_of h m ≡ Go u.place u.header) × (u.place.device ≡ d)
goes_to h step.Drop d e = absurd cc
goes_to h (step.Local p) d e = absurd cc
goes_to h step.Lost d e = absurd cc
goes_to h (step.Exit p s) d e = absurd cc
goes_to h (step.Go p s) d e = (record { place = p; header = applied s h }, refl, cc)

pub one_visitor : (f : Functions) (x : Way) (h : Header) (d : ℕ) → ArrivesBy f (x ∷ []) h d ↔ (InSet f x.headers h × (device_of_step x.step ≡ Some d))
one_visitor f x h d = (
  λ a. let y = (move_one f x h (Go a.state.place a.state.header)).0 a.at in (y.0, go_device h x.step a.state y.1 ∙ ap Some a.there),
  λ a.
      let g = goes_to h x.step d a.1 in
      record { state = g.0; at = (move_one f x h (Go g.0.place g.0.header)).1 (a.0, g.1); there = g.2 },
)

-- where their moves arrive
pub arriving : DoneBy HasMove (λ (u : State). Go u.place u.header) (λ h u d. u.place.device ≡ d) ArrivesBy
arriving = record {
  from = λ f xs h d a. (a.state, a.at, a.there);
  to = λ f xs h d u c e. record { state = u; at = c; there = e };
}

-- ---- from one number of moves to the next
pub visitors_first : (w : World) (start : Functions) (domain : ℕ) (p : Place) → AreVisitors w start domain p 0 start []
visitors_first w start domain p =
    record {
      below = λ x c. absurd (in_none x c);
      exact = λ h v d. (λ x. absurd (in_none x.of x.among), λ x. let l = x.1.within in absurd (omega (arith, l)));
    }

visits_suc : (w : World) (n : ℕ) (p : Place) (h : Header) (d : ℕ) → Visits w (suc n) p h d → Visits w n p h d ⊎ ((u : State) × Contains (states_after w n (state_at p h)) u × (u.place.device ≡ d))
visits_suc w n p h d x =
    let l = x.within in
    elim (eq-or-lt_of_le (le_of x.count n l)) [
      | inl e ↦ inr (x.state, subst (λ k. Contains (states_after w k (state_at p h)) x.state) e (states_from_walk w x.count (state_at p h) x.state x.walk), x.there)
      | inr b ↦ inl (record { count = x.count; within = b; state = x.state; walk = x.walk; there = x.there })
    ]
  where
    le_of : (c n : ℕ) → c < suc n → c ≤ n
    le_of c n l = omega (arith, l)

pub visitors_next : (w : World) (start f g : Functions) (domain : ℕ) (p : Place) (n : ℕ) (groups : List Way) (a b : List DeviceVisitors) → AreVisitors w start domain p n f a → IsLevel w start domain p n f groups → AddsVisitors f g (ArrivesBy f groups) a b → AreVisitors w start domain p (n + 1) g b
visitors_next w start f g domain p n groups a b old level add =
    rw add-one (record {
      below = add.told;
      exact = λ h v d. (
        λ x. elim ((add.exact h v d).0 x) [
          | inl y ↦
              let z = (old.exact h v d).0 y in
              let l = z.1.within in
              (z.0, record { count = z.1.count; within = omega (arith, l); state = z.1.state; walk = z.1.walk; there = z.1.there })
          | inr y ↦
              let z = (level.exact h v y.state).0 y.at in
              (z.0, record { count = n; within = omega arith; state = y.state; walk = walk_from_states w n (state_at p h) y.state z.1; there = y.there })
        ],
        λ x. elim (visits_suc w n p h d x.1) [
          | inl y ↦ (add.exact h v d).1 (inl ((old.exact h v d).1 (x.0, y)))
          | inr y ↦ (add.exact h v d).1 (inr (record { state = y.0; at = (level.exact h v y.0).1 (x.0, y.1); there = y.2 }))
        ],
      );
    })

-- the table grows
pub visitors_grown : (w : World) (start f g : Functions) (domain : ℕ) (p : Place) (n : ℕ) (a : List DeviceVisitors) → Keeps f g → AreVisitors w start domain p n f a → AreVisitors w start domain p n g a
visitors_grown w start f g domain p n a k all =
    record {
      below = all_kept by_visitors f g a k all.below;
      exact = λ h v d. let q = has_kept by_visitors f g a h d k all.below in (λ x. (all.exact h v d).0 (q.0 x), λ x. q.1 ((all.exact h v d).1 x));
    }

-- no group is left before the last move
pub visitors_early : (w : World) (start f : Functions) (domain : ℕ) (p : Place) (t n : ℕ) (groups : List Way) (a : List DeviceVisitors) → n ≤ t → length groups ≡ 0 → IsLevel w start domain p n f groups → AreVisitors w start domain p n f a → AreVisitors w start domain p t f a
visitors_early w start f domain p t n groups a l empty level all =
    record {
      below = all.below;
      exact = λ h v d. (
        λ x. let z = (all.exact h v d).0 x in let b = z.1.within in (z.0, record { count = z.1.count; within = omega (arith, b, l); state = z.1.state; walk = z.1.walk; there = z.1.there }),
        λ x.
            let s = state_at p h in
            let none : (u : State) → Contains (states_after w n s) u → ⊥ = λ u c. no_way groups empty h u ((level.exact h v u).1 (x.0, c)) in
            let y = x.1 in
            (all.exact h v d).1 (
              x.0,
              elim (before_or_not y.count n) [
                | inl b ↦ record { count = y.count; within = b; state = y.state; walk = y.walk; there = y.there }
                | inr b ↦ absurd (no_state w s n y.count b none y.state (states_from_walk w y.count s y.state y.walk))
              ],
            ),
      );
    }
  where
    no_way : (gs : List Way) → length gs ≡ 0 → (h : Header) (u : State) → HasMove f gs h (Go u.place u.header) → ⊥
    no_way [] e h u m = move_none f h (Go u.place u.header) m
    no_way (x ∷ gs) e h u m = absurd (omega (arith, e))

    before_or_not : (c n : ℕ) → (c < n) ⊎ (n ≤ c)
    before_or_not c zero = inr (omega arith)
    before_or_not zero (suc n) = inl (omega arith)
    before_or_not (suc c) (suc n) = elim (before_or_not c n) [ inl a ↦ inl (omega (arith, a)) | inr a ↦ inr (omega (arith, a)) ]

-- whole rounds lead to no further device
visitors_on : (w : World) (start f : Functions) (domain : ℕ) (p : Place) (m n x : ℕ) (a : List DeviceVisitors) → m < n → n ≤ x → AllSame w start domain p m n → AreVisitors w start domain p n f a → AreVisitors w start domain p x f a
visitors_on w start f domain p m n x a l b same all =
    record {
      below = all.below;
      exact = λ h v d. (
        λ i. let z = (all.exact h v d).0 i in let r = z.1.within in (z.0, record { count = z.1.count; within = omega (arith, r, b); state = z.1.state; walk = z.1.walk; there = z.1.there }),
        λ i.
            let s = state_at p h in
            let y = i.1 in
            let k = fewer_states w s n m y.count y.count l (same h v i.0) (omega arith) y.state (states_from_walk w y.count s y.state y.walk) in
            (all.exact h v d).1 (i.0, record { count = k.0; within = k.1; state = y.state; walk = walk_from_states w k.0 s y.state k.2; there = y.there }),
      );
    }

pub visitors_onward : (w : World) (start f : Functions) (domain : ℕ) (p : Place) (t n x : ℕ) (mark : Mark) (groups : List Way) (a : List DeviceVisitors) → mark.moves < n → n ≤ x → (x ≡ n) ⊎ IsRound mark n groups t x → IsLevel w start domain p mark.moves f mark.groups.items → IsLevel w start domain p n f groups → AreVisitors w start domain p n f a → AreVisitors w start domain p x f a
visitors_onward w start f domain p t n x mark groups a l b r marked level all = elim r [
  | inl e ↦ subst (λ k. AreVisitors w start domain p k f a) (sym e) all
  | inr r ↦ visitors_on w start f domain p mark.moves n x a l b (levels_same w start f domain p mark.moves n groups (subst (λ gs. IsLevel w start domain p mark.moves f gs) r.same marked) level) all
]
