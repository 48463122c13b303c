-- The headers that loop: from levels to loops.
use Rattle.std.proofs.Common.{ℕ, zero, suc, ◌≡◌, ◌≤◌, ◌<◌, ◌+◌, ◌-◌, ◌⊎◌, ◌↔◌, inl, inr, List, [], ◌∷◌, ◌++◌, Option, Some, None, length, slice_get, refl, sym, ap, subst, ◌∙◌, arith}
use Rattle.std.specs.Prelude.{IsNone, Contains}
use Rattle.std.specs.Option.{unwrap_or}
use Rattle.std.proofs.lemmas.Bool.{cases_lt}
use Rattle.std.proofs.lemmas.Bool.Decides.{nat_tests}
use Rattle.hdr_bits.specs.declared.header.Header.{Header}
use Rattle.hdr_bits.specs.HeaderBits.{number, IsHeader}
use Rattle.hdr_bits.specs.declared.cube.Cube.{Cube}
use Rattle.hdr_bits.specs.CubeBits.{AgreesAt, IsIn, IsStar, digit_at}
use Rattle.cube_alg.specs.declared.stamp.Stamp.{Stamp}
use Rattle.cube_alg.specs.Stamps.{applied, unless_same, changed_fields, IsMadeFrom}
use Rattle.cube_diagram.specs.Entries.{cubes_value}
use Rattle.hdr_bits.proofs.Numbers.{number-below}
use Rattle.cube_diagram.specs.Functions.{Functions, GivesNothing, Keeps, count_of, value_at}
use Rattle.net_types.specs.declared.network.Move.{Move}
use Rattle.net_types.specs.declared.network.Move.TheVariants.{Drop, Local, Lost, Exit, Go}
use Rattle.net_types.specs.declared.network.Place.{Place}
use Rattle.net_types.specs.declared.network.State.{State}
use Rattle.net_types.specs.World.{World}
use Rattle.net_types.specs.Walks.{IsWalk, states_after, state_at}
use Rattle.net_types.proofs.Walking.{walk_from_states, states_from_walk}
use Rattle.set_walk.specs.declared.step.Step.{Step}
use Rattle.set_walk.specs.declared.step.Step.TheVariants as step
use Rattle.set_walk.specs.declared.step.Way.{Way}
use Rattle.set_walk.specs.Sets.{InSet, IsSetOf}
use Rattle.set_walk.specs.Ways.{IsStamp, OfStamp, move_of}
use Rattle.set_walk.specs.Told.{AreTold, IsNormal}
use Rattle.set_walk.specs.Levels.{IsAt, IsLevel}
use Rattle.set_walk.proofs.SetLemmas.{kept_set, keeps_same, in_or_not, cube_set, no_header}
use Rattle.set_walk.proofs.StampLemmas.{applied_fits}
use Rattle.set_walk.specs.Circles.{SameStates, AllSame}
use Rattle.set_walk.proofs.WalkLemmas.{level_kept}
use Rattle.set_walk.proofs.CircleLemmas.{same_on, level_on}
use Rattle.loop_search.specs.declared.search.Level.{Level}
use Rattle.net_types.specs.Questions.{Loops}
use Rattle.loop_search.specs.Looping.{AreLevels, ByWay, GoesOn, IsBack, LeadsTo, LoopsFrom, Returns, unchanged_at}
use Rattle.net_types.proofs.QuestionLaws.{walks_on}
use Rattle.loop_search.proofs.WayLemmas.{empty_set}
use Rattle.loop_search.proofs.WayLemmas.{got}

-- ---- the move of a group
module _ (h : Header) (p : Place) (g : Header) where
  place_or : Move → Place
  place_or (Go q x) = q
  place_or Drop = p
  place_or Lost = p
  place_or (Local q) = p
  place_or (Exit q x) = p

  header_or : Move → Header
  header_or (Go q x) = x
  header_or Drop = g
  header_or Lost = g
  header_or (Local q) = g
  header_or (Exit q x) = g

  same_place : (q : Place) (x : Header) → Go q x ≡ Go p g → q ≡ p
  unfolding place_or
  same_place q x e = ap place_or e

  same_header : (q : Place) (x : Header) → Go q x ≡ Go p g → x ≡ g
  unfolding header_or
  same_header q x e = ap header_or e

-- a step that leads to a state goes on
goes : (h : Header) (m : Step) (p : Place) (g : Header) → move_of h m ≡ Go p g → GoesOn m
goes h step.Drop p g e = cc
goes h (step.Local q) p g e = cc
goes h step.Lost p g e = cc
goes h (step.Exit q s) p g e = cc
goes h (step.Go q s) p g e = tt

pub group_there : (f : Functions) (groups : List Way) (h : Header) (u : State) → IsAt f groups h u → ByWay f groups (λ m _. GoesOn m) h
group_there f groups h u a = record { way = a.way; among = a.among; inside = a.inside; holds = goes h a.way.step u.place u.header a.made }

-- ---- a header that is at the place unchanged
unchanged_field : (o : Option ℕ) (x : ℕ) → unwrap_or o x ≡ x → unless_same o x ≡ None
unchanged_field None x e = refl
unchanged_field (Some v) x e = let same : v ≡ x = e in grind (arith, nat_tests, same)

unchanged_stamp : (s : Stamp) (h : Header) → IsNormal h s → applied s h ≡ h → s ≡ record { src = None; dst = None; sport = None; dport = None }
unchanged_stamp s h n e =
    let none : changed_fields s h ≡ record { src = None; dst = None; sport = None; dport = None } =
    λ i. record {
      src = unchanged_field s.src h.src (ap (λ (x : Header). x.src) e) i;
      dst = unchanged_field s.dst h.dst (ap (λ (x : Header). x.dst) e) i;
      sport = unchanged_field s.sport h.sport (ap (λ (x : Header). x.sport) e) i;
      dport = unchanged_field s.dport h.dport (ap (λ (x : Header). x.dport) e) i;
    } in
    sym n ∙ none

unchanged_step : (h : Header) (p : Place) (m : Step) → OfStamp (IsNormal h) m → move_of h m ≡ Go p h → m ≡ unchanged_at p
unchanged_step h p step.Drop n e = cc
unchanged_step h p (step.Local q) n e = cc
unchanged_step h p step.Lost n e = cc
unchanged_step h p (step.Exit q s) n e = cc
unchanged_step h p (step.Go q s) n e =
    let a = same_place h p h q (applied s h) e in
    let b = unchanged_stamp s h n (same_header h p h q (applied s h) e) in
    λ i. step.Go (a i) (b i)

pub unchanged_there : (f : Functions) (groups : List Way) (p : Place) (h : Header) → IsHeader h → AreTold f groups → ByWay f groups (λ m _. m ≡ unchanged_at p) h ↔ IsAt f groups h (state_at p h)
unchanged_there f groups p h v t = (
  λ b. record { way = b.way; among = b.among; inside = b.inside; made = ap (move_of h) b.holds },
  λ a. record { way = a.way; among = a.among; inside = a.inside; holds = unchanged_step h p a.way.step ((t a.way a.among).normal h v a.inside) a.made },
)

-- ---- coming back
pub returns_none : (w : World) (u : State) → Returns w 0 u → ⊥
returns_none w u r = let a = r.moves in let b = r.within in omega (arith, a, b)

at_most : (n m : ℕ) → n ≤ m + 1 → (n ≡ m + 1) ⊎ (n ≤ m)
at_most n m l = elim (cases_lt n (m + 1)) [ inl a ↦ inr (omega (arith, a)) | inr b ↦ inl (omega (arith, l, b)) ]

pub returns_first : (w : World) (f g : Functions) (domain none : ℕ) (p : Place) → ((h : ℕ) → value_at g none h ≡ None) → IsSetOf g none (λ h. InSet f domain h × Returns w 0 (state_at p h))
returns_first w f g domain none p e h v = (λ i. absurd (empty_set g none e h i), λ x. absurd (returns_none w (state_at p h) x.1))

pub returns_next : (w : World) (f t0 t1 t2 : Functions) (domain : ℕ) (p : Place) (n : ℕ) (groups : List Way) (old new : ℕ) → Keeps t0 t1 → old < count_of t0 → IsLevel w f domain p (n + 1) t1 groups
    → IsSetOf t0 old (λ h. InSet f domain h × Returns w n (state_at p h))
    → IsSetOf t2 new (λ h. InSet t1 old h ⊎ ByWay t1 groups (λ m _. m ≡ unchanged_at p) h)
    → IsSetOf t2 new (λ h. InSet f domain h × Returns w (n + 1) (state_at p h))
returns_next w f t0 t1 t2 domain p n groups old new k b level s t h v =
    let there = unchanged_there t1 groups p h v level.told in
    let s0 = state_at p h in (
      λ i. elim ((t h v).0 i) [
        | inl a ↦
            let x = (s h v).0 ((kept_set t0 t1 old h k b).0 a) in
            let l = x.1.within in
            (x.0, record { around = x.1.around; moves = x.1.moves; within = omega (arith, l); again = x.1.again })
        | inr a ↦
            let x = (level.exact h v s0).0 (there.0 a) in
            (x.0, record { around = n + 1; moves = omega arith; within = omega arith; again = walk_from_states w (n + 1) s0 s0 x.1 })
      ],
      λ x. (t h v).1 (elim (at_most x.1.around n x.1.within) [
        | inl e ↦ inr (there.1 ((level.exact h v s0).1 (x.0, states_from_walk w (n + 1) s0 s0 (subst (λ m. IsWalk w m s0 s0) e x.1.again))))
        | inr l ↦ inl ((kept_set t0 t1 old h k b).1 ((s h v).1 (x.0, record { around = x.1.around; moves = x.1.moves; within = l; again = x.1.again })))
      ]),
    )

-- where the states after n moves are those after fewer, a walk that comes back may be a round shorter, until it has at most n
fewer_moves : (w : World) (s : State) (m n bound y : ℕ) → m < n → SameStates w s m n → y ≤ bound → 1 ≤ y → Contains (states_after w y s) s → Returns w n s
fewer_moves w s m n zero y l same b a c = absurd (omega (arith, b, a))
fewer_moves w s m n (suc bound) y l same b a c = elim (cases_lt n y) [
  | inr d ↦ record { around = y; moves = a; within = d; again = walk_from_states w y s s c }
  | inl d ↦
      let z = m + (y - n) in
      fewer_moves w s m n bound z l same (omega (arith, l, b, d)) (omega (arith, d)) ((same_on w s (y - n) m n z y refl (omega (arith, d)) same s).1 c)
]

-- so no further level has more headers that come back
pub returns_round : (w : World) (f g : Functions) (domain set : ℕ) (p : Place) (m n room : ℕ) → m < n → n ≤ room → AllSame w f domain p m n → IsSetOf g set (λ h. InSet f domain h × Returns w n (state_at p h)) → IsSetOf g set (λ h. InSet f domain h × Returns w room (state_at p h))
returns_round w f g domain set p m n room l r same e h v =
    let s = state_at p h in (
      λ i.
          let x = (e h v).0 i in
          let a = x.1.within in
          (x.0, record { around = x.1.around; moves = x.1.moves; within = omega (arith, a, r); again = x.1.again }),
      λ x.
          let y = x.1.around in
          (e h v).1 (x.0, fewer_moves w s m n y y l (same h v x.0) (omega arith) x.1.moves (states_from_walk w y s s x.1.again)),
    )

-- ---- levels
pub levels_none : (w : World) (start f : Functions) (domain : ℕ) (p : Place) → AreLevels w start domain p f []
levels_none w start f domain p n l e = absurd cc

pub levels_more : (w : World) (start f g : Functions) (domain : ℕ) (p : Place) (n : ℕ) (levels : List Level) (l : Level) → Keeps f g → length levels ≡ n → AreLevels w start domain p f levels → IsLevel w start domain p n f l.groups.items → AreLevels w start domain p g (levels ++ l ∷ [])
levels_more w start f g domain p n levels l k c all one i x e = elim (got levels l i x e) [
  | inl a ↦ level_kept w start f g domain p i x.groups.items k (all i x a)
  | inr b ↦
      let at : n ≡ i = sym c ∙ sym b.0 in
      subst (λ m. IsLevel w start domain p m g x.groups.items) at (subst (λ y. IsLevel w start domain p n g y.groups.items) b.1 (level_kept w start f g domain p n l.groups.items k one))
]

-- the level of a round later is the same
pub round_more : (w : World) (start f : Functions) (domain : ℕ) (p : Place) (count round n : ℕ) (levels : List Level) (x l : Level) → length levels ≡ n → count ≤ n → round ≤ count → AllSame w start domain p (count - round) count → slice_get levels (n - round) ≡ Some x → l.groups.items ≡ x.groups.items → AreLevels w start domain p f levels → AreLevels w start domain p f (levels ++ l ∷ [])
round_more w start f domain p count round n levels x l c b r same at e all =
    let again : AllSame w start domain p (n - round) n = λ h v i. same_on w (state_at p h) (n - count) (count - round) count (n - round) n (omega (arith, b, r)) (omega (arith, b)) (same h v i) in
    let one = level_on w start f domain p (n - round) n x.groups.items again (all (n - round) x at) in
    levels_more w start f f domain p n levels l (keeps_same f) c all (subst (λ gs. IsLevel w start domain p n f gs) (sym e) one)

pub levels_kept : (w : World) (start f g : Functions) (domain : ℕ) (p : Place) (levels : List Level) → Keeps f g → AreLevels w start domain p f levels → AreLevels w start domain p g levels
levels_kept w start f g domain p levels k all n l e = level_kept w start f g domain p n l.groups.items k (all n l e)

-- ---- loops, from the last level back
pub loops_late : (w : World) (t : ℕ) (p : Place) (h : Header) → LoopsFrom w t p t h → ⊥
loops_late w t p h l = let a = l.late in let b = l.loop.within in omega (arith, a, b)

pub loops_first : (w : World) (start g : Functions) (domain none t : ℕ) (p : Place) → ((h : ℕ) → value_at g none h ≡ None) → IsSetOf g none (λ h. InSet start domain h × LoopsFrom w t p (t - 0) h)
loops_first w start g domain none t p e h v = (λ i. absurd (empty_set g none e h i), λ x. absurd (loops_late w t p h (let same : t - 0 ≡ t = omega arith in subst (λ n. LoopsFrom w t p n h) same x.1)))

-- a header that loops is in a group of the last level
pub loops_last : (w : World) (start f : Functions) (domain t : ℕ) (p : Place) (groups : List Way) (h : Header) → IsHeader h → 1 ≤ t → IsLevel w start domain p (t - 1) f groups → InSet start domain h → Loops w t p h → ByWay f groups (λ m _. GoesOn m) h
loops_last w start f domain t p groups h v one level i l =
    let u = walks_on w t p h l (t - 1) in
    group_there f groups h u.0 ((level.exact h v u.0).1 (i, states_from_walk w (t - 1) (state_at p h) u.0 u.1))

-- by a group it comes to a state, and back to it
back_at : (w : World) (room : ℕ) (h : Header) (m : Step) → IsBack w room m h → (u : State) × (move_of h m ≡ Go u.place u.header) × Returns w room u
back_at w room h step.Drop b = absurd b
back_at w room h (step.Local q) b = absurd b
back_at w room h step.Lost b = absurd b
back_at w room h (step.Exit q s) b = absurd b
back_at w room h (step.Go q s) b = (state_at q (applied s h), refl, b)

-- a step by which it comes to a state leads it there
pub leads_to : (P : State → Type 0) (h : Header) (m : Step) (u : State) → move_of h m ≡ Go u.place u.header → P u → LeadsTo P m h
leads_to P h step.Drop u e r = cc
leads_to P h (step.Local q) u e r = cc
leads_to P h step.Lost u e r = cc
leads_to P h (step.Exit q s) u e r = cc
leads_to P h (step.Go q s) u e r =
    let a = same_place h u.place u.header q (applied s h) e in
    let b = same_header h u.place u.header q (applied s h) e in
    let same : u ≡ state_at q (applied s h) = λ i. record { place = sym a i; header = sym b i } in
    subst P same r

from_or_at : (n m : ℕ) → n ≤ m → (m ≡ n) ⊎ (n + 1 ≤ m)
from_or_at n m l = elim (cases_lt n m) [ inl a ↦ inr (omega (arith, a)) | inr b ↦ inl (omega (arith, l, b)) ]

-- one level further back: n moves lead to it, and so many are left
pub loops_next : (w : World) (start t0 t1 : Functions) (domain t room n : ℕ) (p : Place) (groups : List Way) (lasting old new : ℕ) → room < t → n ≡ t - 1 - room
    → IsLevel w start domain p n t0 groups
    → ((h : Header) → IsHeader h → InSet start domain h → Loops w t p h → InSet t0 lasting h)
    → IsSetOf t0 old (λ h. InSet start domain h × LoopsFrom w t p (t - room) h)
    → IsSetOf t1 new (λ h. InSet t0 old h ⊎ ByWay t0 groups (λ m g. InSet t0 lasting g × IsBack w room m g) h)
    → IsSetOf t1 new (λ h. InSet start domain h × LoopsFrom w t p (t - (room + 1)) h)
loops_next w start t0 t1 domain t room n p groups lasting old new l e level last s q h v =
    let here : t - (room + 1) ≡ n = omega (arith, l, e) in
    let next : t - room ≡ n + 1 = omega (arith, l, e) in (
      λ i. elim ((q h v).0 i) [
        | inl a ↦
            let x = (s h v).0 a in
            let late = x.1.late in
            (x.0, record { loop = x.1.loop; late = omega (arith, here, next, late) })
        | inr b ↦
            let u = back_at w room h b.way.step b.holds.1 in
            let x = (level.exact h v u.0).0 (record { way = b.way; among = b.among; inside = b.inside; made = u.1 }) in
            let c = u.2.within in (
              x.0,
              record {
                loop = record { before = n; around = u.2.around; moves = u.2.moves; within = omega (arith, l, e, c); state = u.0; comes = walk_from_states w n (state_at p h) u.0 x.1; again = u.2.again };
                late = omega (arith, here);
              },
            )
      ],
      λ x. (q h v).1 (
          let late = x.1.late in
          elim (from_or_at n x.1.loop.before (omega (arith, here, late))) [
            | inr m ↦ inl ((s h v).1 (x.0, record { loop = x.1.loop; late = omega (arith, next, m) }))
            | inl m ↦
                let o = x.1.loop in
                let b = o.within in
                let a = (level.exact h v o.state).1 (x.0, states_from_walk w n (state_at p h) o.state (subst (λ k. IsWalk w k (state_at p h) o.state) m o.comes)) in
                inr (record { way = a.way; among = a.among; inside = a.inside; holds = (last h v x.0 o, leads_to (Returns w room) h a.way.step o.state a.made (record { around = o.around; moves = o.moves; within = omega (arith, l, e, m, b); again = o.again })) })
          ]
          ),
    )

pub loops_all : (w : World) (start g : Functions) (domain set t room : ℕ) (p : Place) → room ≡ t → IsSetOf g set (λ h. InSet start domain h × LoopsFrom w t p (t - room) h) → IsSetOf g set (λ h. InSet start domain h × Loops w t p h)
loops_all w start g domain set t room p e s h v = (
  λ i. let x = (s h v).0 i in (x.0, x.1.loop),
  λ x. (s h v).1 (x.0, record { loop = x.1; late = omega (arith, e) }),
)

-- ---- headers as they arrive
pub arriving_there : (s : Stamp) (all made : Cube) (g : Functions) (set : ℕ) (f : Functions) (headers : ℕ) → ((k : ℕ) → k < 112 → IsStar all k) → ((h : Header) → IsHeader h → IsIn made (number h) ↔ IsMadeFrom s all h) → ((h : ℕ) → value_at g set h ≡ cubes_value (made ∷ []) 1 h)
    → (h : Header) → IsHeader h → InSet f headers h → IsHeader (applied s h) → InSet g set (applied s h)
arriving_there s all made g set f headers stars from value h v i w =
    let inside = cube_set g made set (λ x. IsIn made (number x)) (λ x y. (λ z. z, λ z. z)) value in
    (inside (applied s h) w).1 ((from (applied s h) w).1 (h, v, in_all all stars (number h), refl))
  where
    in_all : (c : Cube) → ((k : ℕ) → k < 112 → IsStar c k) → (n : ℕ) → IsIn c n
    in_all c stars n k l = agrees c n k (digit_at c k) (stars k l) refl
      where
        agrees : (c : Cube) (n k : ℕ) (d : Option ℕ) → IsNone d → digit_at c k ≡ d → AgreesAt c n k
        agrees c n k None s e = rw e tt
        agrees c n k (Some x) s e = cc

-- ---- groups whose headers come back
pub returned : (w : World) (room : ℕ) (t0 t1 t2 t3 t4 : Functions) (place : Place) (s : Stamp) (headers arriving back before set : ℕ) → IsStamp s → headers < count_of t0 → Keeps t0 t3
    → ((h : Header) → IsHeader h → InSet t0 headers h → IsHeader (applied s h) → InSet t1 arriving (applied s h))
    → IsSetOf t2 back (λ g. InSet t1 arriving g × Returns w room (state_at place g))
    → IsSetOf t3 before (λ h. InSet t2 back (applied s h))
    → IsSetOf t4 set (λ h. InSet t3 headers h × InSet t3 before h)
    → IsSetOf t4 set (λ h. InSet t0 headers h × Returns w room (state_at place (applied s h)))
returned w room t0 t1 t2 t3 t4 place s headers arriving back before set fits l k made b c d h v =
    let i = applied_fits s h fits v in
    let kept = kept_set t0 t3 headers h k l in (
      λ x. let y = (d h v).0 x in (kept.0 y.0, ((b (applied s h) i).0 ((c h v).0 y.1)).1),
      λ x. (d h v).1 (kept.1 x.0, (c h v).1 ((b (applied s h) i).1 (made h v x.0 i, x.1))),
    )

pub nothing_returned : (w : World) (room : ℕ) (f : Functions) (place : Place) (s : Stamp) (headers : ℕ) → GivesNothing (value_at f headers) → IsSetOf f headers (λ h. InSet f headers h × Returns w room (state_at place (applied s h)))
nothing_returned w room f place s headers none h v = (λ i. absurd (no_header f headers h none (number-below h v) i), λ x. x.0)

pub none_back : (w : World) (room : ℕ) (f : Functions) (found headers lasting : ℕ) (m : Step) → ((h : Header) → IsBack w room m h → ⊥) → IsSetOf f found (λ h. InSet f found h ⊎ (InSet f headers h × (InSet f lasting h × IsBack w room m h)))
none_back w room f found headers lasting m never h v = (λ i. inl i, λ x. elim x [ inl a ↦ a | inr b ↦ absurd (never h b.1.1) ])

pub some_back : (w : World) (room : ℕ) (t0 t1 t2 t3 t4 : Functions) (place : Place) (s : Stamp) (m : Step) (found headers lasting asked rest back all : ℕ) → m ≡ step.Go place s → Keeps t0 t1 → Keeps t0 t3 → found < count_of t0
    → IsSetOf t1 asked (λ h. InSet t0 headers h × InSet t0 lasting h)
    → IsSetOf t2 rest (λ h. InSet t1 asked h × (InSet t1 found h → ⊥))
    → IsSetOf t3 back (λ h. InSet t2 rest h × Returns w room (state_at place (applied s h)))
    → IsSetOf t4 all (λ h. InSet t3 found h ⊎ InSet t3 back h)
    → IsSetOf t4 all (λ h. InSet t0 found h ⊎ (InSet t0 headers h × (InSet t0 lasting h × IsBack w room m h)))
some_back w room t0 t1 t2 t3 t4 place s m found headers lasting asked rest back all e k1 k3 l a b c d h v =
    let near = kept_set t0 t1 found h k1 l in
    let far = kept_set t0 t3 found h k3 l in (
      λ i. elim ((d h v).0 i) [
        | inl x ↦ inl (far.0 x)
        | inr x ↦
            let y = (c h v).0 x in
            let z = (a h v).0 ((b h v).0 y.0).0 in
            inr (z.0, (z.1, subst (λ n. IsBack w room n h) (sym e) y.1))
      ],
      λ x. (d h v).1 (elim x [
        | inl y ↦ inl (far.1 y)
        | inr y ↦ elim (in_or_not t1 found h) [
          | inl z ↦ inl (far.1 (near.0 z))
          | inr z ↦ inr ((c h v).1 ((b h v).1 ((a h v).1 (y.0, y.1.0), z), subst (λ n. IsBack w room n h) e y.1.1))
        ]
      ]),
    )

-- of no headers none loop
pub nothing_loops : (w : World) (t : ℕ) (f : Functions) (p : Place) (domain : ℕ) → GivesNothing (value_at f domain) → IsSetOf f domain (λ h. InSet f domain h × Loops w t p h)
nothing_loops w t f p domain none h v = (λ i. absurd (no_header f domain h none (number-below h v) i), λ x. x.0)

-- the filter's headers that loop
pub of_filter : (f g : Functions) (filter set : ℕ) (F P : Header → Type 0) → IsSetOf f filter F → IsSetOf g set (λ h. InSet f filter h × P h) → IsSetOf g set (λ h. F h × P h)
of_filter f g filter set F P a s h v = (λ i. let x = (s h v).0 i in ((a h v).0 x.0, x.1), λ x. (s h v).1 ((a h v).1 x.0, x.1))
