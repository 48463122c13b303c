-- What follows where a header walks alike in two networks.
use Rattle.std.proofs.Common.{ℕ, zero, suc, ◌≡◌, ◌≤◌, ◌<◌, ◌+◌, ◌↔◌, arith}
use Rattle.hdr_bits.specs.declared.header.Header.{Header}
use Rattle.net_types.specs.declared.network.Move.TheVariants as move
use Rattle.net_types.specs.declared.network.Place.{Place}
use Rattle.net_types.specs.declared.network.State.{State}
use Rattle.net_types.specs.World.{World}
use Rattle.net_types.specs.Walks.{IsWalk, SameEnds, state_at, label}
use Rattle.net_types.specs.Questions.{Loops}
use Rattle.net_types.proofs.LabelLaws.{labels_tell_ends}
use Rattle.net_types.proofs.QuestionLaws.{joined}
use Rattle.net_types.proofs.Walking.{walk_from_states, states_from_walk}
use Rattle.net_types.specs.Visits.{Visits}
use Rattle.net_types.specs.SameWalks.{MovesAgree, SameWalksUnder}

module _ (old new : World) (t : ℕ) (p : Place) (h : Header) (a : SameWalksUnder old new t p h) where
  walk_under : (k : ℕ) → k < t → (u : State) → IsWalk old k (state_at p h) u ↔ IsWalk new k (state_at p h) u
  walk_under k l u =
      let s = state_at p h in (
        λ w. walk_from_states new k s u ((a.states k l u).0 (states_from_walk old k s u w)),
        λ w. walk_from_states old k s u ((a.states k l u).1 (states_from_walk new k s u w)),
      )

  ends_under : SameEnds old new t p h
  ends_under e = (
    λ x. record { count = x.count; within = x.within; state = x.state; walk = (walk_under x.count x.within x.state).0 x.walk; move = x.move; made = (a.moves x.count x.within x.state (states_from_walk old x.count (state_at p h) x.state x.walk) x.move).0 x.made; ends = x.ends },
    λ x.
        let w = (walk_under x.count x.within x.state).1 x.walk in
        record { count = x.count; within = x.within; state = x.state; walk = w; move = x.move; made = (a.moves x.count x.within x.state (states_from_walk old x.count (state_at p h) x.state w) x.move).1 x.made; ends = x.ends },
  )

  label_under : label old t p h ≡ label new t p h
  label_under = (labels_tell_ends t p h old new).1 ends_under

  visits_under : (device : ℕ) → Visits old t p h device ↔ Visits new t p h device
  visits_under device = (
    λ v. record { count = v.count; within = v.within; state = v.state; walk = (walk_under v.count v.within v.state).0 v.walk; there = v.there },
    λ v. record { count = v.count; within = v.within; state = v.state; walk = (walk_under v.count v.within v.state).1 v.walk; there = v.there },
  )

  -- a walk goes on from a state to which one leads
  there_under : (k : ℕ) → k < t → (u : State) → IsWalk old k (state_at p h) u → MovesAgree old new u.place u.header
  there_under k l u w = a.moves k l u (states_from_walk old k (state_at p h) u w)

  on_new : (k n : ℕ) (x u : State) → n + k < t → IsWalk old k (state_at p h) x → IsWalk old n x u → IsWalk new n x u
  on_new k zero x u l w b = b
  on_new k (suc n) x u l w b =
      let m : n + k < t = omega (arith, l) in
      (b.0, on_new k n x b.0 m w b.1, (there_under (n + k) m b.0 (joined old k n (state_at p h) x b.0 w b.1) (move.Go u.place u.header)).0 b.2)

  on_old : (k n : ℕ) (x u : State) → n + k < t → IsWalk old k (state_at p h) x → IsWalk new n x u → IsWalk old n x u
  on_old k zero x u l w b = b
  on_old k (suc n) x u l w b =
      let m : n + k < t = omega (arith, l) in
      let c = on_old k n x b.0 m w b.1 in
      (b.0, c, (there_under (n + k) m b.0 (joined old k n (state_at p h) x b.0 w c) (move.Go u.place u.header)).1 b.2)

  loops_under : Loops old t p h ↔ Loops new t p h
  loops_under = (
    λ l.
        let i = l.within in
        let b : l.before < t = omega (arith, i) in
        let m : l.around + l.before < t = omega (arith, i) in
        record { before = l.before; around = l.around; moves = l.moves; within = l.within; state = l.state; comes = (walk_under l.before b l.state).0 l.comes; again = on_new l.before l.around l.state l.state m l.comes l.again },
    λ l.
        let i = l.within in
        let b : l.before < t = omega (arith, i) in
        let m : l.around + l.before < t = omega (arith, i) in
        let c = (walk_under l.before b l.state).1 l.comes in
        record { before = l.before; around = l.around; moves = l.moves; within = l.within; state = l.state; comes = c; again = on_old l.before l.around l.state l.state m c l.again },
  )

-- ---- under a smaller TTL
sooner : (old new : World) (t s : ℕ) (p : Place) (h : Header) → SameWalksUnder old new t p h → s ≤ t → SameWalksUnder old new s p h
sooner old new t s p h a m = record { states = λ n l. a.states n (omega (arith, l, m)); moves = λ n l. a.moves n (omega (arith, l, m)) }

module _ (old new : World) (t : ℕ) (p : Place) (h : Header) (a : SameWalksUnder old new t p h) (s : ℕ) (m : s ≤ t) where
  pub labels_alike : label old s p h ≡ label new s p h
  labels_alike = label_under old new s p h (sooner old new t s p h a m)

  pub loops_alike : Loops old s p h ↔ Loops new s p h
  loops_alike = loops_under old new s p h (sooner old new t s p h a m)

  pub visits_alike : (device : ℕ) → Visits old s p h device ↔ Visits new s p h device
  visits_alike = visits_under old new s p h (sooner old new t s p h a m)
