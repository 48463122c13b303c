-- Sets that stand still are closed under the moves of the old network, so no walk of a header of the scope that is in none
-- meets a difference; nor does one of a header beyond the scope.
use Rattle.std.proofs.Common.{ℕ, zero, suc, ◌≡◌, ◌<◌, inl, inr, List, Option, Some, None, slice_get, length, refl, ap, sym, ◌∙◌, subst, arith}
use Rattle.std.specs.Prelude.{Contains, option_and_then}
use Rattle.std.proofs.lemmas.Option.{slice_get_within, slice_get-get_or}
use Rattle.indexmap.specs.IndexMap.{get}
use Rattle.hdr_bits.specs.declared.header.Header.{Header}
use Rattle.hdr_bits.specs.HeaderBits.{IsHeader}
use Rattle.cube_diagram.specs.Functions.{Functions, Keeps, count_of}
use Rattle.net_types.specs.declared.network.Move.TheVariants as move
use Rattle.net_types.specs.declared.network.Place.{Place}
use Rattle.net_types.specs.declared.network.State.{State}
use Rattle.net_types.specs.World.{World, same_place}
use Rattle.net_types.specs.Moves.{moves}
use Rattle.net_types.specs.Walks.{IsWalk, state_at, label}
use Rattle.net_types.specs.SameWalks.{MovesAgree, SameWalksUnder}
use Rattle.net_types.proofs.SameWalks.{labels_alike}
use Rattle.net_types.proofs.Walking.{walk_from_states, states_from_walk}
use Rattle.net_view.specs.Borrowed.{world_of}
use Rattle.set_walk.specs.declared.net.Net.{Net}
use Rattle.set_walk.specs.declared.net.PlaceWays.{PlaceWays}
use Rattle.set_walk.specs.Fits.{KeepsHeaders}
use Rattle.set_walk.specs.Scopes.{AreAlikeBeyond}
use Rattle.set_walk.specs.Sets.{InSet}
use Rattle.set_walk.specs.Nets.{ways_at, IsNet}
use Rattle.set_walk.proofs.NetLemmas.{goes_as_header}
use Rattle.set_walk.proofs.SetLemmas.{kept_set, kept_below, in_or_not}
use Rattle.set_walk.proofs.StampLemmas.{go_step}
use Rattle.difference_reach.specs.declared.reach.Reach.{Reach}
use Rattle.difference_reach.specs.Differing.{AreOwn}
use Rattle.difference_reach.specs.Reaches.{MayMeet, AreUsed, AreGivenAt, AreSettled, GoesOnFreely, IsClosed, AreNumbers, IsReach}
use Rattle.difference_reach.proofs.GrowLemmas.{sets_kept, meet_kept}
use Rattle.difference_reach.proofs.SweepLemmas.{below_kept}

-- ---- the ways at a place's position
record Listed (net : Net) (p : Place) (v : PlaceWays) : Type 0 where
  position : ℕ
  at : get same_place net.places.now p ≡ Some position
  there : slice_get net.lists.now position ≡ Some v

listed : (net : Net) (p : Place) (v : PlaceWays) → ways_at net p ≡ Some v → Listed net p v
listed net p v e = by (get same_place net.places.now p) refl e
  where
    by : (o : Option ℕ) → get same_place net.places.now p ≡ o → option_and_then (slice_get net.lists.now) o ≡ Some v → Listed net p v
    by None x y = absurd cc
    by (Some i) x y = record { position = i; at = x; there = y }

pub used_given : (f : Functions) (net : Net) (positions : List ℕ) → IsNet f net → AreUsed net positions → AreGivenAt f net.lists.now positions
used_given f net positions a u i c =
    let s = u.used i c in
    record {
      within = s.within;
      each = λ v e. (a.right s.place v (ap (option_and_then (slice_get net.lists.now)) s.at ∙ e)).each;
    }

-- ---- closed
module _ (f : Functions) (old new : Net) (own : Place → Option ℕ) (back positions : List ℕ) (a : IsNet f old) (o : AreOwn (world_of old.world) (world_of new.world) f old.scope own) (u : AreUsed old positions) (long : length back ≡ length old.lists.now) (s : AreSettled f own (get same_place old.places.now) old.lists.now back positions) where
  agree : (p : Place) (h : Header) → IsHeader h → InSet f old.scope h → (MayMeet f own (get same_place old.places.now) back p h → ⊥) → MovesAgree (world_of old.world) (world_of new.world) p h
  agree p h v inside n = by (own p) refl
    where
      by : (x : Option ℕ) → own p ≡ x → MovesAgree (world_of old.world) (world_of new.world) p h
      by None e = o.absent p e h v inside
      by (Some set) e = (o.given p set e).agree h v inside (λ i. n (inl (record { set = set; is = e; inside = i })))

  -- by a way of the place's list
  leads : (p q : Place) (h g : Header) (l : PlaceWays) → ways_at old p ≡ Some l → IsHeader h → InSet f old.scope h → Contains (moves (world_of old.world) p h) (move.Go q g) → MayMeet f own (get same_place old.places.now) back q g → MayMeet f own (get same_place old.places.now) back p h
  leads p q h g l e v inside c m =
      let at = get same_place old.places.now in
      let made = ((a.right p l e).exact h v inside (move.Go q g)).0 c in
      let on = go_step h q g made.way.step made.made in
      let there = listed old p l e in
      let i = there.position in
      let within = slice_get_within old.lists.now i l there.there in
      let number = slice_get-get_or back i 0 (omega (arith, within, long)) in
      let settled = s i (u.all p i there.at within) l _ there.there number h v in
      inr (record {
        set = _;
        is = ap (option_and_then (slice_get back)) there.at ∙ number;
        inside = settled (record { way = made.way; among = made.among; leads = record { place = q; stamp = on.0; goes = on.1; inside = made.inside; meets = subst (MayMeet f own at back q) (sym on.2) m } });
      })

  goes : (p q : Place) (h g : Header) → IsHeader h → InSet f old.scope h → Contains (moves (world_of old.world) p h) (move.Go q g) → GoesOnFreely f old.scope own (get same_place old.places.now) back p q h g
  goes p q h g v inside c =
      record {
        valid = goes_as_header (world_of old.world) f old.scope (ways_at old) a p q h g v inside c;
        inside = a.kept p q h g v inside c;
        meets = by (ways_at old p) refl;
      }
    where
      by : (x : Option PlaceWays) → ways_at old p ≡ x → MayMeet f own (get same_place old.places.now) back q g → MayMeet f own (get same_place old.places.now) back p h
      by None e m = let no : move.Drop ≡ move.Go q g = (a.missing p e h v inside (move.Go q g)).0 c in absurd cc
      by (Some l) e m = leads p q h g l e v inside c m

  pub closed : IsClosed (world_of old.world) (world_of new.world) f old.scope own (get same_place old.places.now) back
  closed = record { agree = agree; goes = goes }

-- ---- walks
module _ (old new : World) (f : Functions) (scope : ℕ) (own at : Place → Option ℕ) (back : List ℕ) (c : IsClosed old new f scope own at back) (d : AreAlikeBeyond old new f scope) (headers : KeepsHeaders old) where
  -- such a state may meet no difference: it is outside the scope, or it is none that may
  record IsFree (x : State) : Type 0 where
    valid : IsHeader x.header
    free : InSet f scope x.header → MayMeet f own at back x.place x.header → ⊥

  moved : (x y : State) → IsFree x → Contains (moves old x.place x.header) (move.Go y.place y.header) → IsFree y
  moved x y a m = elim (in_or_not f scope x.header) [
    | inl i ↦ let on = c.goes x.place y.place x.header y.header a.valid i m in record { valid = on.valid; free = λ j b. a.free i (on.meets b) }
    | inr n ↦ record { valid = headers x.place y.place x.header y.header a.valid m; free = λ j b. d.stays x.place y.place x.header y.header a.valid n m j }
  ]

  same_there : (x : State) → IsFree x → MovesAgree old new x.place x.header
  same_there x a = elim (in_or_not f scope x.header) [
    | inl i ↦ c.agree x.place x.header a.valid i (a.free i)
    | inr n ↦ d.agree x.place x.header a.valid n
  ]

  walked : (n : ℕ) (x y : State) → IsFree x → IsWalk old n x y → IsFree y
  walked zero x y a e = subst IsFree e a
  walked (suc n) x y a e = moved e.0 y (walked n x e.0 a e.1) e.2

  to_new : (n : ℕ) (x y : State) → IsFree x → IsWalk old n x y → IsWalk new n x y
  to_new zero x y a e = e
  to_new (suc n) x y a e = (e.0, to_new n x e.0 a e.1, (same_there e.0 (walked n x e.0 a e.1) (move.Go y.place y.header)).0 e.2)

  to_old : (n : ℕ) (x y : State) → IsFree x → IsWalk new n x y → IsWalk old n x y
  to_old zero x y a e = e
  to_old (suc n) x y a e =
      let before = to_old n x e.0 a e.1 in
      (e.0, before, (same_there e.0 (walked n x e.0 a before) (move.Go y.place y.header)).1 e.2)

  pub same_walks : (p : Place) (h : Header) → IsHeader h → (InSet f scope h → MayMeet f own at back p h → ⊥) → (t : ℕ) → SameWalksUnder old new t p h
  same_walks p h v n t =
      let s = state_at p h in
      let free : IsFree s = record { valid = v; free = n } in
      record {
        states = λ k l u. (
          λ m. states_from_walk new k s u (to_new k s u free (walk_from_states old k s u m)),
          λ m. states_from_walk old k s u (to_old k s u free (walk_from_states new k s u m)),
        );
        moves = λ k l u m. same_there u (walked k s u free (walk_from_states old k s u m));
      }

  pub untouched : (p : Place) (h : Header) → IsHeader h → (InSet f scope h → MayMeet f own at back p h → ⊥) → (t : ℕ) → label old t p h ≡ label new t p h
  untouched p h v n t = labels_alike old new t p h (same_walks p h v n t) t (omega arith)

-- ---- the table grows
pub numbers_kept : (f g : Functions) (r : Reach) → Keeps f g → AreNumbers f r → AreNumbers g r
numbers_kept f g r k a = record { scope = kept_below f g r.scope k a.scope; own = sets_kept f g (get same_place r.own) k a.own; back = below_kept f g r.back.items k a.back }

pub reach_kept : (old new : World) (f g : Functions) (scope : ℕ) (r : Reach) → Keeps f g → IsReach old new f scope r → IsReach old new g scope r
reach_kept old new f g scope r k a =
    let own = get same_place r.own in
    let at = get same_place r.places.now in
    let back = r.back.items in
    let same = meet_kept f g own at back k a.numbers.own a.numbers.back in
    let below : scope < count_of f = subst (λ s. s < count_of f) a.told_for a.numbers.scope in
    let there = λ (h : Header). kept_set f g scope h k below in
    record {
      numbers = numbers_kept f g r k a.numbers;
      told_for = a.told_for;
      headers = a.headers;
      closed = record {
        agree = λ p h v i n. a.closed.agree p h v ((there h).0 i) (λ m. n ((same p h).1 m));
        goes = λ p q h x v i c.
            let on = a.closed.goes p q h x v ((there h).0 i) c in
            record { valid = on.valid; inside = (there x).1 on.inside; meets = λ m. (same p h).1 (on.meets ((same q x).0 m)) };
      };
    }
