-- What is kept of a network, as tables and lists grow.
use Rattle.std.proofs.Common.{ℕ, ◌≡◌, ◌<◌, List, Option, ap, refl, sym, ◌∙◌, subst}
use Rattle.indexmap.specs.IndexMap.{get}
use Rattle.hdr_bits.specs.declared.header.Header.{Header}
use Rattle.hdr_bits.specs.Lists.{Extends}
use Rattle.hdr_bits.proofs.ListLemmas.{extends_none, extends_then}
use Rattle.cube_diagram.specs.Functions.{Functions, Keeps, count_of}
use Rattle.net_types.specs.declared.network.Place.{Place}
use Rattle.net_types.specs.World.{World, same_place}
use Rattle.place_ways.specs.declared.ways.NetworkWays.{NetworkWays}
use Rattle.place_ways.specs.Places.{ArePlaceWays, ArePositions, IsPosition}
use Rattle.place_ways.proofs.PlaceLemmas.{positions_kept, positions_ways}
use Rattle.set_walk.specs.declared.net.PlaceWays.{PlaceWays}
use Rattle.set_walk.specs.Scopes.{IsKept}
use Rattle.set_walk.specs.Sets.{InSet}
use Rattle.set_walk.proofs.SetLemmas.{keeps_same, keeps_then, kept_below, kept_set}
use Rattle.live_network.specs.declared.live.LiveWays.{LiveWays}
use Rattle.live_network.specs.Live.{IsLive, IsRenewed}

pub renewed_itself : (n : LiveWays) → IsRenewed n n
renewed_itself n = record { scope = refl; lists = extends_none n.ways.lists.items; kept = keeps_same n.tables.diagrams }

pub renewed_then : (a b c : LiveWays) → IsRenewed a b → IsRenewed b c → IsRenewed a c
renewed_then a b c x y =
    record {
      scope = y.scope ∙ x.scope;
      lists = extends_then a.ways.lists.items b.ways.lists.items c.ways.lists.items x.lists y.lists;
      kept = keeps_then a.tables.diagrams b.tables.diagrams c.tables.diagrams x.kept y.kept;
    }

module _ (old new : LiveWays) (r : IsRenewed old new) (below : old.scope < count_of old.tables.diagrams) where
  pub scope_later : new.scope < count_of new.tables.diagrams
  scope_later = subst (λ n. n < count_of new.tables.diagrams) (sym r.scope) (kept_below old.tables.diagrams new.tables.diagrams old.scope r.kept below)

  pub all_later : ((h : Header) → InSet old.tables.diagrams old.scope h) → (h : Header) → InSet new.tables.diagrams new.scope h
  all_later all h = subst (λ n. InSet new.tables.diagrams n h) (sym r.scope) ((kept_set old.tables.diagrams new.tables.diagrams old.scope h r.kept below).1 (all h))

-- ---- all headers are a scope of any network
all_kept : (w : World) (f : Functions) (scope : ℕ) → ((h : Header) → InSet f scope h) → IsKept w f scope
all_kept w f scope all p q h g v i c = all g

ways_of_positions : (w : World) (f : Functions) (scope : ℕ) (lists : List PlaceWays) (at : Place → Option ℕ) → scope < count_of f → ((h : Header) → InSet f scope h) → ArePositions w f scope lists at → ArePlaceWays w f scope lists at
ways_of_positions w f scope lists at l all a = positions_ways w f scope lists at l (all_kept w f scope all) a

pub ways_of_live : (w : World) (n : LiveWays) → IsLive w n → ArePlaceWays w n.tables.diagrams n.scope n.ways.lists.items (get same_place n.ways.positions)
ways_of_live w n a = ways_of_positions w n.tables.diagrams n.scope n.ways.lists.items (get same_place n.ways.positions) a.scope a.all a.ways

-- ---- the same places have the same positions
positions_later : (w : World) (old new : LiveWays) (at : Place → Option ℕ) → IsRenewed old new → ((p : Place) → at p ≡ get same_place old.ways.positions p) → IsLive w old → ArePositions w new.tables.diagrams new.scope new.ways.lists.items at
positions_later w old new at r e a p =
    subst (λ o. IsPosition w new.tables.diagrams new.scope new.ways.lists.items p o) (sym (e p)) (subst (λ n. IsPosition w new.tables.diagrams n new.ways.lists.items p (get same_place old.ways.positions p)) (sym r.scope) (positions_kept w old.tables.diagrams new.tables.diagrams old.scope old.ways.lists.items new.ways.lists.items r.kept a.scope r.lists (get same_place old.ways.positions) a.ways p))

pub live_later : (w : World) (old new : LiveWays) → IsRenewed old new → ((p : Place) → get same_place new.ways.positions p ≡ get same_place old.ways.positions p) → IsLive w old → IsLive w new
live_later w old new r e a =
    record {
      scope = scope_later old new r a.scope;
      all = all_later old new r a.scope a.all;
      ways = positions_later w old new (get same_place new.ways.positions) r e a;
    }

-- the ways that the places of a network had, by the positions of before
pub ways_before : (w : World) (old new : LiveWays) (at : Place → Option ℕ) → IsRenewed old new → ((p : Place) → at p ≡ get same_place old.ways.positions p) → IsLive w old → ArePlaceWays w new.tables.diagrams new.scope new.ways.lists.items at
ways_before w old new at r e a = ways_of_positions w new.tables.diagrams new.scope new.ways.lists.items at (scope_later old new r a.scope) (all_later old new r a.scope a.all) (positions_later w old new at r e a)

-- where the table alone grew
pub grown : (old new : LiveWays) → new.scope ≡ old.scope → new.ways ≡ old.ways → Keeps old.tables.diagrams new.tables.diagrams → IsRenewed old new
grown old new s e k = record { scope = s; lists = subst (λ (z : NetworkWays). Extends old.ways.lists.items z.lists.items) (sym e) (extends_none old.ways.lists.items); kept = k }

pub live_grown : (w : World) (old new : LiveWays) → new.scope ≡ old.scope → new.ways ≡ old.ways → Keeps old.tables.diagrams new.tables.diagrams → IsLive w old → IsLive w new
live_grown w old new s e k a = live_later w old new (grown old new s e k) (λ p. ap (λ (z : NetworkWays). get same_place z.positions p) e) a
