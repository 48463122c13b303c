use Rattle.std.proofs.Common.{ℕ, List, sym, subst}
use Rattle.indexmap.specs.IndexMap.{get}
use Rattle.net_types.specs.declared.network.Segment.{Segment}
use Rattle.net_types.specs.World.{same_place}
use Rattle.net_view.specs.Borrowed.{world_of}
use Rattle.place_ways.specs.Places.{ArePositions}
use Rattle.live_network.specs.Clearing.{Clears}
use Rattle.live_network.specs.Live.{IsRenewed}
use Rattle.live_network.specs.Putting.{PutsNamed}
use Rattle.live_network.specs.Touched.{AreTouched}
use Rattle.live_network.proofs.LiveLemmas.{all_later, scope_later}
use Rattle.live_network.proofs.ReplaceLemmas.{positions_replaced}
use Rattle.live_network.proofs.replace.replace_device.Goals as goal

pub returns-in-Ok-clause-live : goal.returns-in-Ok-clause-live
returns-in-Ok-clause-live c v rep a =
    let w = world_of c.args.at.world in
    let x = c.args.at.before.now in
    let y = c.args.at.after.now in
    let old = c.args.live.now in
    let new = c.put_names.new.live in
    let f = old.tables.diagrams in
    let g = new.tables.diagrams in
    let names = c.in_ok-names.names.items in
    let o = c.in-Ok.ensures in
    let r : IsRenewed old new = record { scope = o.renewed.scope; lists = o.renewed.lists; kept = o.renewed.kept } in
    let before = get same_place old.ways.positions in
    let clear = get same_place c.clear_places.new.positions in
    let after = get same_place new.ways.positions in
    let touched = subst (λ (ss : List Segment). AreTouched x y ss names) c.as_slice-segments.ensures c.in_ok-names.ensures.touched in
    let cleared = subst (λ (ns : List ℕ). Clears x.name ns before clear) c.as_slice-numbers.ensures c.clear_places.ensures in
    let put = subst (λ (ns : List ℕ). PutsNamed w g old.scope new.ways.lists.items ns clear after) c.deref.ensures.value o.put in
    record {
      scope = scope_later old new r a.scope;
      all = all_later old new r a.scope a.all;
      ways = subst (λ n. ArePositions w g n new.ways.lists.items after) (sym r.scope) (positions_replaced v w x y rep names touched c.in_ok-names.ensures.own f g old.scope old.ways.lists.items new.ways.lists.items before clear after r.kept a.scope r.lists a.ways cleared put);
    }
