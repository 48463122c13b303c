use Rattle.std.proofs.Common.{◌≡◌, ◌<◌, ◌∙◌, ap, sym, subst, List, Some, length, slice_get, arith}
use Rattle.std.specs.Prelude.{Contains, option_and_then}
use Rattle.std.specs.Option.{option_copied}
use Rattle.hdr_bits.specs.declared.header.Header.{Header}
use Rattle.hdr_bits.specs.HeaderBits.{IsHeader}
use Rattle.net_view.specs.Borrowed.{world_of}
use Rattle.set_walk.specs.Sets.{InSet}
use Rattle.loop_search.specs.Bounds.{AreBounds, EntersLoop}
use Rattle.loop_search.specs.Looping.{ByWay, LeadsTo}
use Rattle.indexmap.specs.IndexMap.{get}
use Rattle.net_types.specs.World.{same_place}
use Rattle.set_walk.specs.declared.step.Way.{Way}
use Rattle.set_walk.specs.Nets.{ways_at}
use Rattle.set_walk.specs.Ways.{IsGiven}
use Rattle.loop_search.proofs.BoundsLemmas.{bounds_kept, narrowed}
use Rattle.loop_search.proofs.bounds.narrow_at.Goals as goal

pub staying-requires-clause-ways : goal.staying-requires-clause-ways
staying-requires-clause-ways c =
    let net = c.args.net.now in
    let at : ways_at net c.args.place ≡ Some c.in-Some-ways_at.list.now = sym c.ways_at.ensures ∙ ap option_copied c.in-Some-ways_at.is in
    subst (λ (ws : List Way). (x : Way) → Contains ws x → IsGiven c.args.table.now x) (sym c.deref.ensures.value) (c.requires.net.ways.right c.args.place c.in-Some-ways_at.list.now at).each

pub returns-then-stay-bounds-clause-bounds : goal.returns-then-stay-bounds-clause-bounds
returns-then-stay-bounds-clause-bounds c = bounds_kept c.args.table.now c.staying.new.table c.args.net.now c.args.bounds.now c.in_ok-stay.ensures.kept c.requires.below c.requires.bounds

pub returns-clause-bounds : goal.returns-clause-bounds
returns-clause-bounds c =
    let net = c.args.net.now in
    let here : get same_place net.places.now c.args.place ≡ Some c.in-Some.position = sym c.position_of.ensures ∙ c.in-Some.is in
    let at : ways_at net c.args.place ≡ Some c.in-Some-ways_at.list.now = sym c.ways_at.ensures ∙ ap option_copied c.in-Some-ways_at.is in
    let within : c.in-Some.position < length c.args.bounds.now = omega (arith, c.if-position-bounds.false) in
    let stay = subst (λ (ws : List Way). AreBounds c.args.table.now net c.args.bounds.now → (h : Header) → IsHeader h → ByWay c.args.table.now ws (LeadsTo (EntersLoop (world_of net.world))) h → InSet c.staying.new.table c.in_ok-stay.stay h) c.deref.ensures.value c.in_ok-stay.ensures.stay in
    narrowed c.args.table.now c.staying.new.table net c.args.bounds.now c.args.place c.in-Some.position c.in_ok-stay.stay c.in-Some-ways_at.list.now c.in_ok-stay.ensures.kept c.requires.net c.requires.below within here (sym (ap (option_and_then (slice_get net.lists.now)) here) ∙ at) stay c.requires.bounds
