use Rattle.std.proofs.Common.{subst, sym, filter, map, List}
use Rattle.std.proofs.lemmas.Result.{on_ok_weaker}
use Rattle.net_view.specs.Borrowed.{world_of}
use Rattle.net_types.specs.declared.network.Place.{Place}
use Rattle.net_types.proofs.Members.{in_filter}
use Rattle.set_walk.proofs.NetLemmas.{net_kept}
use Rattle.set_walk.proofs.SetLemmas.{kept_set}
use Rattle.incr_review.specs.declared.groups.Group.{Group}
use Rattle.incr_review.specs.declared.regions.Region.{Region}
use Rattle.incr_review.specs.Again.{AreAgain, ArePlaced, leaves}
use Rattle.incr_review.specs.Groups.{AreJoined, IsDisjoint, as_known}
use Rattle.incr_review.specs.Sections.{AreBelow}
use Rattle.incr_review.proofs.GroupLemmas.{again_joined, known_placed}
use Rattle.incr_review.proofs.walks.walk_inside.Goals as goal

pub leaving_groups-requires-clause-below : goal.leaving_groups-requires-clause-below
leaving_groups-requires-clause-below c = subst (λ (xs : List Region). AreBelow c.args.table.now xs) (sym c.deref.ensures.value) (λ r m. (c.requires.inside r m).1)

pub leaving_groups-requires-clause-disjoint : goal.leaving_groups-requires-clause-disjoint
leaving_groups-requires-clause-disjoint c = subst (λ (xs : List Region). IsDisjoint c.args.table.now xs) (sym c.deref.ensures.value) c.requires.disjoint

pub add_groups-requires-clause-walk : goal.add_groups-requires-clause-walk
add_groups-requires-clause-walk c =
    let f = c.args.table.now in
    let e = c.leaving_groups.new.table in
    let net = c.args.again.net.now in
    let k = c.in_ok-groups.ensures.kept in
    record { net = net_kept f e net k c.requires.walk.net; all = λ h. (kept_set f e net.scope h k c.requires.walk.net.below).1 (c.requires.walk.all h); least = c.requires.walk.least }

pub add_groups-requires-clause-groups : goal.add_groups-requires-clause-groups
add_groups-requires-clause-groups c =
    let d = c.args.again.device.now.name in
    let inside = c.args.split.now.inside.items in
    let f = c.args.table.now in
    let e = c.leaving_groups.new.table in
    let gs = c.in_ok-groups.groups.items in
    let ingress = (world_of c.args.again.net.now.world).links.ingress in
    let joined = subst (λ (xs : List Region). AreJoined f (filter (leaves d) xs) e gs) c.deref.ensures.value c.in_ok-groups.ensures.joined in
    let placed = known_placed ingress f e (filter (leaves d) inside) gs joined (λ r m. (c.requires.inside r (in_filter (leaves d) inside r m).0).0) in
    subst (λ (ps : List Place). ArePlaced ps e (map as_known c.deref-2.result.now)) (sym c.as_slice.ensures)
    (subst (λ (xs : List Group). ArePlaced ingress e (map as_known xs)) (sym c.deref-2.ensures.value) placed)

pub returns-clause-added : goal.returns-clause-added
returns-clause-added c =
    let s = c.args.again in
    let d = s.device.now.name in
    let w = world_of s.net.now.world in
    let ingress = w.links.ingress in
    let inside = c.args.split.now.inside.items in
    let f = c.args.table.now in
    let e = c.leaving_groups.new.table in
    let g = c.add_groups.new.table in
    let gs = c.in_ok-groups.groups.items in
    let joined : AreJoined f (filter (leaves d) inside) e gs = subst (λ (xs : List Region). AreJoined f (filter (leaves d) xs) e gs) c.deref.ensures.value c.in_ok-groups.ensures.joined in
    on_ok_weaker c.add_groups.result (λ a.
    let placed : AreAgain w s.ttl ingress e (map as_known c.deref-2.result.now) g a.more = subst (λ (ps : List Place). AreAgain w s.ttl ps e (map as_known c.deref-2.result.now) g a.more) c.as_slice.ensures a.are in
    let known : AreAgain w s.ttl ingress e (map as_known gs) g a.more = subst (λ (xs : List Group). AreAgain w s.ttl ingress e (map as_known xs) g a.more) c.deref-2.ensures.value placed in
    record { more = a.more; added = a.added; are = again_joined w s.ttl ingress f (filter (leaves d) inside) e gs g a.more joined known })
    c.add_groups.ensures.added
