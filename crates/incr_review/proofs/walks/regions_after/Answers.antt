use Rattle.std.proofs.Common.{List, subst, sym, filter}
use Rattle.net_view.specs.Borrowed.{world_of}
use Rattle.set_walk.proofs.NetLemmas.{net_kept}
use Rattle.set_walk.proofs.SetLemmas.{kept_set, kept_below, keeps_then}
use Rattle.net_types.proofs.Members.{in_filter}
use Rattle.incr_review.specs.declared.regions.Region.{Region}
use Rattle.incr_review.specs.Again.{AreAgain, leaves}
use Rattle.incr_review.specs.Split.{is_in}
use Rattle.incr_review.proofs.GroupLemmas.{filtered_once}
use Rattle.incr_review.proofs.ReviewLemmas.{again_from, reviewed_kept}
use Rattle.incr_review.proofs.SplitLemmas.{again_split, all_filtered, pieces_disjoint, pieces_leave, pieces_placed}
use Rattle.incr_review.proofs.walks.regions_after.Goals as goal

pub split_leaving-requires-clause-below : goal.split_leaving-requires-clause-below
split_leaving-requires-clause-below c r m = kept_below c.args.table.now c.changed_set.new.table r.headers c.in_ok-changed.ensures.kept (c.requires.placed r m).1

pub walk_inside-requires-clause-walk : goal.walk_inside-requires-clause-walk
walk_inside-requires-clause-walk c =
    let f = c.args.table.now in
    let e = c.split_leaving.new.table in
    let net = c.args.again.net.now in
    let k = keeps_then f c.changed_set.new.table e c.in_ok-changed.ensures.kept c.in_ok-split.ensures.kept in
    record { net = net_kept f e net k c.requires.net; all = λ h. (kept_set f e net.scope h k c.requires.net.below).1 (c.requires.all h); least = c.requires.least }

pub walk_inside-requires-clause-inside : goal.walk_inside-requires-clause-inside
walk_inside-requires-clause-inside c =
    let d = c.args.again.device.now.name in
    let rs = c.args.regions.now in
    let f = c.changed_set.new.table in
    pieces_placed (world_of c.args.again.net.now.world).links.ingress f c.split_leaving.new.table (filter (leaves d) rs) (is_in f c.in_ok-changed.changed) c.in_ok-split.split.inside.items c.in_ok-split.ensures.inside (λ r m. (c.requires.placed r (in_filter (leaves d) rs r m).0).0)

pub walk_inside-requires-clause-disjoint : goal.walk_inside-requires-clause-disjoint
walk_inside-requires-clause-disjoint c =
    let d = c.args.again.device.now.name in
    let rs = c.args.regions.now in
    let f = c.changed_set.new.table in
    pieces_disjoint f c.split_leaving.new.table (filter (leaves d) rs) (is_in f c.in_ok-changed.changed) c.in_ok-split.split.inside.items c.in_ok-split.ensures.inside
    (filtered_once c.args.table.now f d rs c.in_ok-changed.ensures.kept (λ r m. (c.requires.placed r m).1) c.requires.disjoint)

pub returns-clause-again : goal.returns-clause-again
returns-clause-again c old w0 b before =
    let s = c.args.again in
    let d = s.device.now.name in
    let w1 = world_of s.net.now.world in
    let ingress = w1.links.ingress in
    let rs = c.args.regions.now in
    let f = c.args.table.now in
    let e0 = c.changed_set.new.table in
    let e = c.split_leaving.new.table in
    let g = c.walk_inside.new.table in
    let set = c.in_ok-changed.changed in
    let outside = c.in_ok-split.split.outside.items in
    let inside = c.in_ok-split.split.inside.items in
    let k = c.in_ok-changed.ensures.kept in
    let a = c.in_ok-walk_inside.ensures.added in
    let all = all_filtered (leaves d) inside (pieces_leave e0 e d rs (is_in e0 set) inside c.in_ok-split.ensures.inside) in
    let walked : AreAgain w1 s.ttl ingress e inside g a.more = subst (λ (xs : List Region). AreAgain w1 s.ttl ingress e xs g a.more) all a.are in
    let whole = again_split old w0 w1 s.ttl ingress e0 e g d set rs outside inside a.more c.in_ok-walk_inside.ensures.kept (reviewed_kept old w0 s.ttl ingress f e0 rs k before) c.in_ok-split.ensures.outside c.in_ok-split.ensures.inside walked (λ p h v n. c.in_ok-changed.ensures.walks w0 b p h v n s.ttl) in
    again_from w1 s.ttl ingress f e0 (filter (leaves d) rs) g _ k (λ r m. (c.requires.placed r (in_filter (leaves d) rs r m).0).1)
    (subst (λ (xs : List Region). AreAgain w1 s.ttl ingress e0 (filter (leaves d) rs) g xs) (sym a.added) whole)
