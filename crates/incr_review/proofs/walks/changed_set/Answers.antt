use Rattle.std.proofs.lemmas.Result.{IfOk-weaker}
use Rattle.indexmap.specs.IndexMap.{get}
use Rattle.net_types.specs.World.{same_place}
use Rattle.net_view.specs.Borrowed.{world_of}
use Rattle.incr_review.proofs.ChangedLemmas.{outside_same}
use Rattle.incr_review.proofs.LiveLemmas.{ways_given}
use Rattle.incr_review.proofs.walks.changed_set.Goals as goal

pub changed_headers-requires-clause-after : goal.changed_headers-requires-clause-after
changed_headers-requires-clause-after c =
    let net = c.args.again.net.now in
    ways_given (world_of net.world) c.args.table.now net.scope net.lists.now (get same_place net.places.now) c.requires.net

pub returns-clause-walks : goal.returns-clause-walks
returns-clause-walks c =
    let net = c.args.again.net.now in
    IfOk-weaker c.changed_headers.result _ _ (λ changed agree w b p h v n t. outside_same w (world_of net.world) c.args.table.now c.changed_headers.new.table net.scope changed (record { device = c.args.again.device; lists = net.lists; before = c.args.again.before; after = net.places }) c.requires.all b.ways c.requires.net b.differs b.others agree (b.plain c.if-not-again.false) p h v n t) c.changed_headers.ensures.agree
