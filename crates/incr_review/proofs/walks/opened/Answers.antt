use Rattle.std.proofs.Common.{List, length, subst}
use Rattle.std.proofs.lemmas.Result.{IfOk-weaker}
use Rattle.net_types.specs.declared.network.Place.{Place}
use Rattle.net_view.specs.Borrowed.{world_of}
use Rattle.incr_review.specs.Opened.{AreOpened}
use Rattle.incr_review.proofs.ReviewLemmas.{opened_reviewed}
use Rattle.incr_review.proofs.walks.opened.Goals as goal

pub all_regions-requires-clause-walk : goal.all_regions-requires-clause-walk
all_regions-requires-clause-walk c = record { net = c.requires.net; all = c.requires.all; least = c.requires.least }

pub returns-clause-reviewed : goal.returns-clause-reviewed
returns-clause-reviewed c =
    let w = world_of c.args.net.now.world in
    let g = c.all_regions.new.table in
    IfOk-weaker c.all_regions.result _ _
    (λ regions opened. opened_reviewed w c.args.ttl w.links.ingress g regions.items (subst (λ (ps : List Place). AreOpened w c.args.ttl ps g (length ps) regions.items) c.as_slice.ensures opened))
    c.all_regions.ensures.opened

pub returns-clause-apart : goal.returns-clause-apart
returns-clause-apart c = IfOk-weaker c.all_regions.result _ _ (λ regions opened. opened.apart) c.all_regions.ensures.opened
