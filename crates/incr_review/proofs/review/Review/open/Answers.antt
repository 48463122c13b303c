use Rattle.std.proofs.Common.{List, sym, subst}
use Rattle.net_types.specs.declared.network.NetDevice.{NetDevice}
use Rattle.net_types.specs.declared.network.Network.{Network}
use Rattle.net_types.specs.World.{World}
use Rattle.incr_review.specs.Live.{HaveNoRules}
use Rattle.incr_review.specs.Reviews.{IsKept}
use Rattle.incr_review.proofs.KeptLemmas.{kept_opened}
use Rattle.incr_review.proofs.review.Review.open.Goals as goal

pub invariant_of-result : goal.invariant_of-result
invariant_of-result c =
    let v : World = record { network = c.args.old.now; links = c.args.links.now } in
    let rs = c.in_ok-regions.regions.items in
    let o = c.in_ok-regions.ensures in
    let plain = c.have_no_rules-plain.result in
    subst (λ (n : Network). IsKept v n c.args.ttl c.open_regions.new.live plain rs) (sym c.in_ok-edited.ensures.same)
    (kept_opened v c.args.ttl c.in_ok-live.live c.open_regions.new.live plain rs c.requires.least c.in_ok-live.ensures (λ t. subst (λ (ds : List NetDevice). HaveNoRules ds) c.as_slice.ensures (c.have_no_rules-plain.ensures t)) o.walked o.reviewed)
