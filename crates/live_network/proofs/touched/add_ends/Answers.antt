use Rattle.std.proofs.Common.{take_all, get_or, subst}
use Rattle.std.proofs.lemmas.List.{get_or_default}
use Rattle.net_types.specs.declared.network.Place.{Place}
use Rattle.live_network.specs.Touched.{AreNamed}
use Rattle.live_network.proofs.TouchedLemmas.{has_itself, has_then, named_more, named_none}
use Rattle.live_network.proofs.touched.add_ends.Goals as goal

pub loop-end-init : goal.loop-end-init
loop-end-init c = record { named = named_none c.args.names.now.items; kept = has_itself c.args.names.now.items }

pub loop-end-preserved : goal.loop-end-preserved
loop-end-preserved c =
    let l = c.loop-end in
    let o = c.in_ok-add_name.ensures in
    let names = l.names.items in
    let more = c.add_name.new.names.items in
    let d : Place = record { device = 0; interface = 0 } in
    let p = get_or c.args.ends.now l.end-index d in
    record {
      named = named_more c.args.ends.now l.end-index p names more c.loop-end-test.true (get_or_default c.args.ends.now l.end-index d p c.loop-end-test.true) o.kept o.named l.invariant.named;
      kept = has_then c.args.names.now.items names more l.invariant.kept o.kept;
    }

pub returns-clause-named : goal.returns-clause-named
returns-clause-named c =
    let l = c.loop-end in
    subst (λ ps. AreNamed ps l.names.items) (take_all l.end-index c.args.ends.now c.loop-end-test.false) l.invariant.named
