use Rattle.std.proofs.Common.{refl, ap, sym, ◌∙◌, subst, filter}
use Rattle.net_view.specs.Borrowed.{world_of}
use Rattle.live_network.specs.Near.{SendFor, touches}
use Rattle.live_network.proofs.AlikeLemmas.{near_sends}
use Rattle.live_network.proofs.replace.put_names.Goals as goal

pub put_each-requires-clause-sends : goal.put_each-requires-clause-sends
put_each-requires-clause-sends c =
    let w = world_of c.args.world in
    let names = c.args.names.now in
    subst (λ u. SendFor u w names) (sym c.in_ok-wiring.ensures) (near_sends (record { network = w.network; links = c.in_ok-near.near }) w names refl (c.in_ok-near.ensures ∙ ap (filter (touches names)) c.as_slice-segments.ensures))
