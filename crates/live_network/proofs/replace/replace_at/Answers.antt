use Rattle.std.proofs.Common.{◌≡◌, ◌∙◌, ap, sym, subst, List, get_or}
use Rattle.net_types.specs.declared.network.NetDevice.{NetDevice}
use Rattle.net_view.specs.Borrowed.{world_of}
use Rattle.live_network.specs.Replaced.{IsReplaced}
use Rattle.live_network.proofs.NetworkLemmas.{get_or_is}
use Rattle.live_network.proofs.replace.replace_at.Goals as goal

pub returns-clause-live : goal.returns-clause-live
returns-clause-live c v y there rep a =
    let w = world_of c.args.world in
    let i = c.args.position in
    let x = c.index-devices-position.result in
    let same : x ≡ y = c.index-devices-position.is ∙ (ap (λ (ds : List NetDevice). get_or ds i x) c.as_slice-devices.ensures ∙ get_or_is c.args.world.network.now.devices i y x there) in
    c.in_ok-positions.ensures.live v (subst (λ (z : NetDevice). IsReplaced v w c.args.before.now z) (sym same) rep) a
