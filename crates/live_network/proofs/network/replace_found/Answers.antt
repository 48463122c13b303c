use Rattle.std.proofs.Common.{sym, subst}
use Rattle.net_types.specs.declared.network.Network.{Network}
use Rattle.live_network.specs.Live.{IsLive}
use Rattle.live_network.proofs.LiveLemmas.{live_later}
use Rattle.live_network.proofs.NetworkLemmas.{found_before, put_back, put_in, replaced_in, stands}
use Rattle.live_network.proofs.network.replace_found.Goals as goal

pub returns-in-Ok-clause-live : goal.returns-in-Ok-clause-live
returns-in-Ok-clause-live c =
    let old = c.args.network.now in
    let new = c.swap_at-before.new.network in
    let is = c.swap_at-before.ensures.network in
    c.in-Ok.ensures.live (record { network = old; links = c.args.links.now }) c.args.device (stands old new c.args.index c.args.device is c.requires.within)
    (replaced_in old new c.args.index c.args.device is c.args.links.now c.swap_at-before.result c.requires.first c.swap_at-before.ensures.device) c.requires.live

pub returns-in-Ok-clause-network : goal.returns-in-Ok-clause-network
returns-in-Ok-clause-network c = put_in c.args.network.now c.swap_at-before.new.network c.args.index c.args.device c.swap_at-before.ensures.network c.requires.first

pub returns-in-Ok-clause-before : goal.returns-in-Ok-clause-before
returns-in-Ok-clause-before c = found_before c.args.network.now.devices c.args.links.now c.args.index c.swap_at-before.result c.args.device c.requires.first c.swap_at-before.ensures.device

pub returns-in-Err-clause-as_before : goal.returns-in-Err-clause-as_before
returns-in-Err-clause-as_before c =
    put_back c.args.network.now c.swap_at-before.new.network c.args.index c.args.device c.swap_at-before.ensures.network c.swap_at-before.result c.swap_at.new.network c.swap_at-before.ensures.device c.swap_at.ensures.network

pub returns-in-Err-clause-live : goal.returns-in-Err-clause-live
returns-in-Err-clause-live c =
    let old = c.args.network.now in
    let new = c.put_at.new.live in
    let links = c.args.links.now in
    let back = put_back old c.swap_at-before.new.network c.args.index c.args.device c.swap_at-before.ensures.network c.swap_at-before.result c.swap_at.new.network c.swap_at-before.ensures.device c.swap_at.ensures.network in
    subst (λ (n : Network). IsLive (record { network = n; links = links }) new) (sym back)
    (live_later (record { network = old; links = links }) c.args.live.now new c.in-Err.ensures.renewed c.in-Err.ensures.as_before c.requires.live)
