use Rattle.std.proofs.Common.{◌≡◌, ◌∙◌, ◌==◌, List, Some, ap, get_or, length, position, refl, slice_get, subst, sym}
use Rattle.std.proofs.lemmas.Option.{slice_get_read}
use Rattle.net_types.specs.declared.network.NetDevice.{NetDevice}
use Rattle.net_types.specs.declared.network.Network.{Network}
use Rattle.live_network.specs.Live.{IsLive}
use Rattle.live_network.specs.Replaced.{with_device}
use Rattle.live_network.proofs.NetworkLemmas.{put_in, replaced_in, stands}
use Rattle.net_variants.specs.Kept.{back}
use Rattle.net_variants.proofs.KeptLemmas.{back_grown}
use Rattle.net_variants.proofs.kept.replace_in.Goals as goal

pub returns-clause-network : goal.returns-clause-network
returns-clause-network c =
    let old = c.args.kept.now.network in
    let i = c.args.index in
    let y = c.in_ok-device.device in
    let same = c.in_ok-device.ensures.same in
    let first = subst (λ (z : NetDevice). position (λ (d : NetDevice). d.name == z.name) old.devices ≡ Some i) (sym same) c.requires.first in
    put_in old c.swap_at-before.new.network i y c.swap_at-before.ensures.network first ∙ ap (λ (z : NetDevice). with_device z old) same

pub returns-clause-live : goal.returns-clause-live
returns-clause-live c =
    let old = c.args.kept.now.network in
    let new = c.swap_at-before.new.network in
    let links = c.args.links.now in
    let i = c.args.index in
    let y = c.in_ok-device.device in
    let same = c.in_ok-device.ensures.same in
    let is = c.swap_at-before.ensures.network in
    let x = c.swap_at-before.result in
    let first = subst (λ (z : NetDevice). position (λ (d : NetDevice). d.name == z.name) old.devices ≡ Some i) (sym same) c.requires.first in
    let after = put_in old new i y is first ∙ ap (λ (z : NetDevice). with_device z old) same in
    let live = c.in_ok-replace_at.ensures.live (record { network = old; links = links }) y (stands old new i y is c.requires.within) (replaced_in old new i y is links x first c.swap_at-before.ensures.device) c.requires.live in
    subst (λ (n : Network). IsLive (record { network = n; links = links }) c.replace_at.new.live) after live

pub returns-in_err-push-clause-back : goal.returns-in_err-push-clause-back
returns-in_err-push-clause-back c = ap (back c.args.kept.now.network) c.in_err-push.ensures.items

pub returns-in_err-replace_at-clause-back : goal.returns-in_err-replace_at-clause-back
returns-in_err-replace_at-clause-back c =
    let old = c.args.kept.now.network in
    let i = c.args.index in
    let item = c.index-as_slice-index.result in
    let own = c.in_ok-own.own in
    let is = subst (λ (ds : List NetDevice). item ≡ get_or ds i item) c.as_slice.ensures c.index-as_slice-index.is in
    let there = slice_get_read old.devices (length old.devices) i item refl c.requires.within is in
    let mine = subst (λ (d : NetDevice). slice_get old.devices i ≡ Some d) (sym c.in_ok-own.ensures.same) there in
    back_grown old c.swap_at-before.new.network c.args.kept.now.replaced.items c.push.new.self.items i own c.in_ok-device.device mine c.swap_at-before.ensures.network c.in_ok-push.ensures.items

pub returns-clause-back : goal.returns-clause-back
returns-clause-back c =
    let old = c.args.kept.now.network in
    let i = c.args.index in
    let item = c.index-as_slice-index.result in
    let own = c.in_ok-own.own in
    let is = subst (λ (ds : List NetDevice). item ≡ get_or ds i item) c.as_slice.ensures c.index-as_slice-index.is in
    let there = slice_get_read old.devices (length old.devices) i item refl c.requires.within is in
    let mine = subst (λ (d : NetDevice). slice_get old.devices i ≡ Some d) (sym c.in_ok-own.ensures.same) there in
    back_grown old c.swap_at-before.new.network c.args.kept.now.replaced.items c.push.new.self.items i own c.in_ok-device.device mine c.swap_at-before.ensures.network c.in_ok-push.ensures.items
