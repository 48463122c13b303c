use Rattle.std.proofs.Common.{List, subst}
use Rattle.net_types.specs.declared.network.NetDevice.{NetDevice}
use Rattle.net_view.specs.Borrowed.{world_of}
use Rattle.change_scope.specs.Translated.{HasAllRules}
use Rattle.change_scope.proofs.DifferenceLemmas.{keeps_then}
use Rattle.change_scope.proofs.ScopeLemmas.{AllAlike, kept_pair, more_all_alike, scope}
use Rattle.change_scope.proofs.TurnLemmas.{all_turned}
use Rattle.change_scope.proofs.scope.scope_of.Goals as goal

pub add_devices-requires-clause-pair : goal.add_devices-requires-clause-pair
add_devices-requires-clause-pair c =
    kept_pair c.args.table.now c.translated.new.table _ c.in_ok-set.ensures.kept (record { old = c.requires.old; new = c.requires.new; like = c.requires.like })

pub add_devices-requires-clause-turned : goal.add_devices-requires-clause-turned
add_devices-requires-clause-turned c =
    let g = c.translated.new.table in
    let set = c.in_ok-set.set in
    record {
      below = c.in_ok-set.ensures.below;
      by = c.in_ok-set.ensures.by;
      old = subst (λ (ds : List NetDevice). HasAllRules ds g set) c.as_slice-before.ensures c.in_ok-set.ensures.old;
      new = subst (λ (ds : List NetDevice). HasAllRules ds g set) c.as_slice-after.ensures c.in_ok-set.ensures.new;
    }

pub add_devices-requires-2-clause-pair : goal.add_devices-requires-2-clause-pair
add_devices-requires-2-clause-pair c =
    let f = c.args.table.now in
    let g = c.translated.new.table in
    let k = c.add_devices.new.table in
    kept_pair f k _ (keeps_then f g k c.in_ok-set.ensures.kept c.in_ok-first.ensures.kept) (record { old = c.requires.old; new = c.requires.new; like = c.requires.like })

pub add_devices-requires-2-clause-turned : goal.add_devices-requires-2-clause-turned
add_devices-requires-2-clause-turned c = c.in_ok-first.ensures.turned

pub returns-clause-scope : goal.returns-clause-scope
returns-clause-scope c =
    let w = world_of c.args.old.now.world in
    let v = world_of c.args.new.now.world in
    let g = c.add_devices.new.table in
    let k = c.add_devices-2.new.table in
    let e = c.in_ok-first.ensures in
    let o = c.in_ok-all.ensures in
    let all = c.in_ok-all.all in
    let before = subst (λ (ds : List NetDevice). AllAlike w v g c.in_ok-first.first ds) c.as_slice-before.ensures e.alike in
    let after = subst (λ (ds : List NetDevice). AllAlike w v k all ds) c.as_slice-after.ensures o.alike in
    let old = all_turned k all w.network.devices o.turned.by o.turned.old in
    let new = all_turned k all v.network.devices o.turned.by o.turned.new in
    scope w v k all (more_all_alike w v g k c.in_ok-first.first all w.network.devices o.all before) after o.turned.below old new

pub returns-clause-kept : goal.returns-clause-kept
returns-clause-kept c =
    let f = c.args.table.now in
    let g = c.translated.new.table in
    let k = c.add_devices.new.table in
    let m = c.add_devices-2.new.table in
    keeps_then f k m (keeps_then f g k c.in_ok-set.ensures.kept c.in_ok-first.ensures.kept) c.in_ok-all.ensures.kept
