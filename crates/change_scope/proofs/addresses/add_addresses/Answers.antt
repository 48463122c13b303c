use Rattle.std.proofs.Common.{List, subst, take_all}
use Rattle.std.specs.Prelude.{Contains}
use Rattle.net_types.specs.declared.network.NetDevice.{NetDevice}
use Rattle.change_scope.specs.Translated.{AreNamed}
use Rattle.change_scope.proofs.NamedLemmas.{device_next}
use Rattle.change_scope.proofs.addresses.add_addresses.Goals as goal

pub loop-device-preserved : goal.loop-device-preserved
loop-device-preserved c =
    let l = c.loop-device in
    let o = c.in_ok-add_rules.ensures in
    let k = c.add_rules.new.addresses.keys in
    record {
      named = device_next l.addresses.keys k c.args.devices.now l.device-index c.device-item.result c.loop-device-test.true c.device-item.is o.more (subst (AreNamed k) c.as_slice.ensures o.named) l.invariant.named;
      more = λ a t. o.more a (l.invariant.more a t);
    }

pub returns-clause-named : goal.returns-clause-named
returns-clause-named c =
    subst (λ (ds : List NetDevice). (d : NetDevice) → Contains ds d → AreNamed c.loop-device.addresses.keys d.config.nat) (take_all c.loop-device.device-index c.args.devices.now c.loop-device-test.false) c.loop-device.invariant.named
