use Rattle.std.proofs.Common.{Contains, take}
use Rattle.net_types.specs.declared.network.NetDevice.{NetDevice}
use Rattle.change_scope.specs.Translated.{AreNamed, HasMore}
use Rattle.change_scope.proofs.addresses.add_addresses.Given as goal

abbrev pub invariant-loop-device : goal.invariant-loop-device
invariant-loop-device l = record {
  named : (d : NetDevice) → Contains (take l.device-index l.devices) d → AreNamed l.addresses.keys d.config.nat;
  more : HasMore l.fn.addresses.keys l.addresses.keys;
}
