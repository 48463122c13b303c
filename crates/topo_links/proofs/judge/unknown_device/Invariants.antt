use Rattle.std.proofs.Common.{◌≡◌, map, drop, find}
use Rattle.topo_links.specs.Check.{is_unknown}
use Rattle.topo_links.proofs.judge.unknown_device.Given as goal

abbrev pub invariant-loop-device : goal.invariant-loop-device
invariant-loop-device l = find (is_unknown l.old.devices.items.now l.new.devices.items.now) (map (λ e. e.0) l.ends) ≡ find (is_unknown l.old.devices.items.now l.new.devices.items.now) (map (λ e. e.0) (drop l.device-index l.ends))
