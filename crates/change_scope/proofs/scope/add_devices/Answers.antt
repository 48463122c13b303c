use Rattle.std.proofs.Common.{subst, take_all}
use Rattle.net_view.specs.Borrowed.{world_of}
use Rattle.change_scope.proofs.DifferenceLemmas.{all_same, all_then, keeps_same, keeps_then}
use Rattle.change_scope.proofs.ScopeLemmas.{AllAlike, alike_next, alike_none, kept_pair}
use Rattle.change_scope.proofs.scope.add_devices.Goals as goal

pub loop-device-init : goal.loop-device-init
loop-device-init c =
    record {
      kept = keeps_same c.args.table.now;
      turned = c.requires.turned;
      more = all_same c.args.table.now c.args.set;
      alike = alike_none (world_of c.args.pair.old.now.world) (world_of c.args.pair.new.now.world) c.args.table.now c.args.set;
    }

pub add_device-requires-clause-pair : goal.add_device-requires-clause-pair
add_device-requires-clause-pair c = kept_pair c.args.table.now c.loop-device.table c.args.pair c.loop-device.invariant.kept c.requires.pair

pub loop-device-preserved : goal.loop-device-preserved
loop-device-preserved c =
    let w = world_of c.args.pair.old.now.world in
    let v = world_of c.args.pair.new.now.world in
    let f = c.args.table.now in
    let l = c.loop-device in
    let g = l.table in
    let k = c.add_device.new.table in
    let o = c.in_ok-all.ensures in
    let r = c.in_ok-all.all in
    record {
      kept = keeps_then f g k l.invariant.kept o.kept;
      turned = o.turned;
      more = all_then f g k c.args.set l.all r l.invariant.more o.all;
      alike = alike_next w v g k l.all r c.args.devices.now l.device-index c.device-item.result c.loop-device-test.true c.device-item.is o.all l.invariant.alike o.alike;
    }

pub returns-clause-alike : goal.returns-clause-alike
returns-clause-alike c =
    let l = c.loop-device in
    subst (AllAlike (world_of c.args.pair.old.now.world) (world_of c.args.pair.new.now.world) l.table l.all) (take_all l.device-index c.args.devices.now c.loop-device-test.false) l.invariant.alike
