use Rattle.std.proofs.Common.{refl, subst, sym}
use Rattle.net_view.specs.Borrowed.{world_of}
use Rattle.net_types.specs.World.{World}
use Rattle.change_scope.specs.Devices.{AreComparable}
use Rattle.change_scope.proofs.scope.both_named.Goals as goal

pub returns : goal.returns
returns c =
    let d = c.in-Some.old.device.now in
    let e = c.in-Some-device_named.new.device.now in
    let p = c.args.pair in
    record {
      old_found = sym c.in-Some.ensures.device;
      new_found = sym c.in-Some-device_named.ensures.device;
      old_form = c.in-Some.ensures.form;
      new_form = c.in-Some-device_named.ensures.form;
      comparable = subst (λ (x : World). AreComparable (world_of p.old.now.world) x d e) c.requires.new.wiring (subst (λ (x : World). AreComparable x p.new.now.wiring d e) c.requires.old.wiring (c.if-not-are_comparable.ensures refl));
    }
