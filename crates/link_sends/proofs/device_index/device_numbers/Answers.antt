use Rattle.std.proofs.Common.{◌∙◌}
use Rattle.std.specs.Prelude.{nat_eq}
use Rattle.link_sends.proofs.PositionLemmas.{position_take}
use Rattle.link_sends.proofs.device_index.device_numbers.Goals as goal

pub loop-i-preserved : goal.loop-i-preserved
loop-i-preserved c name =
    c.in_ok-add_first.ensures name
    ∙ position_take (λ d. nat_eq d.name name) c.args.devices.now c.loop-i.i c.index-devices-i.result _ c.loop-i-test.true c.index-devices-i.is (c.loop-i.invariant name)
