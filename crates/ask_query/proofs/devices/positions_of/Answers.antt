use Rattle.std.proofs.Common.{◌≡◌, ap, ◌∙◌}
use Rattle.net_types.specs.Routes.{same_text}
use Rattle.ask_query.proofs.DeviceLemmas.{position_take}
use Rattle.ask_query.proofs.devices.positions_of.Goals as goal

pub loop-position-preserved : goal.loop-position-preserved
loop-position-preserved c name =
    let f = c.index-interfaces-position.result in
    let test : same_text c.as_bytes.result.now name ≡ same_text f.name name = ap (λ k. same_text k name) c.as_bytes.ensures in
    c.in_ok-add_first.ensures name
    ∙ position_take (λ i. same_text i.name name) c.args.interfaces.now c.loop-position.position f (same_text c.as_bytes.result.now name) _ c.loop-position-test.true c.index-interfaces-position.is test (c.loop-position.invariant name)
