use Rattle.std.proofs.Common.{◌∷◌, [], ◌∙◌}
use Rattle.review_core.proofs.Naming.{names_fit}
use Rattle.review_core.proofs.tracing.traced.Goals as goal

pub trace_on-requires-clause-names : goal.trace_on-requires-clause-names
trace_on-requires-clause-names c =
    let packet = c.args.packet.now in
    names_fit c.in_ok-numbered.numbered c.args.devices.items c.new.result.items c.args.table.now c.deref.result.now (packet.device ∷ packet.interface ∷ []) c.in_ok-numbered.ensures c.new.ensures.items (c.deref.ensures.value ∙ c.in_ok-names.ensures) c.requires.names
