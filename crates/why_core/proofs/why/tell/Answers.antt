use Rattle.std.proofs.Common.{subst, List, IfOk}
use Rattle.net_types.specs.declared.network.Place.{Place}
use Rattle.why_core.specs.Cases.{Ground, ground_of}
use Rattle.why_core.specs.Told.{IsTold}
use Rattle.why_core.proofs.why.tell.Goals as goal

pub returns : goal.returns
returns c =
    let sections = c.args.reported.now.sections.items in
    subst (λ (g : Ground). IfOk c.tell_on.result (IsTold g c.args.both.now.ingress c.args.manner sections)) c.in_ok-basis.ensures
    (subst (λ (places : List Place). IfOk c.tell_on.result (IsTold (ground_of c.in_ok-basis.basis) places c.args.manner sections)) c.as_slice.ensures c.tell_on.ensures)
