use Rattle.std.proofs.Common.{subst}
use Rattle.net_forms.specs.Networks.{IsFormIn}
use Rattle.net_forms.proofs.compile.known_form.Goals as goal

pub returns : goal.returns
returns c =
    subst (λ d. IsFormIn c.args.network.now d c.in-Some.known.form.now) (c.same_device.ensures c.if-not-same_device.false) c.in-Some.ensures.form
