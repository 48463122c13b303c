use Rattle.std.proofs.Common.{sym, ◌∙◌, Some, None}
use Rattle.place_checks.proofs.Hosts.{first_with}
use Rattle.place_checks.proofs.devices.Devices.get.Goals as goal

pub returns-in_default : goal.returns-in_default
returns-in_default c = first_with c.args.self.now c.requires c.args.name.now None (sym c.in_default.is ∙ c.place.ensures.value)

pub returns : goal.returns
returns c = c.first.ensures ∙ first_with c.args.self.now c.requires c.args.name.now (Some c.in-Some.place) (sym c.in-Some.is ∙ c.place.ensures.value)
