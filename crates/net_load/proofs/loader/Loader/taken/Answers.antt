use Rattle.std.proofs.Common.{sym, ◌∙◌}
use Rattle.std.specs.Prelude.{Some, None}
use Rattle.net_load.proofs.Hosts.{at_place}
use Rattle.net_load.proofs.loader.Loader.taken.Goals as goal

pub returns-in_default : goal.returns-in_default
returns-in_default c = at_place c.args.self.now.hosts c.args.self.now.loaded.items c.args.hostname.now None c.requires.hosts (sym c.in_default.is ∙ c.place.ensures.value)

pub returns : goal.returns
returns c = c.file_at.ensures ∙ at_place c.args.self.now.hosts c.args.self.now.loaded.items c.args.hostname.now (Some c.in-Some.place) c.requires.hosts (sym c.in-Some.is ∙ c.place.ensures.value)
