use Rattle.std.proofs.Common.{ap, ◌∙◌, position}
use Rattle.std.specs.Str.{bytes_eq}
use Rattle.topo_links.specs.ByName.{firsts_of}
use Rattle.topo_links.proofs.Finds.{name_place}
use Rattle.topo_links.proofs.by_name.ByName.place.Goals as goal

pub returns : goal.returns
returns g c = c.place.ensures.value ∙ ap (position (bytes_eq c.args.name.now)) c.requires.names ∙ name_place g.T.Named.name_of c.args.name.now (firsts_of c.args.self.now)
