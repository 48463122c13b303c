use Rattle.std.proofs.Common.{sym, ◌∙◌}
use Rattle.std.specs.Prelude.{Some, None}
use Rattle.topo_links.proofs.Finds.{firsts_with}
use Rattle.topo_links.proofs.by_name.ByName.get.Goals as goal

pub returns-in_default : goal.returns-in_default
returns-in_default g c = firsts_with g.T.Named.name_of c.args.self.now c.requires c.args.name.now None (sym c.in_default.is ∙ c.place.ensures)

pub returns : goal.returns
returns g c = c.first.ensures ∙ firsts_with g.T.Named.name_of c.args.self.now c.requires c.args.name.now (Some c.in-Some.place) (sym c.in-Some.is ∙ c.place.ensures)
