use Rattle.std.proofs.Common.{map, ap, ◌∙◌}
use Rattle.topo_links.proofs.NameOrder.{sorted_once}
use Rattle.topo_links.specs.Names.{sorted_names}
use Rattle.view_core.proofs.tallies.texts_of.Goals as goal

pub returns : goal.returns
returns c = c.in_ok-found.ensures ∙ (c.in_ok-sort.ensures.ok ∙ (ap sorted_names c.in_ok-texts.ensures ∙ sorted_once (map (λ m. m.text) c.args.mentioned.now)))
