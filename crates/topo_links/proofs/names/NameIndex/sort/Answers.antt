use Rattle.std.proofs.Common.{ℕ, ap, ◌∙◌, Vec, Global}
use Rattle.topo_links.specs.Names.{sorted_names}
use Rattle.topo_links.proofs.NameOrder.{sorted_keys}
use Rattle.topo_links.proofs.names.NameIndex.sort.Goals as goal

pub returns-clause-ok : goal.returns-clause-ok
returns-clause-ok c =
    sorted_keys {K = Vec ℕ Global} (λ k. k.items) c.self.inside.names.keys _ c.in_ok-sort.ensures.reordered.0 c.in_ok-sort.ensures.sorted c.in_ok-sort.ensures.unique
    ∙ ap sorted_names c.self.view_is
