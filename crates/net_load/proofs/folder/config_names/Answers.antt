use Rattle.std.proofs.Common.{ap, ◌∙◌, Global}
use Rattle.std.specs.Prelude.{string_bytes}
use Rattle.std.proofs.lemmas.List.Filters.{dedup_is}
use Rattle.topo_links.specs.Names.{sorted_names}
use Rattle.topo_links.proofs.NameOrder.{dedup_sorted}
use Rattle.net_load.proofs.folder.config_names.Goals as goal

pub returns : goal.returns
returns c = dedup_sorted (string_bytes {Z = Global}) c.in_ok-found.found.items _ _ c.in_ok-sort.ensures.permutation c.in_ok-sort.ensures.sorted (dedup_is _ _ _ c.dedup.ensures.filtered) ∙ ap sorted_names c.in_ok-found.ensures
