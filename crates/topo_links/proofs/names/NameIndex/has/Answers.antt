use Rattle.std.proofs.Common.{ℕ, ap, ◌∙◌, Vec, Global}
use Rattle.std.specs.List.{list_any}
use Rattle.std.specs.Str.{bytes_eq}
use Rattle.topo_links.proofs.Keys.{any_name}
use Rattle.topo_links.proofs.names.NameIndex.has.Goals as goal

pub returns : goal.returns
returns c =
    c.contains.ensures
    ∙ any_name {K = Vec ℕ Global} (λ k. k.items) c.args.name.now (λ k. bytes_eq c.as_bytes.result.now k.items) (λ k. ap (λ x. bytes_eq x k.items) c.as_bytes.ensures) c.self.inside.names.keys
    ∙ ap (list_any (bytes_eq c.args.name.now)) c.self.view_is
