use Rattle.std.proofs.Common.{ℕ, ap, ◌∙◌, Vec, Global, position}
use Rattle.std.specs.Str.{bytes_eq}
use Rattle.topo_links.proofs.Keys.{place_name}
use Rattle.topo_links.proofs.names.NameIndex.place.Goals as goal

pub returns-clause-value : goal.returns-clause-value
returns-clause-value c =
    c.get_index_of.ensures.index
    ∙ place_name {K = Vec ℕ Global} (λ k. k.items) c.args.name.now (λ k. bytes_eq c.as_bytes.result.now k.items) (λ k. ap (λ x. bytes_eq x k.items) c.as_bytes.ensures) c.self.inside.names.keys
    ∙ ap (position (bytes_eq c.args.name.now)) c.self.view_is
