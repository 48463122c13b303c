use Rattle.std.proofs.Common.{ℕ, sym, ap, ◌∙◌, Vec, Global}
use Rattle.std.specs.Str.{bytes_eq}
use Rattle.ios_lines.specs.Lists.{place_of}
use Rattle.ios_lines.proofs.Keys.{place_by}
use Rattle.ios_lines.proofs.names.NameList.find.Goals as goal

pub returns-clause-value : goal.returns-clause-value
returns-clause-value c =
    c.get_index_of.ensures.index
    ∙ sym (place_by {K = Vec ℕ Global} (λ k. k.items) c.args.name.now (λ k. bytes_eq c.as_bytes.result.now k.items) (λ k. ap (λ x. bytes_eq x k.items) c.as_bytes.ensures) c.self.inside.names.keys)
    ∙ ap (place_of c.args.name.now) c.self.view_is
