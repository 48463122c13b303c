use Rattle.std.proofs.Common.{ℕ, sym, ap, ◌∙◌, Vec, Global, position}
use Rattle.std.specs.Str.{bytes_eq}
use Rattle.report_text.proofs.NameNumbers.{position-map}
use Rattle.report_text.proofs.names.Numbers.place.Goals as goal

pub returns : goal.returns
returns c =
    c.get_index_of.ensures.index
    ∙ sym (position-map {K = Vec ℕ Global} (λ k. k.items) (bytes_eq c.args.name.now) c.self.inside.names.keys)
    ∙ ap (position (bytes_eq c.args.name.now)) c.self.view_is
