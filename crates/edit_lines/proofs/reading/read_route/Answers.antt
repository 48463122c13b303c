use Rattle.std.proofs.Common.{◌∙◌, List, ℕ, ap, arith, length}
use Rattle.edit_lines.proofs.WordSizes.{route_fits}
use Rattle.edit_lines.proofs.reading.read_route.Goals as goal

pub config_at-requires : goal.config_at-requires
config_at-requires c =
    let built = ap (λ (text : List ℕ). length text) (c.deref.ensures.value ∙ c.in_ok-text.ensures) in
    let fits = route_fits c.as_slice.result.now c.args.words.now c.in-len1-up.len_at_least c.requires in
    omega (arith, built, fits)
