use Rattle.std.proofs.Common.{◌∙◌, List, ℕ, ap, arith, length}
use Rattle.edit_lines.proofs.WordSizes.{entry_fits}
use Rattle.edit_lines.proofs.reading.read_entry.Goals as goal

pub config_at-requires : goal.config_at-requires
config_at-requires c =
    let built = ap (λ (text : List ℕ). length text) (c.deref.ensures.value ∙ c.in_ok-text.ensures) in
    let fits = entry_fits c.in_ok-list.list.now.extended c.name-item.result c.args.words.now c.in-len2-up.len_at_least c.name-item.is c.requires in
    omega (arith, built, fits)
