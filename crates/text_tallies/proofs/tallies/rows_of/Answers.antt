use Rattle.std.proofs.Common.{ap, ◌∙◌, ◌++◌}
use Rattle.std.specs.Prelude.{option_map, option_to_list, slice_get}
use Rattle.text_tallies.specs.Tallies.{row}
use Rattle.text_tallies.proofs.Lookups.{row_more}
use Rattle.text_tallies.proofs.tallies.rows_of.Goals as goal

pub loop-place-preserved : goal.loop-place-preserved
loop-place-preserved c =
    let es = c.args.tallies.now.seen.entries in
    c.in_ok-push_row.ensures ∙ ap (λ rs. rs ++ option_to_list (option_map (λ e. row (e.0.items, e.1)) (slice_get es c.loop-place.place))) c.loop-place.invariant ∙ row_more es c.loop-place.place
