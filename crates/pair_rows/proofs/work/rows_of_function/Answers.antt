use Rattle.std.proofs.Common.{ap, ◌∙◌}
use Rattle.std.specs.Prelude.{filter_map}
use Rattle.cube_diagram.specs.Functions.{value_at}
use Rattle.pair_rows.specs.Pairs.{shown_by}
use Rattle.pair_rows.proofs.RowLemmas.{rows_of_pairs}
use Rattle.pair_rows.proofs.work.rows_of_function.Goals as goal

pub returns : goal.returns
returns c g t =
    let given = c.args.given.now in
    let shows = c.in_ok-rows.ensures.rows ∙ ap (filter_map (shown_by given.pairs)) c.deref.ensures.value in
    rows_of_pairs given.pairs c.in_ok-rows.ensures.distinct (value_at given.table given.function) c.in_ok-pieces.pieces.items c.in_ok-pieces.ensures.rows c.in_ok-pieces.ensures.values c.in_ok-rows.rows.items shows g t.each
