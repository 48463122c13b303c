use Rattle.std.proofs.Common.{Vec, Global, ap, ◌∙◌}
use Rattle.std.specs.Prelude.{filter_map}
use Rattle.cube_diagram.specs.Functions.{value_at}
use Rattle.cube_diagram.specs.Paths.{AreRowsWithin}
use Rattle.cube_alg.specs.declared.cut.Piece.{Piece}
use Rattle.pair_rows.specs.Pairs.{shown_by}
use Rattle.pair_rows.proofs.ListLemmas.{of_some}
use Rattle.pair_rows.proofs.RowLemmas.{rows_of_cube}
use Rattle.pair_rows.proofs.work.rows_within.Goals as goal

pub returns : goal.returns
returns c g t =
    let given = c.args.given.now in
    let shows = c.in_ok-rows.ensures.rows ∙ ap (filter_map (shown_by given.pairs)) c.deref.ensures.value in
    let within : AreRowsWithin (value_at given.table given.function) c.args.cube.now c.in-Some.pieces.items =
    of_some (λ (v : Vec Piece Global). AreRowsWithin (value_at given.table given.function) c.args.cube.now v.items) c.in_ok-pieces.field-0 c.in-Some.pieces c.in-Some.is c.in_ok-pieces.ensures.rows in
    rows_of_cube given.pairs c.in_ok-rows.ensures.distinct (value_at given.table given.function) c.args.cube.now c.in-Some.pieces.items within c.in_ok-rows.rows.items shows g t.each
