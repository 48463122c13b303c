use Rattle.std.proofs.Common.{◌≡◌, map, drop, find}
use Rattle.ios_commands.specs.Tables.{fits_row, row_words}
use Rattle.ios_commands.proofs.tables.row_length.Given as goal

abbrev pub invariant-loop-row : goal.invariant-loop-row
invariant-loop-row l = find (fits_row l.words) (map row_words (drop l.row-index l.rows)) ≡ find (fits_row l.words) (map row_words l.rows)
