-- Edits read line by line.
use Rattle.std.proofs.Common.{List, ◌++◌}
use Rattle.std.specs.Prelude.{Result}
use Rattle.edit_lines.specs.declared.reading.EditLine.{EditLine}
use Rattle.edit_lines.specs.declared.refusal.EditsFail.{EditsFail}
use Rattle.edit_lines.specs.Reading.{Effect, edits_before, first_refusal, unless}

-- the edits that are read so far, and what the lines after them say
abbrev pub behind : List EditLine → List Effect → Result (List EditLine) EditsFail
behind edits es = unless (edits ++ edits_before es) (first_refusal es)
