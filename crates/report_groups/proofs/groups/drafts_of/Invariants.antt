use Rattle.std.proofs.Common.{◌≡◌, map, take, ◌∷◌, []}
use Rattle.report_groups.specs.Groups.{cells_of, cell_of}
use Rattle.report_groups.specs.Drafts.{shown}
use Rattle.report_groups.proofs.groups.drafts_of.Given as goal

abbrev pub invariant-loop-row : goal.invariant-loop-row
invariant-loop-row l = map (λ d. cells_of (shown d)) l.drafts.items ≡ map (λ row. cell_of row ∷ []) (take l.row-index l.rows)
