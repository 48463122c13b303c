use Rattle.std.proofs.Common.{map, length}
use Rattle.acl_audit.proofs.unions.Unions.over.Given as goal
use Rattle.acl_audit.proofs.UnionLemmas.{HasLevels, items_of}

abbrev pub invariant-levels : goal.invariant-levels
invariant-levels l = HasLevels l.fn.diagrams l.diagrams l.entries (map items_of l.levels.items) l.level.items

abbrev pub decreases-levels : goal.decreases-levels
decreases-levels l = length l.level.items
