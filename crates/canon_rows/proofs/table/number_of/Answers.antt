use Rattle.std.proofs.Common.{rules}
use Rattle.canon_rows.proofs.NodeRows.{distinct_from}
use Rattle.canon_rows.proofs.table.number_of.Goals as goal

pub returns-clause-distinct : goal.returns-clause-distinct
returns-clause-distinct c = distinct_from _ (λ x. search rules) c.insert_full.new.self.keys c.insert_full.ensures.unique
