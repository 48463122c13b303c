use Rattle.std.proofs.Common.{None, subst}
use Rattle.chunk_rope.specs.Linked.{Leads}
use Rattle.chunk_rope.specs.Walked.{left_in}
use Rattle.chunk_rope.proofs.Links.{nowhere, steps_last}
use Rattle.chunk_rope.proofs.cursor.CursorIterator.next.Goals as goal

pub returns-in_default-next-clause-steps : goal.returns-in_default-next-clause-steps
returns-in_default-next-clause-steps g c =
    let bs = c.self.inside.trail.blocks in let over = c.in_default.ensures in
    steps_last c.args.self.now (left_in c.self.inside.items) (left_in c.next_in.new.items) (left_in c.self.inside.tail) (left_in c.next_in-in_default-next.new.items) bs c.next_in-in_default-next.result
    c.self.view_is (nowhere bs (subst (λ o. Leads o bs None) c.in_default-next.is c.self.invariant)) over.0 over.1 c.next_in-in_default-next.ensures
