use Rattle.std.proofs.Common.{ℕ, ◌≡◌, None, subst}
use Rattle.task_board.specs.Stands.{region_at, Answers}
use Rattle.task_board.proofs.Settled.{answers}
use Rattle.task_board.proofs.board.Board.take_done.Goals as goal

pub returns-clause-whole : goal.returns-clause-whole
returns-clause-whole g c =
    let inside = c.self.inside in
    subst (λ v. ((k : ℕ) → region_at v.tickets k ≡ None) → Answers (g.M.Meaning.gives v.meaning) v.roots inside.done.items) c.self.view_is
    (answers (g.M.Meaning.gives inside.meaning) inside.roots.items inside.tickets.slots inside.done.items c.self.invariant.0)
