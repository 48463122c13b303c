use Rattle.std.proofs.Common.{◌≡◌, ◌≢◌, ◌↔◌, ℕ, Some, sym, ◌∙◌, subst, ap, arith}
use Rattle.task_board.specs.Stands.{region_at}
use Rattle.task_board.proofs.Settled.{settled}
use Rattle.task_board.proofs.board.Board.settle.Goals as goal

pub invariant_of-self : goal.invariant_of-self
invariant_of-self g c =
    let inside = c.self.inside in
    let held : c.copied-held.result ≡ region_at inside.tickets.slots c.args.ticket = c.copied-held.ensures ∙ c.get.ensures in
    let same : (slot h : ℕ) → g.M.Meaning.gives c.args.meaning.now slot h ≡ g.M.Meaning.gives inside.meaning slot h = g.met.M.Meaning.same c.args.meaning.now inside.meaning (sym c.eq-same.ensures ∙ c.if-same.true) in (
      settled (g.M.Meaning.gives inside.meaning) (g.M.Meaning.gives c.args.meaning.now) inside.roots.items inside.tickets.slots c.remove.new.self.slots c.open_parts.new.slots.slots inside.done.items c.args.finished.items c.append.new.self.items c.args.ticket c.args.region.now c.args.rest.now c.open_parts.new.rest
          same c.self.invariant.0 c.requires.worked (sym held ∙ c.is_held.ensures.0 c.if-is_held.true) (record { closed = c.remove.ensures.updates.changed; others = c.remove.ensures.updates.others }) c.open_parts.ensures.opens c.open_parts.ensures.regions c.append.ensures.items,
      omega (arith, c.self.invariant.1, c.remove.ensures.len, c.remove.ensures.capacity, c.open_parts.ensures.len, c.open_parts.ensures.capacity, c.requires.room, ap (λ v. v.spare) c.self.view_is),
    )

pub returns-clause-held : goal.returns-clause-held
returns-clause-held g c =
    let held : c.copied-held.result ≡ region_at c.args.self.now.tickets c.args.ticket = c.copied-held.ensures ∙ c.get.ensures ∙ ap (λ v. region_at v.tickets c.args.ticket) c.self.view_is in
    λ r. subst (λ o. (c.another.result ≡ Some r) ↔ ((o ≡ Some r) × (r ≢ c.args.region.now))) held (c.another.ensures r)
