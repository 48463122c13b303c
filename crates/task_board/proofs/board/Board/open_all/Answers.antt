use Rattle.std.proofs.Common.{[], sym, subst, ap, length, arith}
use Rattle.task_board.specs.Stands.{Stands, Opens}
use Rattle.task_board.proofs.Settled.{stands_opened, regions_opened, slots_kept}
use Rattle.task_board.proofs.board.Board.open_all.Goals as goal

pub invariant_of-result : goal.invariant_of-result
invariant_of-result g c =
    let gives = g.M.Meaning.gives c.args.meaning in
    let new = c.open_parts.new.slots.slots in
    let regions = regions_opened c.args.roots.now c.as_mut_slice.result.now c.in_ok-parts.parts.items c.open_parts.new.rest c.open_parts.ensures.regions c.as_mut_slice.ensures.value c.in_ok-parts.ensures in
    let slots = slots_kept c.new-tickets.result c.reserve.new.self c.new-tickets.ensures.empty c.in_ok-reserve.ensures.rest_kept in
    let opens = subst (λ s. Opens s new c.open_parts.new.rest) slots c.open_parts.ensures.opens in (
      subst (λ ls. Stands gives c.in_ok-kept.kept.items new ls) (sym c.new.ensures.items)
          (subst (λ rs. Stands gives rs new []) (sym c.in_ok-kept.ensures)
          (stands_opened gives c.args.roots.now new c.open_parts.new.rest c.requires.apart regions opens)),
      omega (arith, c.open_parts.ensures.len, c.open_parts.ensures.capacity, c.in_ok-reserve.ensures.room, c.len.ensures, ap length c.as_mut_slice.ensures.value, c.as_mut_slice.ensures.len),
    )

pub returns-clause-tickets : goal.returns-clause-tickets
returns-clause-tickets g c =
    record {
      parts = c.open_parts.new.rest;
      regions = regions_opened c.args.roots.now c.as_mut_slice.result.now c.in_ok-parts.parts.items c.open_parts.new.rest c.open_parts.ensures.regions c.as_mut_slice.ensures.value c.in_ok-parts.ensures;
      opens =
          subst (λ s. Opens s c.open_parts.new.slots.slots c.open_parts.new.rest)
          (slots_kept c.new-tickets.result c.reserve.new.self c.new-tickets.ensures.empty c.in_ok-reserve.ensures.rest_kept)
          c.open_parts.ensures.opens;
    }
