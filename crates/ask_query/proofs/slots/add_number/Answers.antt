use Rattle.std.proofs.Common.{ℕ, List, [], ◌∷◌, ◌++◌, sym, ap, subst, ◌∙◌, arith}
use Rattle.ask_query.specs.declared.slots.Slot.{Slot}
use Rattle.ask_query.specs.Slots.{AreBelow, IsInSlot}
use Rattle.ask_query.proofs.SlotLemmas.{below_put, kept_put, added_put, below_more, kept_more, added_more}
use Rattle.ask_query.proofs.slots.add_number.Goals as goal

pub returns-then-slot-len-clause-below : goal.returns-then-slot-len-clause-below
returns-then-slot-len-clause-below c =
    let within = c.if-slot-len.true in
    let count = c.len.ensures in
    let same = c.args.slots.now.ok in
    below_put c.args.slots.now.items c.args.slot c.args.number c.index_mut.result.now (record { numbers = c.push.new.self }) (omega (arith, within, count, same)) c.index_mut.ensures.value c.in_ok-push.ensures.items

pub returns-then-slot-len-clause-kept : goal.returns-then-slot-len-clause-kept
returns-then-slot-len-clause-kept c =
    let within = c.if-slot-len.true in
    let count = c.len.ensures in
    let same = c.args.slots.now.ok in
    kept_put c.args.slots.now.items c.args.slot c.args.number c.index_mut.result.now (record { numbers = c.push.new.self }) (omega (arith, within, count, same)) c.index_mut.ensures.value c.in_ok-push.ensures.items

pub returns-then-slot-len-clause-added : goal.returns-then-slot-len-clause-added
returns-then-slot-len-clause-added c =
    let within = c.if-slot-len.true in
    let count = c.len.ensures in
    let same = c.args.slots.now.ok in
    added_put c.args.slots.now.items c.args.slot c.args.number c.index_mut.result.now (record { numbers = c.push.new.self }) (omega (arith, within, count, same)) c.index_mut.ensures.value c.in_ok-push.ensures.items

pub returns-clause-below : goal.returns-clause-below
returns-clause-below c count a l =
    let slot : Slot = record { numbers = c.push-2.new.self } in
    subst (AreBelow count) (sym c.in_ok-push-3.ensures.items) (below_more c.args.slots.now.items c.args.number slot (c.in_ok-push-2.ensures.items ∙ ap (λ (xs : List ℕ). xs ++ c.args.number ∷ []) c.new-numbers.ensures.items) count a l)

pub returns-clause-kept : goal.returns-clause-kept
returns-clause-kept c n i =
    let slot : Slot = record { numbers = c.push-2.new.self } in
    subst (λ (ss : List Slot). IsInSlot ss n) (sym c.in_ok-push-3.ensures.items) (kept_more c.args.slots.now.items c.args.number slot (c.in_ok-push-2.ensures.items ∙ ap (λ (xs : List ℕ). xs ++ c.args.number ∷ []) c.new-numbers.ensures.items) n i)

pub returns-clause-added : goal.returns-clause-added
returns-clause-added c =
    let slot : Slot = record { numbers = c.push-2.new.self } in
    subst (λ (ss : List Slot). IsInSlot ss c.args.number) (sym c.in_ok-push-3.ensures.items) (added_more c.args.slots.now.items c.args.number slot (c.in_ok-push-2.ensures.items ∙ ap (λ (xs : List ℕ). xs ++ c.args.number ∷ []) c.new-numbers.ensures.items))
