use Rattle.std.proofs.Common.{◌≡◌, List, Some, None, map, ap, sym, subst, ◌∙◌}
use Rattle.std.specs.List.Sorted.{IsStrictlySortedBy}
use Rattle.hdr_bits.specs.HeaderBits.{number, IsHeader}
use Rattle.hdr_bits.proofs.Numbers.{header_of-is_header}
use Rattle.net_types.specs.declared.network.Move.{Move}
use Rattle.net_types.specs.Order.{in_order}
use Rattle.net_types.specs.Moves.{moves}
use Rattle.transfer_rel.specs.CubeMoves.{SameSet, move_of}
use Rattle.device_transfers.specs.MoveOrder.{move_cmp}
use Rattle.device_transfers.proofs.MoveLemmas.{entry_of, sorted_moves, no_moves, moves_found, moves_missed}
use Rattle.device_transfers.proofs.transfer.Transfer.moves.Goals as goal

pub returns-in_default-clause-moves : goal.returns-in_default-clause-moves
returns-in_default-clause-moves c w holds each =
    let h = c.args.h.now in
    let v : IsHeader h = subst IsHeader c.to_bits.ensures.header (header_of-is_header c.to_bits.result) in
    let q : entry_of c.args.self.now.entries (number h) ≡ None = ap (λ es. entry_of es (number h)) (sym c.as_slice.ensures) ∙ (ap (λ n. entry_of c.as_slice.result.now n) (sym c.to_bits.ensures.number) ∙ sym c.in_default.ensures) in
    moves_missed w c.args.self.now.place h v c.args.self.now.entries c.new.result.items q holds

pub returns-in_default-clause-order : goal.returns-in_default-clause-order
returns-in_default-clause-order c = subst (IsStrictlySortedBy move_cmp) (sym c.new.ensures.items) no_moves

pub returns-clause-moves : goal.returns-clause-moves
returns-clause-moves c w holds each =
    let h = c.args.h.now in
    let v : IsHeader h = subst IsHeader c.to_bits.ensures.header (header_of-is_header c.to_bits.result) in
    let q : entry_of c.args.self.now.entries (number h) ≡ Some c.in-Some.entry.now = ap (λ es. entry_of es (number h)) (sym c.as_slice.ensures) ∙ (ap (λ n. entry_of c.as_slice.result.now n) (sym c.to_bits.ensures.number) ∙ sym c.in-Some.ensures) in
    let e : c.in_ok-sorted.sorted.items ≡ in_order move_cmp (map (move_of h) c.in-Some.entry.now.moves) = c.in_ok-sorted.ensures ∙ (ap (in_order move_cmp) (c.in_ok-all.ensures ∙ ap (map (move_of h)) c.as_slice-2.ensures)) in
    subst (λ (ms : List Move). SameSet (moves w c.args.self.now.place h) ms) (sym e) (moves_found w c.args.self.now.place h v c.args.self.now.entries c.in-Some.entry.now q each)

pub returns-clause-order : goal.returns-clause-order
returns-clause-order c = subst (IsStrictlySortedBy move_cmp) (sym c.in_ok-sorted.ensures) (sorted_moves c.in_ok-all.all.items)
