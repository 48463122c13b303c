use Rattle.std.proofs.Common.{rules}
use Rattle.std.specs.Ordering.{is_lt, eq_by_cmp}
use Rattle.std.proofs.lemmas.Fn.{dedup_same, always_returns_same}
use Rattle.std.proofs.lemmas.List.Sorted.{ranks_by}
use Rattle.fib_lookup.proofs.Sorting.{sorted_once}
use Rattle.device_transfers.specs.MoveOrder.{move_cmp}
use Rattle.device_transfers.proofs.OrderLemmas.{move_total, move_exact}
use Rattle.device_transfers.proofs.order.moves_in_order.Goals as goal

pub returns : goal.returns
returns c =
    sorted_once move_cmp move_total move_exact c.args.moves.items _ _ c.in_ok-sort_by.ensures.permutation
    (c.in_ok-sort_by.ensures.sorted (λ x y. is_lt (move_cmp x y)) (ranks_by move_total (λ x. x)) (always_returns_same _ _ _ (λ a r f' k. search rules)))
    (dedup_same _ (eq_by_cmp move_cmp) _ (λ x y b f' x' y' k. search rules) _ _ c.dedup_by.ensures.filtered)
