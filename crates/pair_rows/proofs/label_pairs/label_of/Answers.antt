use Rattle.std.proofs.Common.{sym, ap, ◌∙◌}
use Rattle.net_types.specs.Order.{in_order, outcome_cmp}
use Rattle.net_types.proofs.Ordered.{is_in_order}
use Rattle.net_types.proofs.Outcomes.{total, exact}
use Rattle.pair_rows.proofs.label_pairs.label_of.Goals as goal

pub returns : goal.returns
returns c =
    let outcomes = c.args.outcomes.now in
    let copied = c.in_ok-outcomes.ensures.items_if_clones_equal (λ x y h. h) in
    c.in_ok-label.ensures ∙ ap (in_order outcome_cmp) copied ∙ sym (is_in_order outcome_cmp total exact outcomes outcomes c.requires.order (λ q. (λ h. h, λ h. h)))
