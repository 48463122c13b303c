use Rattle.std.proofs.Common.{◌++◌, codes, ap, ◌∙◌}
use Rattle.std.specs.List.{join_by}
use Rattle.json_text.proofs.Joined.{two_more}
use Rattle.answer_view.specs.ShownJson.{count_member, counts_json}
use Rattle.answer_view.proofs.json.append_counts.Goals as goal

pub returns : goal.returns
unfolding counts_json
returns c =
    let counts = c.in_ok-append_group_counts.ensures ∙ ap (λ gs. c.append.new.out.items ++ join_by (count_member c.args.answered.now) (codes ", ") gs) c.groups_of.ensures in
    two_more _ _ _ _ _ (two_more _ _ _ _ _ (two_more _ _ _ _ _ c.in_ok-append_front.ensures c.in_ok-append_number.ensures) c.in_ok-append.ensures) counts
