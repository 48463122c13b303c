use Rattle.std.proofs.Common.{◌∙◌, ap}
use Rattle.std.proofs.lemmas.Result.{on_ok_weaker, IfErr-weaker}
use Rattle.incr_review.specs.Edited.{rules_edited, with_lists}
use Rattle.incr_review.proofs.FirstLemmas.{fail_map}
use Rattle.incr_review.proofs.rules.edit_rules.Goals as goal

pub returns-in-DropEntry-clause-ok : goal.returns-in-DropEntry-clause-ok
returns-in-DropEntry-clause-ok c =
    let config = c.args.config.now in
    on_ok_weaker c.edit_lists-in-DropEntry.result (λ h. ap (λ x. rules_edited x config) c.in-DropEntry.is ∙ ap (with_lists config.routes) h) c.edit_lists-in-DropEntry.ensures.ok

pub returns-in-DropEntry-clause-fail : goal.returns-in-DropEntry-clause-fail
returns-in-DropEntry-clause-fail c =
    let config = c.args.config.now in
    IfErr-weaker c.edit_lists-in-DropEntry.result _ _ (λ e h. fail_map (λ ls. record { routes = config.routes; lists = ls }) _ (rules_edited c.args.edit.now config) (ap (λ x. rules_edited x config) c.in-DropEntry.is) e h) c.edit_lists-in-DropEntry.ensures.fail
