use Rattle.std.proofs.Common.{rules}
use Rattle.std.proofs.lemmas.Result.{IfOk-weaker}
use Rattle.place_ways.proofs.AddLemmas.{given_kept}
use Rattle.incr_review.proofs.ChangedLemmas.{others_from}
use Rattle.incr_review.proofs.changed.with_difference.Goals as goal

pub with_missing-requires-2-clause-ways : goal.with_missing-requires-2-clause-ways
with_missing-requires-2-clause-ways c = given_kept c.args.table.now c.with_missing.new.table c.args.after.now c.in_ok-lost.ensures.kept c.requires.after

pub with_missing-requires-2-clause-others : goal.with_missing-requires-2-clause-others
with_missing-requires-2-clause-others c = given_kept c.args.table.now c.with_missing.new.table c.args.before.now c.in_ok-lost.ensures.kept c.requires.before

pub returns-clause-found : goal.returns-clause-found
returns-clause-found c =
    IfOk-weaker c.with_missing-2.result _ _
    (λ all others. others_from c.args.table.now c.with_missing.new.table c.with_missing-2.new.table all c.args.after.now c.args.before.now c.in_ok-lost.ensures.kept c.requires.after c.requires.before others)
    c.with_missing-2.ensures.others

pub returns-clause-wider : goal.returns-clause-wider
returns-clause-wider c = IfOk-weaker c.with_missing-2.result _ _ (λ x made. search rules) c.with_missing-2.ensures.wider

pub returns-clause-lost : goal.returns-clause-lost
returns-clause-lost c = IfOk-weaker c.with_missing-2.result _ _ (λ x made. search rules) c.with_missing-2.ensures.wider
