use Rattle.std.proofs.Common.{map, subst, sym}
use Rattle.rollout.specs.Failing.{IsFirstFailure}
use Rattle.rollout.specs.Steps.{IsRolloutAnswer, networks, world}
use Rattle.rollout.proofs.StepLemmas.{first_network_fails}
use Rattle.rollout.proofs.steps.check_opened.Goals as goal

pub returns-in-Some : goal.returns-in-Some
returns-in-Some g c =
    let links = c.args.rollout.now.links.now in
    let base = c.args.rollout.now.base.now in
    let changes = c.args.rollout.now.changes.now in
    let failure = c.in-Some.first in
    let t = c.args.ttl in
    let questions = c.args.questions.now in
    let found = subst (IsFirstFailure t questions (world links base)) c.in-Some.is c.in_ok-first.ensures in
    subst (IsRolloutAnswer t questions (map (world links) (networks base changes))) (sym c.fails_at.ensures) (first_network_fails links t questions base changes failure.question failure.header found)

pub check_changes-requires-clause-hold : goal.check_changes-requires-clause-hold
check_changes-requires-clause-hold g c κs within =
    subst (IsFirstFailure c.args.ttl c.args.questions.now (world c.args.rollout.now.links.now c.args.rollout.now.base.now)) c.in_default.is c.in_ok-first.ensures
