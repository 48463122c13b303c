use Rattle.std.proofs.Common.{◌≡◌, ◌+◌, ◌∙◌, [], All, ap, get_or, map, refl, subst, sym, take}
use Rattle.std.proofs.lemmas.List.{take_all}
use Rattle.std.proofs.lemmas.List.Elements.{All-cons, All-nil}
use Rattle.live_network.specs.Live.{IsLive}
use Rattle.net_types.specs.declared.network.Network.{Network}
use Rattle.net_types.specs.World.{World}
use Rattle.net_view.specs.Borrowed.{world_of}
use Rattle.rollout.specs.Failing.{IsFirstFailure}
use Rattle.rollout.specs.Steps.{AllHold, FirstFails, FirstStepFails, IsRolloutAnswer, network_after, networks, world}
use Rattle.rollout.proofs.StepLemmas.{first_step_fails, network_after_all, one_more}
use Rattle.rollout.proofs.steps.check_changes.Goals as goal

pub loop-change-init : goal.loop-change-init
loop-change-init g c =
    let links = c.args.rollout.now.links.now in
    let t = c.args.ttl in
    let questions = c.args.questions.now in
    let same = sym c.in_ok-network.ensures.same in
    record {
      step = refl;
      network = c.in_ok-network.ensures.same;
      live = subst (λ n. IsLive (world links n) c.args.live.now) same c.requires.live;
      meets = subst (λ n. AllHold t questions (world links n)) same c.requires.hold;
      hold = All-cons (AllHold t questions) (world links c.args.rollout.now.base.now) [] c.requires.hold (All-nil (AllHold t questions));
    }

pub failure_after-requires-clause-live : goal.failure_after-requires-clause-live
failure_after-requires-clause-live g c κs within = subst (λ (w : World). IsLive w c.loop-change.live) (sym c.step_between-at.ensures.old) c.loop-change.invariant.live

pub failure_after-requires-clause-hold : goal.failure_after-requires-clause-hold
failure_after-requires-clause-hold g c κs within = subst (AllHold c.args.ttl c.args.questions.now) (sym c.step_between-at.ensures.old) c.loop-change.invariant.meets

pub returns-in-Some : goal.returns-in-Some
returns-in-Some g c =
    let links = c.args.rollout.now.links.now in
    let base = c.args.rollout.now.base.now in
    let changes = c.args.rollout.now.changes.now in
    let i = c.loop-change.change-index in
    let d = c.change-item.result in
    let known = c.loop-change.invariant in
    let failure = c.in-Some.failure in
    let t = c.args.ttl in
    let questions = c.args.questions.now in
    let after : Network = network_after (get_or changes i d) (network_after_all base (take i changes)) in
    let is : c.in_ok-next.next ≡ after = c.in_ok-next.ensures ∙ ap (network_after d) known.network ∙ ap (λ x. network_after x (network_after_all base (take i changes))) c.change-item.is in
    let told = subst (IsFirstFailure t questions (world_of c.step_between-at.result.networks.new)) c.in-Some.is c.in_ok-failure.ensures.failure in
    let found = subst (FirstFails t questions failure.question failure.header) c.step_between-at.ensures.new told in
    let fails = subst (λ n. FirstFails t questions failure.question failure.header (world links n)) is found in
    let first = first_step_fails links t questions base changes i d failure.question failure.header c.loop-change-test.true known.hold fails in
    let counted = subst (λ n. FirstStepFails t questions (map (world links) (networks base changes)) n failure.question failure.header) (ap (λ n. n + 1) (sym known.step)) first in
    subst (IsRolloutAnswer t questions (map (world links) (networks base changes))) (sym c.fails_at.ensures) counted

pub loop-change-preserved : goal.loop-change-preserved
loop-change-preserved g c =
    let links = c.args.rollout.now.links.now in
    let base = c.args.rollout.now.base.now in
    let changes = c.args.rollout.now.changes.now in
    let i = c.loop-change.change-index in
    let d = c.change-item.result in
    let known = c.loop-change.invariant in
    let t = c.args.ttl in
    let questions = c.args.questions.now in
    let after : Network = network_after (get_or changes i d) (network_after_all base (take i changes)) in
    let is : c.in_ok-next.next ≡ after = c.in_ok-next.ensures ∙ ap (network_after d) known.network ∙ ap (λ x. network_after x (network_after_all base (take i changes))) c.change-item.is in
    let told = subst (IsFirstFailure t questions (world_of c.step_between-at.result.networks.new)) c.in_default.is c.in_ok-failure.ensures.failure in
    let meets : AllHold t questions (world links c.in_ok-next.next) = subst (AllHold t questions) c.step_between-at.ensures.new told in
    let more = one_more links t questions base changes i d c.loop-change-test.true known.hold (subst (λ n. AllHold t questions (world links n)) is meets) in
    record {
      step = ap (λ n. n + 1) known.step;
      network = is ∙ more.network;
      live = subst (λ (w : World). IsLive w c.failure_after.new.live) c.step_between-at.ensures.new c.in_ok-failure.ensures.live;
      meets = meets;
      hold = more.hold;
    }

pub returns : goal.returns
returns g c =
    let r = c.args.rollout.now in
    let all = take_all c.loop-change.change-index r.changes.now c.loop-change-test.false in
    subst (λ cs. All (AllHold c.args.ttl c.args.questions.now) (map (world r.links.now) (networks r.base.now cs))) all c.loop-change.invariant.hold
