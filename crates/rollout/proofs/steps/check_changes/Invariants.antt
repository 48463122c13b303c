use Rattle.std.proofs.Common.{◌≡◌, All, take, map}
use Rattle.live_network.specs.Live.{IsLive}
use Rattle.rollout.specs.Steps.{AllHold, networks, world}
use Rattle.rollout.proofs.StepLemmas.{network_after_all}
use Rattle.rollout.proofs.steps.check_changes.Given as goal

abbrev pub invariant-loop-change : goal.invariant-loop-change
invariant-loop-change g l = record {
  step : l.step ≡ l.change-index;
  network : l.network ≡ network_after_all l.rollout.base.now (take l.change-index l.rollout.changes.now);
  live : IsLive (world l.rollout.links.now l.network) l.live;
  meets : AllHold l.ttl l.questions (world l.rollout.links.now l.network);
  hold : All (AllHold l.ttl l.questions) (map (world l.rollout.links.now) (networks l.rollout.base.now (take l.change-index l.rollout.changes.now)));
}
