use Rattle.std.proofs.Common.{◌≡◌, false, true}
use Rattle.region_walk.proofs.DeviceLemmas.{among_one, none_behind}
use Rattle.region_walk.proofs.devices.is_at.Goals as goal

pub returns-then-state-visits : goal.returns-then-state-visits
returns-then-state-visits c = (
  λ e. absurd (let both : false ≡ true = e in cc),
  λ a. absurd (none_behind c.args.device c.args.visits.now c.args.state c.if-state-visits.true a),
)

pub returns : goal.returns
returns c = among_one c.args.device c.args.visits.now c.args.state c.index-visits-state.result c.if-state-visits.false
