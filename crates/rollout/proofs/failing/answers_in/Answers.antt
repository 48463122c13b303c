use Rattle.std.proofs.Common.{subst, sym}
use Rattle.cube_diagram.specs.Functions.{Functions}
use Rattle.net_types.specs.Questions.{AreAnswers}
use Rattle.net_types.specs.World.{World}
use Rattle.loop_search.specs.WholeNets.{HasAll, IsWholeNet}
use Rattle.rollout.proofs.failing.answers_in.Goals as goal

pub answers_by-requires-clause-net : goal.answers_by-requires-clause-net
answers_by-requires-clause-net g c κs within =
    let net = c.net_of-net.result in
    let all = subst (HasAll c.args.live.now.tables.diagrams) (sym c.net_of-net.ensures.scope) c.requires.live.all in
    subst (λ (f : Functions). IsWholeNet f net) (sym c.in_ok-table.ensures) (record { ways = c.net_of-net.ensures.net; all = all })

pub returns : goal.returns
returns g c =
    subst (λ (w : World). AreAnswers w c.args.ttl c.args.questions.now c.in_ok-answers.answers.items) c.net_of-net.ensures.world c.in_ok-answers.ensures
