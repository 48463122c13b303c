use Rattle.steal_pool.proofs.PieceLemmas.{worked_on, finer_on}
use Rattle.steal_pool.proofs.pieces.step.Goals as goal

pub returns : goal.returns
returns g c = record {
  worked = λ r worked. worked_on g.K.Call.gives r c.in-Some.part c.args.pieces.finished c.work_part.new.finished c.args.pieces.rest.items c.pop.new.self.items c.work_part.new.rest.items c.in_ok-added.added c.in-Some.ensures.items c.in_ok-added.ensures worked;
  finer = λ r finer. finer_on g.K.Call.gives r c.in-Some.part c.args.pieces.finished c.work_part.new.finished c.args.pieces.rest.items c.pop.new.self.items c.work_part.new.rest.items c.in_ok-added.added c.in-Some.ensures.items c.in_ok-added.ensures finer;
}
