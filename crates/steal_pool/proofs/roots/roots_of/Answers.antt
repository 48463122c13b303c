use Rattle.std.proofs.Common.{List, length, sym, ap, ◌∙◌, subst, AllPairs}
use Rattle.cube_alg.specs.declared.Region.{Region}
use Rattle.task_board.specs.Regions.{LieApart}
use Rattle.steal_pool.proofs.RootLemmas.{one_more, slots_apart, whole_list, same_count}
use Rattle.steal_pool.proofs.roots.roots_of.Goals as goal

pub loop-i-preserved : goal.loop-i-preserved
loop-i-preserved c =
    let cube = c.index-cubes-i.result in
    one_more c.args.cubes.now c.loop-i.i cube cube c.loop-i.roots.items c.push.new.self.items c.loop-i-test.true c.index-cubes-i.is c.loop-i.invariant c.in_ok-push.ensures.items

pub returns-clause-apart : goal.returns-clause-apart
returns-clause-apart c =
    subst (AllPairs LieApart) (sym (whole_list c.args.cubes.now c.loop-i.i c.loop-i.roots.items c.loop-i-test.false c.loop-i.invariant)) (slots_apart 0 c.args.cubes.now)

pub returns-clause-count : goal.returns-clause-count
returns-clause-count c =
    ap (λ (rs : List Region). length rs) (whole_list c.args.cubes.now c.loop-i.i c.loop-i.roots.items c.loop-i-test.false c.loop-i.invariant) ∙ same_count 0 c.args.cubes.now
