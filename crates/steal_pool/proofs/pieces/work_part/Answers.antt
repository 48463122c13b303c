use Rattle.std.proofs.Common.{List, ◌++◌, map, ap, ◌∙◌, subst, arith}
use Rattle.cube_alg.specs.declared.Region.{Region}
use Rattle.task_board.specs.declared.leaf.Part.{Part}
use Rattle.task_board.specs.Stands.{part_of}
use Rattle.steal_pool.specs.Work.{IsWorkOf}
use Rattle.steal_pool.proofs.PieceLemmas.{adds_nothing, adds_whole, adds_parts}
use Rattle.steal_pool.proofs.pieces.work_part.Goals as goal

pub returns-in-Nothing : goal.returns-in-Nothing
returns-in-Nothing g c =
    adds_nothing g.K.Call.gives c.args.region c.args.finished.now c.args.rest.now.items (subst (IsWorkOf g.K.Call.gives c.args.region) c.in-Nothing.is (c.in_ok-work.ensures))

pub returns-in-Whole : goal.returns-in-Whole
returns-in-Whole g c =
    adds_whole g.K.Call.gives c.args.region c.in-Whole.value c.args.finished.now c.push_reserved.new.self c.args.rest.now.items (subst (IsWorkOf g.K.Call.gives c.args.region) c.in-Whole.is (c.in_ok-work.ensures)) c.push_reserved.ensures.items (let s = c.push_reserved.ensures.spare in let some = c.requires in omega (arith, s, some))

pub returns-in_ok-append-in-Parts : goal.returns-in_ok-append-in-Parts
returns-in_ok-append-in-Parts g c =
    adds_parts g.K.Call.gives c.args.region c.args.finished.now c.in-Parts.parts.items c.args.rest.now.items c.append.new.self.items c.len.result
    (subst (IsWorkOf g.K.Call.gives c.args.region) c.in-Parts.is (c.in_ok-work.ensures))
    (c.in_ok-append-in-Parts.ensures.items ∙ ap (λ (l : List Part). c.args.rest.now.items ++ l) (c.in_ok-more-in-Parts.ensures ∙ ap (map (λ (r : Region). part_of r 0)) c.as_slice.ensures.value))
    (let l = c.len.ensures in let ok = c.in-Parts.parts.ok in omega (arith, l, ok))
