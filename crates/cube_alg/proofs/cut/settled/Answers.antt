use Rattle.std.proofs.Common.{arith, ◌≡◌, sym, ap, ◌∙◌, Some}
use Rattle.cube_alg.specs.Pairs.{Meets}
use Rattle.cube_alg.proofs.ValueLemmas.{only_more, only_stop}
use Rattle.cube_alg.proofs.cut.settled.Goals as goal

pub returns-then-is_wider : goal.returns-then-is_wider
returns-then-is_wider c h m =
    let p = c.p-item.result in
    let ps = c.args.pieces.now in
    let i = c.loop-p.p-index in
    let e : p.value ≡ c.in_ok-first.first.now.value = omega arith in
    let n : Meets p.cube c.args.node.now = rw (← c.p-item.is) at (c.requires.meets i p c.loop-p-test.true) in
    only_stop c.in_ok-first.first.now.value c.args.node.now ps i p c.loop-p-test.true c.p-item.is e n (c.is_wider.ensures.0 c.if-is_wider.true) c.loop-p.invariant h m ∙ ap Some (sym e)

pub loop-p-preserved : goal.loop-p-preserved
loop-p-preserved c =
    let p = c.p-item.result in
    let e : p.value ≡ c.in_ok-first.first.now.value = omega arith in
    only_more c.in_ok-first.first.now.value c.args.pieces.now c.loop-p.p-index p c.loop-p-test.true c.p-item.is e c.loop-p.invariant
