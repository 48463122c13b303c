use Rattle.std.proofs.Common.{◌+◌, ◌-◌, take, drop, arith}
use Rattle.std.specs.Prelude.{filter}
use Rattle.cube_diagram.specs.Tries.{is_on}
use Rattle.cube_diagram.proofs.TrieLemmas.{side_more, items_pushed, items_kept}
use Rattle.cube_diagram.proofs.trie.push_side.Goals.{then-is_on+in_ok-push, else-is_on}
use Rattle.cube_diagram.proofs.trie.push_side.Goals as goal

pub loop-i-preserved : goal.loop-i-preserved
loop-i-preserved c =
    let v = c.loop-i.invariant in
    let e = c.len-i-end.ensures in
    let t = c.loop-i-test.true in
    let f = v.from in
    let old = c.args.stack.now.items in
    let one = c.args.one in
    let bit = c.args.bit in
    let p = c.index.result.now in
    let more = filter (is_on bit one) (take (c.loop-i.i - c.args.start) (drop c.args.start old)) in
    let next = filter (is_on bit one) (take (c.loop-i.i + 1 - c.args.start) (drop c.args.start old)) in
    let m = side_more old c.loop-i.stack.items p c.args.start c.loop-i.i bit one more v.from (omega (arith, e, t)) v.items c.index.ensures in
    record {
      from = omega (arith, f);
      within = omega (arith, e, t);
      items = elim c.if-is_on.branch [
        | then-is_on+in_ok-push w ↦ rw w.stack-is (items_pushed old c.loop-i.stack.items more next w.push.new.self.items p (is_on bit one p) v.items m w.if-is_on.ensures w.in_ok-push.ensures.items)
        | else-is_on w ↦ rw w.stack-is (items_kept old c.loop-i.stack.items more next p (is_on bit one p) v.items m w.if-is_on.ensures)
      ];
    }
