use Rattle.std.proofs.Common.{arith}
use Rattle.pair_rows.proofs.SlotLemmas.{sorted_more, sorted_same}
use Rattle.pair_rows.proofs.leaves.add_leaf.Goals as goal

pub returns-in_ok-push-clause-sorted : goal.returns-in_ok-push-clause-sorted
returns-in_ok-push-clause-sorted g c before a =
    sorted_more before c.args.leaf c.args.all.now.items c.index_mut.result.now (record { leaves = c.push.new.self; rows = c.index_mut.result.now.rows }) ((let within = c.if-slot-len.true in let count = c.len.ensures in let same = c.args.all.now.ok in omega (arith, within, count, same))) c.index_mut.ensures.value c.in_ok-push.ensures.items a

pub returns-else-slot-len-clause-sorted : goal.returns-else-slot-len-clause-sorted
returns-else-slot-len-clause-sorted g c before a =
    sorted_same before c.args.leaf c.args.all.now.items (let beyond = c.if-slot-len.false in let count = c.len.ensures in let same = c.args.all.now.ok in omega (arith, beyond, count, same)) a
