use Rattle.acl_audit.proofs.tails.tail_sets.Goals as goal
use Rattle.std.proofs.Common.{arith, ◌<◌, ◌-◌, drop, length, false}
use Rattle.acl_audit.specs.Sets.{passes_to}
use Rattle.acl_audit.proofs.LoopLemmas.{matched_at, tails_more}

pub put_before-requires-clause-matched : goal.put_before-requires-clause-matched
put_before-requires-clause-matched c =
    let l = c.loop-count in
    let es = c.args.entries.now in
    let t = c.loop-count-test.true in
    let there : length es - 1 - l.count < length es = omega (arith, t) in
    matched_at c.args.diagrams.now l.diagrams es c.args.matched.now (length es - 1 - l.count) c.index-entries-position.result there c.index-entries-position.is l.invariant.kept c.requires

pub loop-count-preserved : goal.loop-count-preserved
loop-count-preserved c =
    let l = c.loop-count in
    let es = c.args.entries.now in
    rw c.in_ok-push-2.ensures.items (tails_more c.args.diagrams.now l.diagrams c.put_before.new.diagrams es l.tails.items l.tail c.in_ok-tail.tail l.count c.index-entries-position.result c.loop-count-test.true c.index-entries-position.is c.in_ok-tail.ensures.kept l.invariant (c.in_ok-tail.ensures.set (passes_to false (drop (length es - l.count) es)) l.invariant.last))
