use Rattle.acl_audit.proofs.list.judge_all.Goals as goal
use Rattle.std.proofs.Common.{get_or, take}
use Rattle.hdr_bits.specs.HeaderBits.{header_of}
use Rattle.net_types.specs.AccessLists.{matches}
use Rattle.acl_audit.specs.Sets.{any_matches}
use Rattle.acl_audit.proofs.SetLemmas.{kept_set, keeps_then}
use Rattle.acl_audit.proofs.LoopLemmas.{matched_below}
use Rattle.acl_audit.proofs.UnionLemmas.{audited_kept}
use Rattle.acl_audit.proofs.FindingLemmas.{findings_next, front_more}

pub judge-requires-clause-matched : goal.judge-requires-clause-matched
judge-requires-clause-matched c e q =
    let l = c.loop-i in
    kept_set c.args.diagrams.now l.diagrams (λ h. matches e (header_of h)) (get_or c.args.matched.now l.i 0) l.invariant.kept (c.requires.matched.each l.i e q)

pub judge-requires-clause-audited : goal.judge-requires-clause-audited
judge-requires-clause-audited c =
    audited_kept c.args.diagrams.now c.loop-i.diagrams c.args.audited c.loop-i.invariant.kept c.requires.audited

pub add_set-requires-clause-second : goal.add_set-requires-clause-second
add_set-requires-clause-second c =
    let l = c.loop-i in
    matched_below c.args.diagrams.now c.judge.new.diagrams c.args.audited.entries.now c.args.matched.now l.i c.loop-i-test.true (keeps_then c.args.diagrams.now l.diagrams c.judge.new.diagrams l.invariant.kept c.in_ok-finding.ensures.kept) c.requires.matched

pub loop-i-preserved : goal.loop-i-preserved
loop-i-preserved c =
    let l = c.loop-i in
    let es = c.args.audited.entries.now in
    let d1 = l.diagrams in
    let d2 = c.judge.new.diagrams in
    let d3 = c.add_set.new.diagrams in
    let k2 = c.in_ok-finding.ensures.kept in
    let k3 = c.in_ok-head.ensures.kept in
    let own = get_or c.args.matched.now l.i 0 in
    let before = any_matches (take l.i es) in
    let k12 = keeps_then c.args.diagrams.now d1 d2 l.invariant.kept k2 in
    let front = front_more d3 es l.i c.in_ok-head.head c.loop-i-test.true (λ e q. c.in_ok-head.ensures.set before (λ h. matches e (header_of h)) (kept_set d1 d2 before l.head k2 l.invariant.front) (kept_set c.args.diagrams.now d2 (λ h. matches e (header_of h)) own k12 (c.requires.matched.each l.i e q))) in
    rw c.in_ok-push_if.ensures (findings_next c.args.diagrams.now d1 d3 es l.i l.head c.in_ok-head.head l.findings.items c.in_ok-finding.finding (keeps_then d1 d2 d3 k2 k3) l.invariant front c.in_ok-finding.ensures.finding)
