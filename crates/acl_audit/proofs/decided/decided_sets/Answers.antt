use Rattle.acl_audit.proofs.decided.decided_sets.Goals as goal
use Rattle.std.proofs.Common.{ℕ, Bool, take, get_or, nat_eq}
use Rattle.indexmap.specs.IndexMap.{get}
use Rattle.hdr_bits.specs.HeaderBits.{header_of}
use Rattle.net_types.specs.AccessLists.{matches, entries_verdict}
use Rattle.acl_audit.specs.Findings.{is_by}
use Rattle.acl_audit.specs.Sets.{any_matches}
use Rattle.acl_audit.proofs.ListLemmas.{reaches}
use Rattle.acl_audit.proofs.SetLemmas.{kept_set, keeps_then, without_set}
use Rattle.acl_audit.proofs.LoopLemmas.{decided_kept, decided_more, matched_at}

pub loop-i-preserved : goal.loop-i-preserved
loop-i-preserved c =
    let l = c.loop-i in
    let es = c.args.entries.now in
    let e = c.index-entries-i.result in
    let set = get_or c.args.matched.now l.i 0 in
    let before = take l.i es in
    let d1 = l.diagrams in
    let d2 = c.without.new.self in
    let d3 = c.add_set.new.diagrams in
    let d4 = c.add_set-in-loop-i.new.diagrams in
    let k2 = c.in_ok-own.ensures.kept in
    let k3 = c.in_ok-all.ensures.kept in
    let k4 = c.in_ok-head.ensures.kept in
    let k13 = keeps_then d1 d2 d3 k2 k3 in
    let is_match : ℕ → Bool = λ h. matches e (header_of h) in
    let is_own : ℕ → Bool = reaches before e in
    let is_known : ℕ → Bool = λ h. is_by e.sequence (entries_verdict before (header_of h)) in
    let matched = matched_at c.args.diagrams.now d1 es c.args.matched.now l.i e c.loop-i-test.true c.index-entries-i.is l.invariant.kept c.requires in
    let own = without_set d1 d2 is_match (any_matches before) set l.head c.in_ok-own.own c.in_ok-own.ensures.below c.in_ok-own.ensures.exact matched l.invariant.front in
    let known = c.decided_by.ensures.set before (decided_kept d1 d2 before (get nat_eq l.decided) k2 l.invariant.decided) in
    let all = c.in_ok-all.ensures.set is_known is_own known own in
    let front = c.in_ok-head.ensures.set (any_matches before) is_match (kept_set d1 d3 (any_matches before) l.head k13 l.invariant.front) (kept_set d1 d3 is_match set k13 matched) in
    decided_more c.args.diagrams.now d1 d4 es l.i e (get nat_eq l.decided) (get nat_eq c.insert.new.self) l.head c.in_ok-all.all c.in_ok-head.head c.loop-i-test.true c.index-entries-i.is (keeps_then d1 d3 d4 k13 k4) l.invariant (kept_set d3 d4 _ c.in_ok-all.all k4 all) front c.in_ok-insert.ensures.updates.0
