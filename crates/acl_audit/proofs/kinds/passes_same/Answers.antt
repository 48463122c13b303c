use Rattle.acl_audit.proofs.kinds.passes_same.Goals as goal
use Rattle.std.proofs.Common.{arith, ◌-◌, false, length, drop, take}
use Rattle.acl_audit.specs.Sets.{passes_to, any_matches}
use Rattle.acl_audit.proofs.ListLemmas.{rest_passes}
use Rattle.acl_audit.proofs.SetLemmas.{kept_set, tail_set, difference_set, without_set}
use Rattle.acl_audit.proofs.KindLemmas.{changes_none}

pub returns-clause-same : goal.returns-clause-same
returns-clause-same c =
    let es = c.args.audited.entries.now in
    let i = c.args.position in
    let l = c.requires.position in
    let a = c.requires.audited.all in
    let f = c.args.diagrams.now in
    let g = c.difference.new.self in
    let k = c.in_ok-difference.ensures.kept in
    let whole = tail_set f es c.args.audited.tails.now (length es - i) i c.requires.audited.tails (omega (arith, l, a)) (omega (arith, l)) in
    let other = difference_set f g (passes_to false (drop i es)) (rest_passes es i) _ c.rest_set-rest.result c.in_ok-difference.difference c.in_ok-difference.ensures.below c.in_ok-difference.ensures.exact whole c.rest_set-rest.ensures in
    let left = without_set g c.without.new.self _ (any_matches (take i es)) c.in_ok-difference.difference c.args.head c.in_ok-open.open c.in_ok-open.ensures.below c.in_ok-open.ensures.exact other (kept_set f g (any_matches (take i es)) c.args.head k c.requires.head) in
    let n = changes_none c.without.new.self es i c.in_ok-open.open l left in
    (λ t. n.0 (c.is_nothing.ensures.0 t), λ s. c.is_nothing.ensures.1 (n.1 s))
