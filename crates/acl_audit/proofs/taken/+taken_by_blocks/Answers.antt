use Rattle.std.proofs.Common.{◌≡◌, ◌+◌, ◌/◌, ◌-◌, suc, arith, subst}
use Rattle.hdr_bits.specs.HeaderBits.{header_of}
use Rattle.net_types.specs.AccessLists.{matches}
use Rattle.acl_audit.specs.Findings.{AreTaken}
use Rattle.acl_audit.specs.Sets.{start_of}
use Rattle.acl_audit.proofs.taken.+taken_by_blocks.Goals as goal
use Rattle.acl_audit.proofs.SetLemmas.{kept_set}
use Rattle.acl_audit.proofs.UnionLemmas.{next_long, none_taken, pairs_taken, audited_kept}

pub returns-then-count-eq0-clause-taken : goal.returns-then-count-eq0-clause-taken
returns-then-count-eq0-clause-taken t c e m =
    rw c.new.ensures.items (none_taken c.args.audited.entries.now e c.args.level c.args.count c.if-count-eq0.true)

pub taken_by_blocks-requires : goal.taken_by_blocks-requires
taken_by_blocks-requires t c =
    let n = c.if-count-eq0.false in
    let up : c.args.level + 1 ≡ suc c.args.level = omega arith in
    let half = next_long c.args.diagrams.now c.args.audited.entries.now c.args.audited.unions.now c.args.level (c.args.level + 1) up c.requires.audited.unions in
    let l = c.requires.there in
    let few = c.requires.few in
    (omega (arith, n, c.decreases), (omega (arith, n, few), (omega (arith, half, l), (c.requires.audited, c.requires.matched))))

pub returns-then-rest-eq0-clause-taken : goal.returns-then-rest-eq0-clause-taken
returns-then-rest-eq0-clause-taken t c e m =
    let up : c.args.level + 1 ≡ suc c.args.level = omega arith in
    let r = c.if-rest-eq0.true in
    pairs_taken c.args.audited.entries.now e c.args.level (c.args.level + 1) (c.args.count / 2) c.args.count c.in_ok-taken.taken.items up (omega (arith, r)) (c.in_ok-taken.ensures.taken e m)

pub add_taken_by-requires-clause-audited : goal.add_taken_by-requires-clause-audited
add_taken_by-requires-clause-audited t c =
    audited_kept c.args.diagrams.now c.taken_by_blocks.new.diagrams c.args.audited c.in_ok-taken.ensures.kept c.requires.audited

pub returns-clause-taken : goal.returns-clause-taken
returns-clause-taken t c e m =
    let es = c.args.audited.entries.now in
    let up : c.args.level + 1 ≡ suc c.args.level = omega arith in
    let r = c.if-rest-eq0.false in
    let n = c.if-count-eq0.false in
    let last : c.args.count - 1 + 1 ≡ c.args.count = omega (arith, n) in
    let k = c.in_ok-taken.ensures.kept in
    let before = pairs_taken es e c.args.level (c.args.level + 1) (c.args.count / 2) (c.args.count - 1) c.in_ok-taken.taken.items up (omega (arith, r)) (c.in_ok-taken.ensures.taken e m) in
    subst (λ n. AreTaken es (start_of c.args.level n) e c.add_taken_by.new.taken.items) last (c.in_ok-add_taken_by.ensures.taken e (kept_set c.args.diagrams.now c.taken_by_blocks.new.diagrams (λ h. matches e (header_of h)) c.args.matched k m) before)
