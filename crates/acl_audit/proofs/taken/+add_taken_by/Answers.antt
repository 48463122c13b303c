use Rattle.std.proofs.Common.{◌≡◌, ◌-◌, ◌&&◌, ℕ, suc, Bool, arith}
use Rattle.hdr_bits.specs.HeaderBits.{header_of}
use Rattle.net_types.specs.AccessLists.{matches}
use Rattle.acl_audit.specs.Sets.{decided_in}
use Rattle.acl_audit.proofs.taken.+add_taken_by.Goals as goal
use Rattle.acl_audit.proofs.SetLemmas.{kept_set, keeps_then, nothing_in}
use Rattle.acl_audit.proofs.KindLemmas.{both_ways, sequence_at}
use Rattle.acl_audit.proofs.UnionLemmas.{common_set, halves_taken, level_few, next_long, passed_over, single_taken, audited_kept}

pub returns-then-is_nothing-clause-taken : goal.returns-then-is_nothing-clause-taken
returns-then-is_nothing-clause-taken t c e m a =
    let es = c.args.audited.entries.now in
    let x = c.in_ok-common in
    let g = c.within.new.self in
    let l = c.args.block.level in
    let k = c.args.block.number in
    let s = common_set c.args.diagrams.now g es c.args.audited.unions.now e l k c.args.matched c.set.result x.common c.requires.audited.unions c.requires.there c.set.ensures x.ensures.below x.ensures.exact m in
    passed_over es e l k c.args.taken.now.items (nothing_in g (λ h. matches e (header_of h) && decided_in es l k h) x.common s (c.is_nothing.ensures.0 c.if-is_nothing.true)) a

pub returns-then-level-eq0-clause-taken : goal.returns-then-level-eq0-clause-taken
returns-then-level-eq0-clause-taken t c e m a =
    let es = c.args.audited.entries.now in
    let x = c.in_ok-common in
    let g = c.within.new.self in
    let l = c.args.block.level in
    let k = c.args.block.number in
    let s = common_set c.args.diagrams.now g es c.args.audited.unions.now e l k c.args.matched c.set.result x.common c.requires.audited.unions c.requires.there c.set.ensures x.ensures.below x.ensures.exact m in
    rw c.in_ok-push.ensures.items (single_taken g es e l k x.common c.args.taken.now.items _ c.if-level-eq0.true s (λ n. both_ways c.is_nothing.result c.if-is_nothing.false (c.is_nothing.ensures.1 n)) (λ y o. sequence_at es k c.index-audited-number.result y o) (rw c.new.ensures c.in_ok-rows.ensures) a)

pub overflow_mul-twice : goal.overflow_mul-twice
overflow_mul-twice t c =
    let n = c.if-level-eq0.false in
    let p : c.args.block.level ≡ suc (c.args.block.level - 1) = omega (arith, n) in
    let u = c.requires.audited.unions in
    let half = next_long c.args.diagrams.now c.args.audited.entries.now c.args.audited.unions.now (c.args.block.level - 1) c.args.block.level p u in
    let few = level_few c.args.diagrams.now c.args.audited.entries.now c.args.audited.unions.now (c.args.block.level - 1) u in
    let l = c.requires.there in
    omega (arith, half, few, l)

pub overflow_add-high : goal.overflow_add-high
overflow_add-high t c =
    let n = c.if-level-eq0.false in
    let p : c.args.block.level ≡ suc (c.args.block.level - 1) = omega (arith, n) in
    let u = c.requires.audited.unions in
    let half = next_long c.args.diagrams.now c.args.audited.entries.now c.args.audited.unions.now (c.args.block.level - 1) c.args.block.level p u in
    let few = level_few c.args.diagrams.now c.args.audited.entries.now c.args.audited.unions.now (c.args.block.level - 1) u in
    let l = c.requires.there in
    omega (arith, half, few, l)

pub add_taken_by-requires : goal.add_taken_by-requires
add_taken_by-requires t c =
    let n = c.if-level-eq0.false in
    let p : c.args.block.level ≡ suc (c.args.block.level - 1) = omega (arith, n) in
    let u = c.requires.audited.unions in
    let kept = c.in_ok-common.ensures.kept in
    let count = kept.count in
    let half = next_long c.args.diagrams.now c.args.audited.entries.now c.args.audited.unions.now (c.args.block.level - 1) c.args.block.level p u in
    let l = c.requires.there in
    let m = c.requires.matched in
    (omega (arith, n, c.decreases), (omega (arith, half, l), (audited_kept c.args.diagrams.now c.within.new.self c.args.audited kept c.requires.audited, omega (arith, count, m))))

pub add_taken_by-requires-2 : goal.add_taken_by-requires-2
add_taken_by-requires-2 t c =
    let n = c.if-level-eq0.false in
    let p : c.args.block.level ≡ suc (c.args.block.level - 1) = omega (arith, n) in
    let u = c.requires.audited.unions in
    let kept = keeps_then c.args.diagrams.now c.within.new.self c.add_taken_by.new.diagrams c.in_ok-common.ensures.kept c.in_ok-add_taken_by.ensures.kept in
    let count = kept.count in
    let half = next_long c.args.diagrams.now c.args.audited.entries.now c.args.audited.unions.now (c.args.block.level - 1) c.args.block.level p u in
    let l = c.requires.there in
    let m = c.requires.matched in
    (omega (arith, n, c.decreases), (omega (arith, half, l), (audited_kept c.args.diagrams.now c.add_taken_by.new.diagrams c.args.audited kept c.requires.audited, omega (arith, count, m))))

pub returns-clause-taken : goal.returns-clause-taken
returns-clause-taken t c e m a =
    let es = c.args.audited.entries.now in
    let d0 = c.args.diagrams.now in
    let d1 = c.within.new.self in
    let d2 = c.add_taken_by.new.diagrams in
    let n = c.if-level-eq0.false in
    let p : c.args.block.level ≡ suc (c.args.block.level - 1) = omega (arith, n) in
    let is_match : ℕ → Bool = λ h. matches e (header_of h) in
    let m1 = kept_set d0 d1 is_match c.args.matched c.in_ok-common.ensures.kept m in
    let m2 = kept_set d1 d2 is_match c.args.matched c.in_ok-add_taken_by.ensures.kept m1 in
    halves_taken es e c.args.block.level (c.args.block.level - 1) c.args.block.number c.args.taken.now.items c.add_taken_by.new.taken.items c.add_taken_by-2.new.taken.items p (c.in_ok-add_taken_by.ensures.taken e m1) (c.in_ok-add_taken_by-2.ensures.taken e m2) a
