use Rattle.std.proofs.Common.{◌≡◌, ◌+◌, ◌-◌, inl, inr, arith, sym, ap, ◌∙◌, true≢false}
use Rattle.acl_match.proofs.PortLemmas.{blocks_none, blocks_one, blocks_both, aligned_low, aligned_high, room_halves, shl_small, pow_positive}
use Rattle.acl_match.proofs.ports.+add_blocks.Goals as goal

pub returns-then-high-block : goal.returns-then-high-block
returns-then-high-block t c =
    let p = pow_positive c.args.block.width in
    blocks_none c.args.low c.args.high c.args.block c.args.blocks.now.items (inl c.if-high-block.true) (omega (arith, p))

pub returns-then-last-low : goal.returns-then-last-low
returns-then-last-low t c =
    let b = c.args.block in
    let p = pow_positive b.width in
    let s = shl_small b.width (omega (arith, b.width_small)) in
    blocks_none c.args.low c.args.high b c.args.blocks.now.items (inr (omega (arith, c.if-last-low.true, s, p))) (omega (arith, p))

pub returns-then-is_whole : goal.returns-then-is_whole
returns-then-is_whole t c =
    let b = c.args.block in
    let p = pow_positive b.width in
    let s = shl_small b.width (omega (arith, b.width_small)) in
    let w = c.is_whole.ensures.0 c.if-is_whole.true in
    rw c.in_ok-push.ensures.items (blocks_one c.args.low c.args.high b c.args.blocks.now.items w.0 (omega (arith, w.1, s, p)) (omega (arith, p)))

pub invariant_of-zeros : goal.invariant_of-zeros
invariant_of-zeros t c =
    let b = c.args.block in
    let m = b.width - 1 in
    let e : b.width ≡ 1 + (b.width - 1) = omega arith in
    record { width_small = omega (arith, b.width_small); aligned = aligned_low b.first (b.width - 1) b.width e b.aligned; below = (let r = room_halves b.first (b.width - 1) b.width e b.below in omega (arith, r)) }

pub invariant_of-ones : goal.invariant_of-ones
invariant_of-ones t c =
    let b = c.args.block in
    let e : b.width ≡ 1 + (b.width - 1) = omega arith in
    let s = shl_small (b.width - 1) (omega (arith, b.width_small)) in
    record { width_small = omega (arith, b.width_small); aligned = rw s (aligned_high b.first (b.width - 1) b.width e b.aligned); below = rw s (room_halves b.first (b.width - 1) b.width e b.below) }

pub returns : goal.returns
returns t c =
    let b = c.args.block in
    let m = b.width - 1 in
    let e : b.width ≡ 1 + (b.width - 1) = omega arith in
    let s = shl_small (b.width - 1) (omega (arith, b.width_small)) in
    let u = shl_small b.width (omega (arith, b.width_small)) in
    let p = pow_positive b.width in
    blocks_both c.args.low c.args.high b c.args.blocks.now.items c.add_blocks.new.blocks.items c.add_blocks-2.new.blocks.items (b.width - 1) _ (omega arith) (ap (λ x. b.first + x) s) (λ q. let w = c.is_whole.ensures.1 (q.0, omega (arith, q.1, u, p)) in true≢false (sym w ∙ c.if-is_whole.false)) c.in_ok-add_blocks.ensures c.in_ok-add_blocks-2.ensures
