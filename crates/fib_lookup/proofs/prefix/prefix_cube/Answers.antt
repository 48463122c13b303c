use Rattle.std.proofs.Common.{◌≡◌, ◌<◌, ◌≤◌, ◌-◌, ◌*◌, ◌%◌, ◌^◌, arith}
use Rattle.std.proofs.lemmas.Nat.{one_shl}
use Rattle.fib_lookup.proofs.Numbers.{power_room, digits_of, cube_holds, power_positive, mask_star, star_by}
use Rattle.fib_lookup.proofs.prefix.prefix_cube.Goals as goal

pub invariant_of-result : goal.invariant_of-result
invariant_of-result c =
    let l = c.args.prefix.now.length in
    let room : l ≤ 32 = c.args.prefix.now.in_range in
    let s : 1 * 2 ^ (32 - l) % 2 ^ 64 ≡ 2 ^ (32 - l) = one_shl (32 - l) 64 (omega arith) in
    let n = c.from-address.result in
    let e : c.from-2.result ≡ 2 ^ 32 - 2 ^ (32 - l) = rw (c.from.ensures, s) at c.from-2.ensures in
    let f : c.from-3.result ≡ n - n % 2 ^ (32 - l) = rw (c.from.ensures, s) at c.from-3.ensures in
    let b : n < 2 ^ 32 = rw c.from-address.ensures (omega arith) in
    let q = power_room l in
    let r = power_positive l in
    record { below = omega (arith, e, q, r); digits = rw (e, f) (digits_of n (32 - l) (omega arith) b) }

pub returns-clause-holds : goal.returns-clause-holds
returns-clause-holds c h b =
    let l = c.args.prefix.now.length in
    let room : l ≤ 32 = c.args.prefix.now.in_range in
    let s : 1 * 2 ^ (32 - l) % 2 ^ 64 ≡ 2 ^ (32 - l) = one_shl (32 - l) 64 (omega arith) in
    let a = c.args.prefix.now.address in
    let e : c.from-2.result ≡ 2 ^ 32 - 2 ^ (32 - l) = rw (c.from.ensures, s) at c.from-2.ensures in
    let f : c.from-3.result ≡ a - a % 2 ^ (32 - l) = rw (c.from.ensures, s, c.from-address.ensures) at c.from-3.ensures in
    rw (e, f) (cube_holds h (32 - l) a (omega arith) b)

pub returns-clause-destinations : goal.returns-clause-destinations
returns-clause-destinations c k a b =
    let l = c.args.prefix.now.length in
    let room : l ≤ 32 = c.args.prefix.now.in_range in
    let s : 1 * 2 ^ (32 - l) % 2 ^ 64 ≡ 2 ^ (32 - l) = one_shl (32 - l) 64 (omega arith) in
    let e : c.from-2.result ≡ 2 ^ 32 - 2 ^ (32 - l) = rw (c.from.ensures, s) at c.from-2.ensures in
    star_by _ _ (rw e (mask_star (32 - l) (111 - k) (omega arith)))
