use Rattle.nat_static.proofs.rules.protocol.Goals as goal
use Rattle.std.proofs.Common.{◌≡◌, ◌*◌, ◌%◌, ◌^◌, arith}
use Rattle.hdr_bits.specs.declared.cube.Cube.{Cube}
use Rattle.nat_static.proofs.SideLemmas.{proto_test, proto_digits}

pub returns : goal.returns
returns c h =
    let n = c.args.number in
    let e : c.from.result * 2 ^ 40 % 2 ^ 128 ≡ c.args.number * 2 ^ 40 = omega (arith, c.from.ensures) in
    let z : Cube = record { fixed = 255 * 2 ^ 40; bits = c.from.result * 2 ^ 40 % 2 ^ 128; below = omega arith; digits = rw e (proto_digits c.args.number (omega arith)) } in
    proto_test z h c.args.number (omega arith) e
