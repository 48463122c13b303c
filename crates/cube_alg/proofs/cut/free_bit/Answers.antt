use Rattle.std.proofs.Common.{arith, ◌<◌, bit_and}
use Rattle.std.specs.Int.RustNames.{bit_xor}
use Rattle.cube_alg.proofs.CutLemmas.{first_free}
use Rattle.cube_alg.proofs.cut.free_bit.Goals as goal

pub overflow_sub-result : goal.overflow_sub-result
overflow_sub-result c =
    let p : 0 < bit_xor c.args.cube.now.fixed (bit_and c.args.cube.now.fixed c.args.node.now.fixed) = omega arith in
    (first_free c.args.cube.now c.args.node.now p).room

pub returns-clause-bit : goal.returns-clause-bit
returns-clause-bit c =
    let p : 0 < bit_xor c.args.cube.now.fixed (bit_and c.args.cube.now.fixed c.args.node.now.fixed) = omega arith in
    (first_free c.args.cube.now c.args.node.now p).bit

pub returns-clause-first : goal.returns-clause-first
returns-clause-first c =
    let p : 0 < bit_xor c.args.cube.now.fixed (bit_and c.args.cube.now.fixed c.args.node.now.fixed) = omega arith in
    (first_free c.args.cube.now c.args.node.now p).first
