use Rattle.std.proofs.Common.{◌≡◌, ◌*◌, ◌%◌, ◌^◌, bit_and, arith}
use Rattle.std.proofs.lemmas.Nat.{one_shl, and_le_r}
use Rattle.acl_match.proofs.FieldLemmas.{shift_below, field_test, field_digits}
use Rattle.acl_match.proofs.fields.field_cube.Goals as goal

pub overflow_mul-result : goal.overflow_mul-result
overflow_mul-result c =
    let s : 1 * 2 ^ c.args.shift % 2 ^ 128 ≡ 2 ^ c.args.shift = one_shl c.args.shift 128 (omega arith) in
    let b = shift_below c.args.mask c.args.shift c.args.width c.requires.mask c.requires.within in
    rw (s, c.from.ensures) (omega (arith, b))

pub overflow_mul-result-2 : goal.overflow_mul-result-2
overflow_mul-result-2 c =
    let s : 1 * 2 ^ c.args.shift % 2 ^ 128 ≡ 2 ^ c.args.shift = one_shl c.args.shift 128 (omega arith) in
    let l = and_le_r c.args.value c.args.mask in
    let b = shift_below (bit_and c.args.value c.args.mask) c.args.shift c.args.width (omega (arith, l, c.requires.mask)) c.requires.within in
    rw (s, c.from-2.ensures) (omega (arith, b))

pub invariant_of-result : goal.invariant_of-result
invariant_of-result c =
    let s : 1 * 2 ^ c.args.shift % 2 ^ 128 ≡ 2 ^ c.args.shift = one_shl c.args.shift 128 (omega arith) in
    record {
      below = rw (s, c.from.ensures) (shift_below c.args.mask c.args.shift c.args.width c.requires.mask c.requires.within);
      digits = rw (s, c.from.ensures, c.from-2.ensures) (field_digits c.args.shift c.args.value c.args.mask);
    }

pub returns : goal.returns
returns c h =
    let s : 1 * 2 ^ c.args.shift % 2 ^ 128 ≡ 2 ^ c.args.shift = one_shl c.args.shift 128 (omega arith) in
    rw (s, c.from.ensures, c.from-2.ensures) (field_test h c.args.shift c.args.width c.args.mask (bit_and c.args.value c.args.mask) c.requires.mask)
