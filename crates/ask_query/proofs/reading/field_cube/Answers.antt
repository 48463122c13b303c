use Rattle.std.proofs.Common.{◌≡◌, ℕ, ◌*◌, ◌%◌, ◌^◌, bit_and, subst, arith}
use Rattle.std.proofs.lemmas.Nat.{one_shl, and_le_r}
use Rattle.report_text.specs.FieldText.{width_of}
use Rattle.acl_match.proofs.FieldLemmas.{shift_below, field_digits}
use Rattle.ask_query.specs.Fields.{place_of}
use Rattle.ask_query.proofs.reading.field_cube.Goals as goal

pub overflow_mul-result : goal.overflow_mul-result
overflow_mul-result c =
    let n = c.shift.result in
    let s : 1 * 2 ^ n % 2 ^ 128 ≡ 2 ^ n = one_shl n 128 (omega arith) in
    let b = shift_below c.args.bits.0 n (width_of (place_of c.args.field)) c.requires.below c.shift.ensures.within in
    rw (s, c.from.ensures) (omega (arith, b))

pub overflow_mul-result-2 : goal.overflow_mul-result-2
overflow_mul-result-2 c =
    let n = c.shift.result in
    let s : 1 * 2 ^ n % 2 ^ 128 ≡ 2 ^ n = one_shl n 128 (omega arith) in
    let l = and_le_r c.args.bits.1 c.args.bits.0 in
    let b = shift_below c.args.bits.1 n (width_of (place_of c.args.field)) (omega (arith, l, c.requires.digits, c.requires.below)) c.shift.ensures.within in
    rw (s, c.from-2.ensures) (omega (arith, b))

pub invariant_of-result : goal.invariant_of-result
invariant_of-result c =
    let n = c.shift.result in
    let s : 1 * 2 ^ n % 2 ^ 128 ≡ 2 ^ n = one_shl n 128 (omega arith) in
    let Agree : ℕ → Type 0 = λ bits. bit_and (bits * 2 ^ n) (c.args.bits.0 * 2 ^ n) ≡ bits * 2 ^ n in
    record {
      below = rw (s, c.from.ensures) (shift_below c.args.bits.0 n (width_of (place_of c.args.field)) c.requires.below c.shift.ensures.within);
      digits = rw (s, c.from.ensures, c.from-2.ensures) (subst Agree c.requires.digits (field_digits n c.args.bits.1 c.args.bits.0));
    }
