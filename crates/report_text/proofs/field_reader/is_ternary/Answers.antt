use Rattle.std.proofs.Common.{rules, arith, sym, ◌∙◌}
use Rattle.report_text.proofs.Joined.{digit_same, digit_other, digit_none, digits_done, empty_test}
use Rattle.report_text.proofs.field_reader.is_ternary.Goals as goal

pub returns-in_default : goal.returns-in_default
returns-in_default c = sym (sym c.loop-k.invariant ∙ digit_none c.loop-k.k c.args.fixed c.args.bits c.loop-k.rest.now (omega arith) (search rules))

pub returns-then-digit-ternary_digit : goal.returns-then-digit-ternary_digit
returns-then-digit-ternary_digit c =
    sym (sym c.loop-k.invariant ∙ digit_other _ c.loop-k.k c.args.fixed c.args.bits _ c.in-Some.digit c.loop-k.rest.now c.in-Some.after.now (search rules) c.ternary_digit.ensures (omega arith) (search rules))

pub loop-k-preserved : goal.loop-k-preserved
loop-k-preserved c =
    sym (digit_same _ c.loop-k.k c.args.fixed c.args.bits _ c.in-Some.digit c.loop-k.rest.now c.in-Some.after.now (search rules) c.ternary_digit.ensures (omega arith) (search rules)) ∙ c.loop-k.invariant

pub returns : goal.returns
returns c = c.is_empty.ensures ∙ empty_test c.loop-k.rest.now ∙ sym (digits_done c.loop-k.k c.args.fixed c.args.bits c.loop-k.rest.now (omega arith)) ∙ c.loop-k.invariant
