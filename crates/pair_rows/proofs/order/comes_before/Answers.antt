use Rattle.std.proofs.Common.{sym, arith}
use Rattle.cube_diagram.proofs.BitLemmas.{few_alike, alike_before}
use Rattle.pair_rows.proofs.order.comes_before.Goals as goal

pub overflow_sub-first : goal.overflow_sub-first
overflow_sub-first c = few_alike c.args.a.now c.args.b.now

pub returns-then-has_digit : goal.returns-then-has_digit
returns-then-has_digit c one =
    record {
      first = _;
      within = (let below = c.if-first-ge112.false in omega (arith, below));
      same = λ i l. sym (alike_before c.args.a.now c.args.b.now i l);
      zero_there = c.has_digit.ensures c.if-has_digit.true;
      one_there = c.has_digit-then-has_digit.ensures one;
    }
