use Rattle.std.proofs.Common.{arith}
use Rattle.ios_commands.proofs.BannerSteps.{found, not_found, next_byte}
use Rattle.ios_commands.proofs.banners.lines_before.Goals as goal

pub returns-then-starts_with-clause-value : goal.returns-then-starts_with-clause-value
returns-then-starts_with-clause-value c = found c.args.mark.now c.args.text.now c.loop-at.at c.loop-at.lines (omega arith) (cc) c.loop-at.invariant.value

pub loop-at-preserved : goal.loop-at-preserved
loop-at-preserved c = record {
  within = omega arith;
  value = next_byte c.args.mark.now c.args.text.now c.loop-at.at c.loop-at.lines c.line_end-lines.result _ (omega arith) (cc) (cc) c.line_end-lines.ensures.value c.loop-at.invariant.value;
}

pub returns-clause-value : goal.returns-clause-value
returns-clause-value c = not_found c.args.mark.now c.args.text.now c.loop-at.at c.loop-at.lines (omega arith) c.loop-at.invariant.value
