use Rattle.std.proofs.Common.{rules, arith, sym, ap, ◌∙◌}
use Rattle.std.specs.Str.{bytes_eq}
use Rattle.report_text.proofs.Joined.{same_front, other_front}
use Rattle.report_text.proofs.field_reader.behind.Goals as goal

pub returns-then-not-same : goal.returns-then-not-same
returns-then-not-same c = λ x. other_front c.args.part.now c.args.bytes.now x (omega arith) (ap (λ f. bytes_eq f c.args.part.now) (sym c.split_at.ensures.front) ∙ sym c.same.ensures ∙ search rules)

pub returns : goal.returns
returns c = λ x. same_front c.args.part.now c.args.bytes.now x (omega arith) (ap (λ f. bytes_eq f c.args.part.now) (sym c.split_at.ensures.front) ∙ sym c.same.ensures ∙ search rules) ∙ ap (bytes_eq x) (sym c.split_at.ensures.back)
