use Rattle.std.proofs.Common.{rules, sym, ap, ◌∙◌}
use Rattle.std.specs.Prelude.{decimal}
use Rattle.report_text.proofs.Joined.{other_address, own_address}
use Rattle.report_text.proofs.field_reader.is_prefix.Goals as goal

pub returns-then-not-is_address : goal.returns-then-not-is_address
returns-then-not-is_address c =
    sym (other_address c.args.address (decimal c.args.length) c.args.word.now c.cut.result.0.now (search rules) (ap (λ q. q.0) c.cut.ensures) (sym c.is_address.ensures ∙ search rules))

pub returns : goal.returns
returns c = c.is_length.ensures ∙ own_address c.args.address (decimal c.args.length) c.args.word.now c.cut.result.0.now (sym c.is_address.ensures ∙ search rules)
