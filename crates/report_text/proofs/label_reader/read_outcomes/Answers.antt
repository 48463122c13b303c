use Rattle.std.proofs.Common.{◌-◌, sym, ◌∙◌}
use Rattle.report_text.proofs.Steps.{outcomes_done, no_bytes}
use Rattle.report_text.proofs.label_reader.read_outcomes.Goals as goal

pub returns-then-is_empty : goal.returns-then-is_empty
returns-then-is_empty c =
    sym c.loop-turn.invariant
    ∙ outcomes_done c.args.numbers.now (c.args.most - c.loop-turn._turn) c.loop-turn.outcomes.items c.loop-turn.rest.now (no_bytes c.loop-turn.rest.now (sym c.is_empty.ensures ∙ c.if-is_empty.true))
