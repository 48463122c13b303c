use Rattle.std.proofs.Common.{sym, ◌∙◌}
use Rattle.ask_query.proofs.DeviceLemmas.{first_added, first_kept}
use Rattle.ask_query.proofs.devices.add_first.Goals as goal

pub returns-then-contains_key : goal.returns-then-contains_key
returns-then-contains_key g c = first_kept c.args.values.now c.args.name.now c.args.value (sym c.contains_key.ensures ∙ c.if-contains_key.true)

pub returns : goal.returns
returns g c = first_added c.args.values.now c.args.name.now c.args.value c.insert.new.self c.in_ok-insert.ensures.updates (sym c.contains_key.ensures ∙ c.if-contains_key.false)
