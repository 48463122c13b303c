use Rattle.std.proofs.Common.{◌≡◌, IfOk, subst}
use Rattle.net_types.specs.Walks.{state_at}
use Rattle.walk_trace.proofs.OutcomeLemmas.{label_of, some_found}
use Rattle.walk_trace.proofs.outcomes.label.Goals as goal

pub of-requires : goal.of-requires
of-requires c = some_found c.args.site.now c.args.ttl (state_at c.args.place c.args.h.now) c.in_ok-outcomes.outcomes.items c.requires c.in_ok-outcomes.ensures

pub returns : goal.returns
returns c =
    subst (λ l. IfOk c.of.result (λ answer. answer ≡ l))
    (label_of c.args.site.now c.args.ttl c.args.place c.args.h.now c.in_ok-outcomes.outcomes.items c.in_ok-outcomes.ensures)
    c.of.ensures
