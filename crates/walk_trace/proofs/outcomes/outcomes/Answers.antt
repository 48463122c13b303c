use Rattle.std.proofs.Common.{◌≡◌, ◌-◌, ◌++◌, true, false, map, sym, ap, subst, ◌∙◌}
use Rattle.std.specs.Prelude.{flat_map}
use Rattle.net_types.specs.Walks.{outcome_of, ends}
use Rattle.walk_trace.specs.Numbered.{numbered}
use Rattle.walk_trace.specs.Outcomes.{SameSet, outcomes_at}
use Rattle.walk_trace.proofs.OutcomeLemmas.{all_outcomes}
use Rattle.walk_trace.proofs.outcomes.outcomes.Goals as goal

pub returns : goal.returns
returns c =
    let w = c.args.site.now in
    let s = c.args.start.now in
    let early = flat_map (outcomes_at w false s.header) (numbered w (c.args.ttl - 1) s) in
    let e : c.add_outcomes_at.new.found.items ≡ early ++ flat_map (outcomes_at w true s.header) c.in_ok-last.last.items =
    c.in_ok-add_outcomes_at.ensures
    ∙ ap (λ l. l ++ flat_map (outcomes_at w true s.header) c.deref.result.now) (c.in_ok-add_early.ensures ∙ ap (λ l. l ++ early) c.new-found.ensures.items)
    ∙ ap (λ l. early ++ flat_map (outcomes_at w true s.header) l) c.deref.ensures.value in
    subst (λ l. SameSet l (map (outcome_of s.header) (ends w c.args.ttl s))) (sym e) (all_outcomes w s.header c.args.ttl s c.in_ok-last.last.items c.requires c.in_ok-last.ensures)
