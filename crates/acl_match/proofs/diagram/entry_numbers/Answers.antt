use Rattle.acl_match.proofs.diagram.entry_numbers.Goals as goal
use Rattle.acl_match.proofs.NumberLemmas.{keeps_then, numbers_more}

pub loop-e-preserved : goal.loop-e-preserved
loop-e-preserved c =
    let i = c.loop-e.invariant in
    record {
      kept = keeps_then c.args.diagrams.now c.loop-e.diagrams c.add_entry.new.self i.kept c.in_ok-number.ensures.kept;
      numbers = rw c.in_ok-push.ensures.items (numbers_more c.loop-e.diagrams c.add_entry.new.self c.args.entries.now c.loop-e.numbers.items c.loop-e.e-index c.e-item.result c.in_ok-cubes.cubes.items c.number_of.result c.in_ok-number.number c.loop-e-test.true c.e-item.is c.in_ok-number.ensures.kept c.in_ok-number.ensures.below c.number_of.ensures (λ h. let e = c.in_ok-number.ensures.exact h in rw c.deref.ensures.value at e) c.in_ok-cubes.ensures.test i.numbers);
    }
