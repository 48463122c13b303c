use Rattle.std.proofs.Common.{subst, sym, List, take, ◌+◌, get_or}
use Rattle.std.specs.List.{AllZip}
use Rattle.std.proofs.lemmas.List.{get_or_default}
use Rattle.cube_diagram.specs.declared.value_sets.ValueSet.{ValueSet}
use Rattle.incr_review.specs.declared.parts.Part.{Part}
use Rattle.incr_review.specs.Parts.{IsPartBy}
use Rattle.incr_review.proofs.ListLemmas.{zip_turn}
use Rattle.incr_review.proofs.parts.numbered_parts.Goals as goal

pub loop-one-preserved : goal.loop-one-preserved
loop-one-preserved c =
    let sets = c.args.sets.now in
    let lists = c.args.lists.now in
    let i = c.loop-one.one-index in
    let d : ValueSet = record { value = 0; set = 0 } in
    let x : ValueSet = get_or sets i d in
    subst (λ (ps : List Part). AllZip (IsPartBy lists) (take (i + 1) sets) ps) (sym c.in_ok-push.ensures.items)
    (zip_turn (IsPartBy lists) sets i x c.loop-one.parts.items c.in_ok-part.part c.loop-one-test.true (get_or_default sets i d x c.loop-one-test.true) c.loop-one.invariant c.in_ok-part.ensures)
