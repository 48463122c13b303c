use Rattle.std.proofs.Common.{subst, List}
use Rattle.std.specs.List.{AllZip}
use Rattle.cube_diagram.specs.declared.value_sets.ValueSet.{ValueSet}
use Rattle.set_walk.proofs.SetLemmas.{keeps_same}
use Rattle.incr_review.specs.declared.facts.WalkFact.{WalkFact}
use Rattle.incr_review.specs.declared.numbers.FactList.{FactList}
use Rattle.incr_review.specs.Parts.{AddsPart, IsPartBy}
use Rattle.incr_review.proofs.PartLemmas.{parts_numbered}
use Rattle.incr_review.proofs.parts.parts_of.Goals as goal

pub returns-clause-parts : goal.returns-clause-parts
returns-clause-parts c facts below are =
    let f = c.args.table.now in
    let f2 = c.sets_by_value.new.self in
    let g = c.without.new.table in
    let a = c.args.numbers.now in
    let sets = c.in_ok-sets.sets.items in
    let parts = c.in_ok-parts.parts.items in
    let rest = c.in_ok-rest.rest in
    let zip : AllZip (IsPartBy a.lists.items) sets parts = subst (λ (ls : List FactList). AllZip (IsPartBy ls) sets parts) c.deref.ensures.value (subst (λ (ss : List ValueSet). AllZip (IsPartBy c.deref.result.now) ss parts) c.deref-2.ensures.value c.in_ok-parts.ensures) in
    let last = subst (λ (fs : List WalkFact). AddsPart g rest fs parts c.add_part.new.parts.items) c.new.ensures.items c.in_ok-add_part.ensures in
    parts_numbered f f f2 g c.args.domain facts a sets parts rest c.add_part.new.parts.items (keeps_same f) c.in_ok-sets.ensures.kept c.in_ok-rest.ensures.kept c.requires.domain below are c.in_ok-sets.ensures.sets zip c.in_ok-rest.ensures.set.below c.in_ok-rest.ensures.set.exact last
