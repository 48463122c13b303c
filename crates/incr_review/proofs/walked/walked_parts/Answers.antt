use Rattle.std.proofs.Common.{subst, sym, ◌∙◌, List}
use Rattle.std.specs.Prelude.{Contains}
use Rattle.std.proofs.lemmas.Result.{IfOk-weaker}
use Rattle.net_view.specs.Borrowed.{world_of}
use Rattle.incr_review.specs.declared.facts.FactSet.{FactSet}
use Rattle.incr_review.specs.declared.parts.Part.{Part}
use Rattle.incr_review.specs.Facts.{StandOnce}
use Rattle.incr_review.specs.Parts.{AreParts}
use Rattle.incr_review.specs.Walked.{AreLabelled}
use Rattle.incr_review.proofs.WalkedLemmas.{walk_facts_below, walk_facts_once, have_outcomes, parts_walked}
use Rattle.incr_review.proofs.walked.walked_parts.Goals as goal

pub parts_by-requires-clause-facts : goal.parts_by-requires-clause-facts
parts_by-requires-clause-facts c κs within =
    let walked = c.in_ok-walked.walked in
    walk_facts_below c.labels_and_visitors.new.table walked.ends.items walked.visitors.items c.in_ok-walked.ensures.labels.below c.in_ok-walked.ensures.visitors.below κs
    (subst (λ (xs : List FactSet). Contains xs κs) (c.deref.ensures.value ∙ c.in_ok-facts.ensures) within)

pub parts_by-requires-clause-once : goal.parts_by-requires-clause-once
parts_by-requires-clause-once c =
    let walked = c.in_ok-walked.walked in
    subst StandOnce (sym (c.deref.ensures.value ∙ c.in_ok-facts.ensures)) (walk_facts_once walked.ends.items walked.visitors.items c.in_ok-walked.ensures.once c.in_ok-walked.ensures.apart)

pub labelled-requires : goal.labelled-requires
labelled-requires c κs within =
    let walked = c.in_ok-walked.walked in
    let g = c.parts_by.new.table in
    let cut = subst (λ (xs : List FactSet). AreParts g c.args.domain xs c.in_ok-parts.parts.items) (c.deref.ensures.value ∙ c.in_ok-facts.ensures) c.in_ok-parts.ensures.parts in
    have_outcomes (world_of c.args.net.now.world) c.args.ttl c.args.place c.args.table.now c.labels_and_visitors.new.table g c.args.domain walked.ends.items walked.visitors.items c.in_ok-parts.parts.items c.requires.ttl c.in_ok-walked.ensures.kept c.in_ok-parts.ensures.kept c.requires.domain c.in_ok-walked.ensures.labels c.in_ok-walked.ensures.visitors cut κs
    (subst (λ (xs : List Part). Contains xs κs) c.deref-2.ensures.value within)

pub returns-clause-walked : goal.returns-clause-walked
returns-clause-walked c =
    let walked = c.in_ok-walked.walked in
    let g = c.parts_by.new.table in
    let cut = subst (λ (xs : List FactSet). AreParts g c.args.domain xs c.in_ok-parts.parts.items) (c.deref.ensures.value ∙ c.in_ok-facts.ensures) c.in_ok-parts.ensures.parts in
    IfOk-weaker c.labelled.result _ _ (λ all labelled. parts_walked (world_of c.args.net.now.world) c.args.ttl c.args.place c.args.table.now c.labels_and_visitors.new.table g c.args.domain walked.ends.items walked.visitors.items c.in_ok-parts.parts.items all.items c.requires.ttl c.in_ok-walked.ensures.kept c.in_ok-parts.ensures.kept c.requires.domain c.in_ok-walked.ensures.labels c.in_ok-walked.ensures.visitors cut (subst (λ (xs : List Part). AreLabelled xs all.items) c.deref-2.ensures.value labelled)) c.labelled.ensures
