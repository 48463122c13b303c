use Rattle.std.proofs.Common.{sym, ◌∙◌}
use Rattle.cube_alg.proofs.CutLemmas.{cut_of_added}
use Rattle.cube_alg.proofs.ValueLemmas.{value_each, value_holder}
use Rattle.cube_alg.proofs.cut.cut_within.Goals as goal

pub returns-clause-inside : goal.returns-clause-inside
returns-clause-inside c = (cut_of_added c.in_ok-add_cut.ensures c.new-parts.ensures.items).inside

pub returns-clause-apart : goal.returns-clause-apart
returns-clause-apart c = (cut_of_added c.in_ok-add_cut.ensures c.new-parts.ensures.items).apart

pub returns-clause-exact : goal.returns-clause-exact
returns-clause-exact c h i =
    (cut_of_added c.in_ok-add_cut.ensures c.new-parts.ensures.items).exact h i ∙ rw c.deref.ensures.value (c.in_ok-there.ensures.value h i)

pub returns-clause-each : goal.returns-clause-each
returns-clause-each c k d l h i =
    let x = cut_of_added c.in_ok-add_cut.ensures c.new-parts.ensures.items in
    sym (returns-clause-exact c h (x.inside k d l h i)) ∙ value_each c.add_cut.new.parts.items x.apart k d l h i

pub returns-clause-stars : goal.returns-clause-stars
returns-clause-stars c k l s a =
    (cut_of_added c.in_ok-add_cut.ensures c.new-parts.ensures.items).stars k l s (rw c.deref.ensures.value (c.in_ok-there.ensures.stars k a))

pub returns-clause-holder : goal.returns-clause-holder
returns-clause-holder c h v i e = value_holder c.add_cut.new.parts.items h v (returns-clause-exact c h i ∙ e)
