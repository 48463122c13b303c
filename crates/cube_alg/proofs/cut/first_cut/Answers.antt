use Rattle.cube_alg.proofs.CutLemmas.{in_all}
use Rattle.cube_alg.proofs.cut.first_cut.Goals as goal

pub returns-clause-exact : goal.returns-clause-exact
returns-clause-exact c h = c.in_ok-parts.ensures.exact h (in_all c.all.result h c.all.ensures)

pub returns-clause-stars : goal.returns-clause-stars
returns-clause-stars c k l a = c.in_ok-parts.ensures.stars k l (c.all.ensures k l) a

pub returns-clause-holder : goal.returns-clause-holder
returns-clause-holder c h v e = c.in_ok-parts.ensures.holder h v (in_all c.all.result h c.all.ensures) e
