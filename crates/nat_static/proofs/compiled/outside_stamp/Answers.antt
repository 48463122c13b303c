use Rattle.nat_static.proofs.compiled.outside_stamp.Goals as goal
use Rattle.std.proofs.Common.{◌∙◌, ap, sym, subst}
use Rattle.cube_alg.specs.Stamps.{applied}
use Rattle.nat_static.specs.declared.rules.Direction.TheVariants.{FromOutside}
use Rattle.nat_static.specs.Pieces.{ReplacesFixed}
use Rattle.nat_static.proofs.FixedLemmas.{right_if, fixed_if}

pub returns-clause-applies : goal.returns-clause-applies
returns-clause-applies c h e f =
    ap (λ s. applied s h) c.stamps_if.ensures ∙ right_if FromOutside c.args.rules.now h c.args.rule c.args.outer e f

pub returns-clause-fixed : goal.returns-clause-fixed
returns-clause-fixed c cube f g =
    subst (λ s. ReplacesFixed s cube) (sym c.stamps_if.ensures) (fixed_if FromOutside c.args.rules.now cube c.args.rule c.args.outer f g)
