use Rattle.std.proofs.Common.{refl, sym, ◌∙◌}
use Rattle.look_alikes.specs.LookAlikes.{interface_rest}
use Rattle.look_alikes.proofs.look.interface_rest.Goals as goal

pub returns-then-resembles : goal.returns-then-resembles
unfolding interface_rest
returns-then-resembles c = rw (sym c.resembles.ensures ∙ c.if-resembles.true) refl

pub returns-then-resembles-2 : goal.returns-then-resembles-2
unfolding interface_rest
returns-then-resembles-2 c = rw (sym c.resembles.ensures ∙ c.if-resembles.false) (rw (sym c.resembles-2.ensures ∙ c.if-resembles-2.true) refl)

pub returns-then-resembles-3 : goal.returns-then-resembles-3
unfolding interface_rest
returns-then-resembles-3 c = rw (sym c.resembles.ensures ∙ c.if-resembles.false) (rw (sym c.resembles-2.ensures ∙ c.if-resembles-2.false) (rw (sym c.resembles-3.ensures ∙ c.if-resembles-3.true) refl))

pub returns : goal.returns
unfolding interface_rest
returns c = rw (sym c.resembles.ensures ∙ c.if-resembles.false) (rw (sym c.resembles-2.ensures ∙ c.if-resembles-2.false) (rw (sym c.resembles-3.ensures ∙ c.if-resembles-3.false) (c.interface_back.ensures)))
