use Rattle.std.proofs.Common.{refl, sym, ◌∙◌}
use Rattle.look_alikes.specs.LookAlikes.{interface_back}
use Rattle.look_alikes.proofs.look.interface_back.Goals as goal

pub returns-then-abbreviated : goal.returns-then-abbreviated
unfolding interface_back
returns-then-abbreviated c = rw (sym c.abbreviated.ensures ∙ c.if-abbreviated.true) refl

pub returns-then-abbreviated-2 : goal.returns-then-abbreviated-2
unfolding interface_back
returns-then-abbreviated-2 c = rw (sym c.abbreviated.ensures ∙ c.if-abbreviated.false) (rw (sym c.abbreviated-2.ensures ∙ c.if-abbreviated-2.true) refl)

pub returns-then-abbreviated-3 : goal.returns-then-abbreviated-3
unfolding interface_back
returns-then-abbreviated-3 c = rw (sym c.abbreviated.ensures ∙ c.if-abbreviated.false) (rw (sym c.abbreviated-2.ensures ∙ c.if-abbreviated-2.false) (rw (sym c.abbreviated-3.ensures ∙ c.if-abbreviated-3.true) refl))

pub returns-then-abbreviated-4 : goal.returns-then-abbreviated-4
unfolding interface_back
returns-then-abbreviated-4 c = rw (sym c.abbreviated.ensures ∙ c.if-abbreviated.false) (rw (sym c.abbreviated-2.ensures ∙ c.if-abbreviated-2.false) (rw (sym c.abbreviated-3.ensures ∙ c.if-abbreviated-3.false) (rw (sym c.abbreviated-4.ensures ∙ c.if-abbreviated-4.true) refl)))

pub returns : goal.returns
unfolding interface_back
returns c = rw (sym c.abbreviated.ensures ∙ c.if-abbreviated.false) (rw (sym c.abbreviated-2.ensures ∙ c.if-abbreviated-2.false) (rw (sym c.abbreviated-3.ensures ∙ c.if-abbreviated-3.false) (rw (sym c.abbreviated-4.ensures ∙ c.if-abbreviated-4.false) (c.indented_command.ensures))))
