use Rattle.cube_diagram.proofs.NodeLemmas.{meaning_model, keeps}
use Rattle.cube_diagram.specs.Nodes.{meaning}
use Rattle.cube_diagram.proofs.diagrams.Diagrams.absorb.Goals as goal

pub returns-in_err-numbers-clause-kept : goal.returns-in_err-numbers-clause-kept
returns-in_err-numbers-clause-kept c =
    let e = c.in_err-numbers.ensures in
    rw (← c.self.view_is) (keeps c.self.inside.tables.table.nodes.items c.absorbed.new.tables.table.nodes.items c.self.invariant.reduced e.sound.reduced e.grows)

pub returns-clause-kept : goal.returns-clause-kept
returns-clause-kept c =
    let e = c.in_ok-numbers.ensures in
    rw (← c.self.view_is) (keeps c.self.inside.tables.table.nodes.items c.absorbed.new.tables.table.nodes.items c.self.invariant.reduced e.sound.reduced e.grows)

pub returns-clause-exact : goal.returns-clause-exact
returns-clause-exact c a n t =
    let e = c.in_ok-numbers.ensures in
    let source = c.source.inside.tables.table.nodes.items in
    let new = c.absorbed.new.tables.table.nodes.items in
    let there = e.absorbed.each a n t in
    rw (← c.source.view_is) (record { below = there.below; exact = λ h. there.value (meaning source) (meaning new) (meaning_model source c.source.invariant.reduced) (meaning_model new e.sound.reduced) h })
