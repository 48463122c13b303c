use Rattle.std.proofs.Common.{◌∙◌}
use Rattle.cube_diagram.proofs.NodeLemmas.{meaning_model, meaning_grows, keeps}
use Rattle.cube_diagram.specs.Nodes.{meaning}
use Rattle.cube_diagram.specs.Combined.{if_both}
use Rattle.cube_diagram.proofs.diagrams.Diagrams.within.Goals as goal

pub returns-in_err-id-clause-kept : goal.returns-in_err-id-clause-kept
returns-in_err-id-clause-kept c =
    let e = c.in_err-id.ensures in
    rw (← c.self.view_is) (keeps c.self.inside.tables.table.nodes.items c.combine.new.tables.table.nodes.items c.self.invariant.reduced e.sound.reduced e.grows)

pub returns-clause-kept : goal.returns-clause-kept
returns-clause-kept c =
    let e = c.in_ok-id.ensures in
    rw (← c.self.view_is) (keeps c.self.inside.tables.table.nodes.items c.combine.new.tables.table.nodes.items c.self.invariant.reduced e.sound.reduced e.grows)

pub returns-clause-exact : goal.returns-clause-exact
returns-clause-exact c h =
    let e = c.in_ok-id.ensures in
    let old = c.self.inside.tables.table.nodes.items in
    let new = c.combine.new.tables.table.nodes.items in
    let r = e.sound.reduced in
    let a = meaning_grows old new c.self.invariant.reduced r e.grows c.args.a (rw c.self.view_is c.requires.first) h in
    let b = meaning_grows old new c.self.invariant.reduced r e.grows c.args.b (rw c.self.view_is c.requires.second) h in
    rw (← c.self.view_is) (e.joined.right.value (meaning new) (meaning_model new r) h ∙ (λ i. if_both (a i) (b i)))
