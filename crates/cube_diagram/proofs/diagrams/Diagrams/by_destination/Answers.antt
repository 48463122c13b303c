use Rattle.std.proofs.Common.{ℕ, ◌≡◌}
use Rattle.cube_diagram.proofs.NodeLemmas.{meaning_model, meaning_grows, keeps}
use Rattle.cube_diagram.specs.Nodes.{meaning}
use Rattle.cube_diagram.proofs.DestinationLemmas.{destinations_of_same}
use Rattle.cube_diagram.proofs.diagrams.Diagrams.by_destination.Goals as goal

pub returns-in_err-id-clause-kept : goal.returns-in_err-id-clause-kept
returns-in_err-id-clause-kept c =
    let e = c.in_err-id.ensures in
    rw (← c.self.view_is) (keeps c.self.inside.tables.table.nodes.items c.by_destination.new.tables.table.nodes.items c.self.invariant.reduced e.sound.reduced e.grows)

pub returns-clause-kept : goal.returns-clause-kept
returns-clause-kept c =
    let e = c.in_ok-id.ensures in
    rw (← c.self.view_is) (keeps c.self.inside.tables.table.nodes.items c.by_destination.new.tables.table.nodes.items c.self.invariant.reduced e.sound.reduced e.grows)

pub returns-clause-exact : goal.returns-clause-exact
returns-clause-exact c =
    let e = c.in_ok-id.ensures in
    let old = c.self.inside.tables.table.nodes.items in
    let new = c.by_destination.new.tables.table.nodes.items in
    let r = e.sound.reduced in
    let a : (h : ℕ) → meaning new c.args.function h ≡ meaning old c.args.function h = λ h. meaning_grows old new c.self.invariant.reduced r e.grows c.args.function (rw c.self.view_is c.requires) h in
    rw (← c.self.view_is) (destinations_of_same (meaning new c.args.function) (meaning old c.args.function) (meaning new c.in_ok-id.id) a (e.told.told (meaning new) (meaning_model new r)))
