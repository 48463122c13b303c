use Rattle.std.proofs.Common.{subst}
use Rattle.cube_diagram.proofs.NodeLemmas.{meaning_model, meaning_grows, keeps}
use Rattle.cube_diagram.specs.Nodes.{meaning}
use Rattle.cube_diagram.specs.Paired.{IsPairAt}
use Rattle.cube_diagram.proofs.PairedLemmas.{memo_start}
use Rattle.cube_diagram.proofs.diagrams.Diagrams.paired.Goals as goal

pub paired-requires-clause-memo : goal.paired-requires-clause-memo
paired-requires-clause-memo c =
    memo_start c.self.inside.tables.table.nodes.items c.args.pairs.now.keys c.in_ok-memo.memo.slots.items c.self.invariant.reduced c.in_ok-memo.ensures

pub returns-in_err-id-clause-kept : goal.returns-in_err-id-clause-kept
returns-in_err-id-clause-kept c =
    let e = c.in_err-id.ensures in
    rw (← c.self.view_is) (keeps c.self.inside.tables.table.nodes.items c.paired.new.tables.table.nodes.items c.self.invariant.reduced e.sound.reduced e.grows)

pub returns-clause-kept : goal.returns-clause-kept
returns-clause-kept c =
    let e = c.in_ok-id.ensures in
    rw (← c.self.view_is) (keeps c.self.inside.tables.table.nodes.items c.paired.new.tables.table.nodes.items c.self.invariant.reduced e.sound.reduced e.grows)

pub returns-clause-exact : goal.returns-clause-exact
returns-clause-exact c h =
    let e = c.in_ok-id.ensures in
    let old = c.self.inside.tables.table.nodes.items in
    let new = c.paired.new.tables.table.nodes.items in
    let pairs = c.paired.new.pairs.keys in
    let r = e.sound.reduced in
    let a = meaning_grows old new c.self.invariant.reduced r e.grows c.args.a (rw c.self.view_is c.requires.first) h in
    let b = meaning_grows old new c.self.invariant.reduced r e.grows c.args.b (rw c.self.view_is c.requires.second) h in
    let p = e.paired.value (meaning new) (meaning_model new r) h in
    rw (← c.self.view_is) (subst (λ x. IsPairAt pairs x (meaning old c.args.b h) (meaning new c.in_ok-id.id h)) a (subst (λ y. IsPairAt pairs (meaning new c.args.a h) y (meaning new c.in_ok-id.id h)) b p))
