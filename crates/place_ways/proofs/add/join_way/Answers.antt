use Rattle.std.proofs.Common.{arith}
use Rattle.std.proofs.lemmas.Grind.{elements}
use Rattle.std.proofs.Common.{◌<◌, ◌⊎◌, sym, subst, ◌∙◌}
use Rattle.std.proofs.lemmas.Option.{slice_get_within}
use Rattle.cube_diagram.specs.Functions.{count_of}
use Rattle.set_walk.specs.declared.step.Way.{Way}
use Rattle.set_walk.specs.Sets.{InSet, IsSetOf}
use Rattle.set_walk.proofs.ToldLemmas.{get_is, in_get}
use Rattle.hdr_bits.proofs.Numbers.{number-below}
use Rattle.place_ways.proofs.SetLemmas.{keeps_same, no_header}
use Rattle.place_ways.proofs.AddLemmas.{joined, nothing_added, pushed}
use Rattle.place_ways.proofs.add.join_way.Goals as goal

pub returns-then-is_nothing-clause-added : goal.returns-then-is_nothing-clause-added
returns-then-is_nothing-clause-added c =
    nothing_added c.args.table.now c.args.table.now _ c.args.ways.now.ways.items (keeps_same c.args.table.now) c.requires.ways (λ h v m x. no_header c.args.table.now c.args.headers h (c.is_nothing.ensures.0 c.if-is_nothing.true) (number-below h v) x.0)

pub returns-in_default-clause-added : goal.returns-in_default-clause-added
returns-in_default-clause-added c = rw c.in_ok-push.ensures.items (pushed c.args.table.now c.args.ways.now.ways.items c.args.step c.args.headers c.requires.headers c.requires.fits c.requires.ways)

pub either-requires-clause-first : goal.either-requires-clause-first
either-requires-clause-first c =
    let xs = c.args.ways.now.ways.items in
    let i = c.in-Some.position in
    let x : Way = record { step = c.args.step; headers = c.in-Some.ensures.0 } in
    let e = c.in-Some.ensures.1 in
    subst (λ y. y.headers < count_of c.args.table.now) (sym (c.index.ensures ∙ get_is xs i x c.index.result.now e)) (c.requires.ways x (in_get xs i x e)).below

pub returns-clause-added : goal.returns-clause-added
returns-clause-added c =
    let xs = c.args.ways.now.ways.items in
    let i = c.in-Some.position in
    let f = c.args.table.now in
    let x : Way = record { step = c.args.step; headers = c.in-Some.ensures.0 } in
    let e = c.in-Some.ensures.1 in
    let same = c.index.ensures ∙ get_is xs i x c.index.result.now e in
    joined f c.either.new.table xs i c.in-Some.ensures.0 c.args.headers c.in_ok-all.all c.args.step c.in_ok-all.ensures.kept e c.in_ok-all.ensures.set.below (subst (λ (y : Way). IsSetOf c.either.new.table c.in_ok-all.all (λ h. InSet f y.headers h ⊎ InSet f c.args.headers h)) same c.in_ok-all.ensures.set.exact) c.requires.fits c.requires.ways

pub index_mut-requires : goal.index_mut-requires
index_mut-requires c = grind (arith, elements)

pub index-requires : goal.index-requires
index-requires c = grind (arith, elements)
