use Rattle.std.proofs.Common.{arith, subst, ◌≡◌, ◌≤◌}
use Rattle.std.specs.Bool.{IsTrue}
use Rattle.cube_diagram.specs.Nodes.{meaning}
use Rattle.cube_diagram.specs.Paths.{IsPath, AddsRows}
use Rattle.cube_diagram.proofs.NodeLemmas.{tested_most}
use Rattle.cube_diagram.proofs.PathLemmas.{root_path, rows_of_path, one_cube}
use Rattle.cube_diagram.proofs.diagrams.Diagrams.rows_within.Goals as goal

pub returns-clause-rows : goal.returns-clause-rows
returns-clause-rows c =
    let nodes = c.self.inside.tables.table.nodes.items in
    let value = meaning nodes c.args.function in
    let new = c.add_rows.new.rows.items in
    let end = c.path_within-end in
    let e = end.ensures.path value 0 (root_path nodes c.args.function c.all.result (rw c.self.view_is c.requires) c.all.ensures) in
    let same : end.result.path ≡ c.args.cube.now = one_cube end.result.path c.args.cube.now c.ne.result c.ne.ensures c.if-ne.false in
    let p = subst (λ z. IsPath nodes value z e.from end.result.id) same e.is in
    let all : IsTrue c.in_ok-has_all.has_all = (let t = c.if-not-has_all.false in cc) in
    let a = subst (λ xs. AddsRows value c.args.cube.now e.from xs new) c.new-rows.ensures.items (c.in_ok-has_all.ensures.rows all value e.from p) in
    let most : e.from ≤ 112 = (let o = p.order in let m = tested_most nodes c.self.invariant.reduced end.result.id in omega (arith, o, m)) in
    rw (← c.self.view_is) (rows_of_path nodes value c.args.cube.now e.from end.result.id new p most a)
