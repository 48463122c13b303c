use Rattle.std.proofs.Common.{subst}
use Rattle.std.specs.Bool.{IsTrue}
use Rattle.cube_diagram.specs.Nodes.{meaning}
use Rattle.cube_diagram.specs.Paths.{AddsRows}
use Rattle.cube_diagram.proofs.PathLemmas.{root_path, rows_of_root}
use Rattle.cube_diagram.proofs.diagrams.Diagrams.rows.Goals as goal

pub returns-clause-rows : goal.returns-clause-rows
returns-clause-rows c =
    let nodes = c.self.inside.tables.table.nodes.items in
    let value = meaning nodes c.args.function in
    let new = c.add_rows.new.rows.items in
    let p = root_path nodes c.args.function c.all.result (rw c.self.view_is c.requires) c.all.ensures in
    let all : IsTrue c.in_ok-has_all.has_all = (let t = c.if-not-has_all.false in cc) in
    let a = subst (λ xs. AddsRows value c.all.result 0 xs new) c.new-rows.ensures.items (c.in_ok-has_all.ensures.rows all value 0 p) in
    rw (← c.self.view_is) (rows_of_root value c.all.result new a).0

pub returns-clause-values : goal.returns-clause-values
returns-clause-values c =
    let nodes = c.self.inside.tables.table.nodes.items in
    let value = meaning nodes c.args.function in
    let new = c.add_rows.new.rows.items in
    let p = root_path nodes c.args.function c.all.result (rw c.self.view_is c.requires) c.all.ensures in
    let all : IsTrue c.in_ok-has_all.has_all = (let t = c.if-not-has_all.false in cc) in
    let a = subst (λ xs. AddsRows value c.all.result 0 xs new) c.new-rows.ensures.items (c.in_ok-has_all.ensures.rows all value 0 p) in
    rw (← c.self.view_is) (rows_of_root value c.all.result new a).1
