use Rattle.std.proofs.Common.{subst, sym}
use Rattle.cube_diagram.specs.Images.{IsConstant}
use Rattle.cube_diagram.proofs.RetoldLemmas.{constant_nothing, constant_value}
use Rattle.cube_diagram.proofs.retold.constant.Goals as goal

pub returns-in_default-clause-constant : goal.returns-in_default-clause-constant
returns-in_default-clause-constant c =
    let nodes = c.args.tables.now.table.nodes.items in
    subst (λ v. IsConstant nodes v 0) (sym c.in_default.is) (constant_nothing nodes c.requires.sound.reduced)

pub returns-clause-constant : goal.returns-clause-constant
returns-clause-constant c =
    let nodes = c.add.new.tables.table.nodes.items in
    subst (λ v. IsConstant nodes v c.in_ok-r.r) (sym c.in-Some.is) (constant_value nodes c.in-Some.value c.in_ok-r.r c.in_ok-r.ensures.entry)
