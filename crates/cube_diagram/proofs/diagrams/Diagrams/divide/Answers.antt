use Rattle.cube_diagram.specs.Nodes.{meaning}
use Rattle.cube_diagram.proofs.DescentLemmas.{answer_of_part}
use Rattle.cube_diagram.proofs.diagrams.Diagrams.divide.Goals as goal

pub returns-clause-answer : goal.returns-clause-answer
returns-clause-answer c =
    rw (← c.self.view_is) (answer_of_part (meaning c.self.inside.tables.table.nodes.items c.args.function) c.args.cube.now c.divide.result c.divide.ensures.part)
