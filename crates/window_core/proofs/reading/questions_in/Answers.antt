use Rattle.std.proofs.Common.{ap, arith, length}
use Rattle.window_core.proofs.QuestionCount.{few_questions}
use Rattle.window_core.proofs.reading.questions_in.Goals as goal

pub returns-in-Ok-clause-few : goal.returns-in-Ok-clause-few
returns-in-Ok-clause-few c =
    let few = few_questions c.args.network.now c.args.bytes.now c.in-Ok.questions.items c.in-Ok.ensures.exact in
    let same = ap length c.new.ensures in
    omega (arith, few, same, c.requires)
