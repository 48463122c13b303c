use Rattle.std.proofs.Common.{arith}
use Rattle.std.proofs.lemmas.List.{length-map}
use Rattle.net_load.proofs.readings.read_text.Goals as goal

pub returns-in-Ok-clause-names : goal.returns-in-Ok-clause-names
returns-in-Ok-clause-names c = omega (arith, length-map c.in-Ok.reading.config.interfaces (λ i. i.name), c.in-Ok.ensures.interfaces)
