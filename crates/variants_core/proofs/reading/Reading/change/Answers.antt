use Rattle.std.proofs.Common.{arith}
use Rattle.variants_core.specs.Taking.{so_far}
use Rattle.variants_core.proofs.TakingLemmas.{change_stopped, change_taken}
use Rattle.variants_core.proofs.reading.Reading.change.Goals as goal

pub returns-in-Ok-clause-line : goal.returns-in-Ok-clause-line
returns-in-Ok-clause-line g c =
    let r = c.args.self in
    change_taken c.args.path.now c.args.base.now r.done r.name r.window c.args.step.now (g.F.Files.told c.args.files.now) c.in-Ok.window c.in-Ok.ensures.change

pub returns-in-Err-clause-line : goal.returns-in-Err-clause-line
returns-in-Err-clause-line g c = change_stopped c.args.path.now c.args.base.now (so_far c.args.self) c.args.step.now (g.F.Files.told c.args.files.now) c.in-Err.stop c.in-Err.ensures.change

pub returns-in-Ok-clause-reading : goal.returns-in-Ok-clause-reading
returns-in-Ok-clause-reading g c =
    let before = c.requires.names in
    let added = c.in-Ok.ensures.names in
    record { window = c.in-Ok.ensures.window; names = omega (arith, before, added) }
