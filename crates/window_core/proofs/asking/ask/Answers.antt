use Rattle.std.proofs.Common.{◌≡◌, subst}
use Rattle.net_load.specs.declared.numbering.Numbered.{Numbered}
use Rattle.window_core.specs.Job.{Asks, window_network}
use Rattle.window_core.proofs.asking.ask.Goals as goal

pub returns-clause-job : goal.returns-clause-job
returns-clause-job g c =
    let numbered : c.in_ok-numbered.numbered ≡ window_network c.args.base c.args.changes = rw (c.into_vec.ensures, c.into_vec-2.ensures) at c.in_ok-numbered.ensures in
    subst (λ (n : Numbered). Asks c.args.path.now n c.args.text.now c.ask_on.result) numbered c.ask_on.ensures.job
