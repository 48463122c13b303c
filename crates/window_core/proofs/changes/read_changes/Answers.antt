use Rattle.std.proofs.Common.{◌≡◌, ◌∙◌, [], arith, rules, sym, subst, List}
use Rattle.std.specs.Prelude.{Result, Err, IfSome}
use Rattle.net_types.specs.declared.config.Loaded.{Loaded}
use Rattle.job_core.specs.declared.stop.Stop.{Stop}
use Rattle.job_core.specs.declared.stop.Stop.TheVariants as stop
use Rattle.window_core.specs.Changes.{GivesChanges}
use Rattle.window_core.proofs.ChangeLemmas.{grows, no_memory, stops}
use Rattle.window_core.proofs.changes.read_changes.Goals as goal

pub returns-in_err-window-clause-changes : goal.returns-in_err-window-clause-changes
returns-in_err-window-clause-changes g c =
    let told = g.F.Files.told c.args.files.now in
    let handed : c.from_residual.result ≡ Err stop.NoMemory = search rules in
    subst (λ (r : Result (List Loaded) Stop). IfSome told (λ t. GivesChanges t c.args.path.now c.args.base.now [] 0 c.args.steps.now r)) (sym handed) (no_memory told c.args.path.now c.args.base.now c.args.steps.now)

pub returns-in-Err-clause-changes : goal.returns-in-Err-clause-changes
returns-in-Err-clause-changes g c =
    let l = c.loop-step in
    stops c.args.path.now c.args.base.now c.args.steps.now l.step-index c.step-item.result c.loop-step-test.true c.step-item.is l.window.changes l.window.total
    (g.F.Files.told c.args.files.now) (g.F.Files.told l.files) c.in-Err.stop l.invariant.same l.invariant.goes c.in-Err.ensures.change

pub loop-step-preserved : goal.loop-step-preserved
loop-step-preserved g c =
    let l = c.loop-step in
    record {
      window = c.in-Ok.ensures.window;
      same = c.in-Ok.ensures.same ∙ l.invariant.same;
      later = omega (arith, c.in-Ok.ensures.cause.later, l.invariant.later);
      goes = grows c.args.path.now c.args.base.now c.args.steps.now l.step-index c.step-item.result c.loop-step-test.true c.step-item.is l.window.changes l.window.total
          (g.F.Files.told c.args.files.now) (g.F.Files.told l.files) c.in-Ok.window l.invariant.same l.invariant.goes c.in-Ok.ensures.change;
    }
