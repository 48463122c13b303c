use Rattle.std.proofs.Common.{◌≡◌, ◌∙◌, [], arith, rules, sym, subst, List}
use Rattle.std.specs.Prelude.{Result, Err, IfSome}
use Rattle.job_core.specs.declared.stop.Stop.{Stop}
use Rattle.job_core.specs.declared.stop.Stop.TheVariants as stop
use Rattle.variants_core.specs.declared.reading.Variant.{Variant}
use Rattle.variants_core.specs.Taking.{TakesAll, nothing, so_far}
use Rattle.variants_core.proofs.TakingLemmas.{grows, no_memory, stops}
use Rattle.variants_core.proofs.reading.take_all.Goals as goal

pub returns-in_err-reading-clause-variants : goal.returns-in_err-reading-clause-variants
returns-in_err-reading-clause-variants g c =
    let told = g.F.Files.told c.args.files.now in
    let handed : c.from_residual.result ≡ Err stop.NoMemory = search rules in
    subst (λ (r : Result (List Variant) Stop). IfSome told (λ t. TakesAll t c.args.path.now c.args.base.now nothing c.args.lines.now r)) (sym handed) (no_memory told c.args.path.now c.args.base.now c.args.lines.now)

pub returns-in-Err-clause-variants : goal.returns-in-Err-clause-variants
returns-in-Err-clause-variants g c =
    let l = c.loop-line in
    stops c.args.path.now c.args.base.now c.args.lines.now l.line-index c.line-item.result c.loop-line-test.true c.line-item.is (so_far l.reading)
    (g.F.Files.told c.args.files.now) (g.F.Files.told l.files) c.in-Err.stop l.invariant.same l.invariant.goes c.in-Err.ensures.line

pub loop-line-preserved : goal.loop-line-preserved
loop-line-preserved g c =
    let l = c.loop-line in
    record {
      reading = c.in-Ok.ensures.reading;
      same = c.in-Ok.ensures.same ∙ l.invariant.same;
      later = omega (arith, c.in-Ok.ensures.cause.later, l.invariant.later);
      goes = grows c.args.path.now c.args.base.now c.args.lines.now l.line-index c.line-item.result c.loop-line-test.true c.line-item.is (so_far l.reading)
          (g.F.Files.told c.args.files.now) (g.F.Files.told l.files) c.in-Ok.reading l.invariant.same l.invariant.goes c.in-Ok.ensures.line;
    }
