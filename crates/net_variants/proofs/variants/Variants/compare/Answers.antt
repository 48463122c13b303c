use Rattle.std.proofs.Common.{IfOk, subst}
use Rattle.net_types.specs.World.{World}
use Rattle.net_variants.specs.Variants.{IsVariantReport}
use Rattle.net_variants.proofs.variants.Variants.compare.Goals as goal

pub returns-clause-report : goal.returns-clause-report
returns-clause-report g c =
    subst (λ (w : World). IfOk c.compare_kept-sections.result (λ sections. IsVariantReport w c.args.changes.now c.args.ttl sections.items)) c.self.view_is c.compare_kept-sections.ensures.report
