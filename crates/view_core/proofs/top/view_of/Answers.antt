use Rattle.view_core.proofs.Reports.{reported_views}
use Rattle.view_core.proofs.top.view_of.Goals as goal

pub returns-in_ok-report-in-Ok-clause-views : goal.returns-in_ok-report-in-Ok-clause-views
returns-in_ok-report-in-Ok-clause-views c =
    reported_views c.args.manner.now c.args.path.now c.args.bytes.now c.in-Ok.read c.in_ok-report-in-Ok.report c.in-Ok.ensures.report c.in_ok-report-in-Ok.ensures.view c.in_ok-report-in-Ok.ensures.plain
