use Rattle.view_core.proofs.Reports.{says_report}
use Rattle.view_core.proofs.reading.report_in.Goals as goal

pub returns-in-Ok-clause-report : goal.returns-in-Ok-clause-report
returns-in-Ok-clause-report c =
    says_report c.args.path.now c.args.bytes.now c.in_ok-names.names c.in-Ok.sections c.in_ok-names.ensures.exact c.in-Ok.ensures
