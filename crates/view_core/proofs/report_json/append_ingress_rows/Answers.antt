use Rattle.view_core.specs.ReportJson.{ingress_end}
use Rattle.json_text.proofs.Joined.{three_more}
use Rattle.view_core.proofs.report_json.append_ingress_rows.Goals as goal

pub returns : goal.returns
unfolding ingress_end
returns c = three_more _ _ _ _ _ _ _ c.in_ok-append.ensures c.in_ok-append_rows.ensures c.in_ok-append-2.ensures
