use Rattle.view_core.specs.ReportJson.{summary_object}
use Rattle.json_text.proofs.Joined.{four_more}
use Rattle.view_core.proofs.report_json.append_summary_object.Goals as goal

pub returns : goal.returns
unfolding summary_object
returns c = four_more _ _ _ _ _ _ _ _ _ c.in_ok-append_sizes.ensures c.in_ok-append.ensures c.in_ok-append_tally_objects.ensures c.in_ok-append-2.ensures
