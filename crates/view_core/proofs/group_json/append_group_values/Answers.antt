use Rattle.view_core.specs.GroupJson.{group_values}
use Rattle.json_text.proofs.Joined.{four_more}
use Rattle.view_core.proofs.group_json.append_group_values.Goals as goal

pub returns : goal.returns
unfolding group_values
returns c = four_more _ _ _ _ _ _ _ _ _ c.in_ok-append.ensures c.in_ok-append_values_object.ensures c.in_ok-append-2.ensures c.in_ok-append_fields_object.ensures
