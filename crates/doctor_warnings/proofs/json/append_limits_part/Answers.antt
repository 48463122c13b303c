use Rattle.json_text.proofs.Joined.{two_more}
use Rattle.doctor_warnings.specs.NotesJson.{limits_part}
use Rattle.doctor_warnings.proofs.json.append_limits_part.Goals as goal

pub returns : goal.returns
unfolding limits_part
returns c = two_more _ _ _ _ _ c.in_ok-append.ensures c.in_ok-append_limits.ensures
