use Rattle.json_text.proofs.Joined.{two_more}
use Rattle.doctor_warnings.specs.NotesJson.{warnings_part}
use Rattle.doctor_warnings.proofs.json.append_warnings_part.Goals as goal

pub returns : goal.returns
unfolding warnings_part
returns c = two_more _ _ _ _ _ c.in_ok-append.ensures c.in_ok-append_warnings.ensures
