use Rattle.json_text.proofs.Joined.{two_more}
use Rattle.doctor_warnings.specs.NotesJson.{lines_part}
use Rattle.doctor_warnings.proofs.json.append_lines_part.Goals as goal

pub returns : goal.returns
unfolding lines_part
returns c = two_more _ _ _ _ _ c.in_ok-append.ensures c.in_ok-append_lines.ensures
