use Rattle.json_text.proofs.Joined.{four_more}
use Rattle.audit_view.specs.ShownText.{kinds_text}
use Rattle.audit_view.proofs.text.append_kinds.Goals as goal

pub returns : goal.returns
unfolding kinds_text
returns c = four_more _ _ _ _ _ _ _ _ _ c.in_ok-append.ensures c.in_ok-append_number.ensures c.in_ok-append-2.ensures c.in_ok-append_number-2.ensures
