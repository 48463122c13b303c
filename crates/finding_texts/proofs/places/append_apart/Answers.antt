use Rattle.finding_texts.proofs.Appends.{text_after, then_text}
use Rattle.finding_texts.proofs.places.append_apart.Goals as goal

pub returns : goal.returns
returns c =
    let t1 = then_text _ _ _ _ _ c.in_ok-append_name.ensures c.in_ok-append.ensures in
    let t2 = then_text _ _ _ _ _ t1 c.in_ok-append_name-2.ensures in
    text_after _ _ _ _ _ _ t2 c.append_where.ensures
