use Rattle.std.proofs.Common.{◌++◌}
use Rattle.std.specs.Prelude.{codes}
use Rattle.report_text.specs.FieldText.{address_text}
use Rattle.finding_texts.specs.PlaceTexts.{place_name}
use Rattle.finding_texts.proofs.Appends.{text_after, then_text}
use Rattle.finding_texts.proofs.strays.append_stray.Goals as goal

pub returns : goal.returns
returns c =
    let old = c.args.out.now.items in
    let a0 = place_name c.args.stray.now.place in
    let a1 = a0 ++ codes " has the next hop " in
    let t1 = then_text old _ _ a0 (codes " has the next hop ") c.in_ok-append_name.ensures c.in_ok-append.ensures in
    let a2 = a1 ++ address_text c.args.stray.now.next in
    let t2 = then_text old _ _ a1 (address_text c.args.stray.now.next) t1 c.in_ok-append_address.ensures in
    let a3 = a2 ++ codes ", which no end of the lan has" in
    let t3 = then_text old _ _ a2 (codes ", which no end of the lan has") t2 c.in_ok-append-2.ensures in
    text_after _ old _ _ a3 _ t3 c.append_where.ensures
