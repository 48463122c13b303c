use Rattle.std.proofs.Common.{◌++◌}
use Rattle.std.specs.Prelude.{codes, decimal}
use Rattle.finding_texts.specs.Shown.{shown}
use Rattle.finding_texts.specs.ConfigTexts.{field_text}
use Rattle.finding_texts.proofs.Appends.{text_after, then_text}
use Rattle.finding_texts.proofs.configs.append_mask.Goals as goal

pub returns : goal.returns
returns c =
    let old = c.args.out.now.items in
    let a0 = codes "entry " in
    let a1 = a0 ++ decimal c.args.sequence in
    let t1 = then_text old _ _ a0 (decimal c.args.sequence) c.in_ok-append.ensures (rw c.from.ensures at c.in_ok-append_number.ensures) in
    let a2 = a1 ++ codes " of the access list " in
    let t2 = then_text old _ _ a1 (codes " of the access list ") t1 c.in_ok-append-2.ensures in
    let a3 = a2 ++ shown c.args.list.now in
    let t3 = then_text old _ _ a2 (shown c.args.list.now) t2 c.in_ok-append_text.ensures in
    let a4 = a3 ++ codes " has a mask for a wildcard: " in
    let t4 = then_text old _ _ a3 (codes " has a mask for a wildcard: ") t3 c.in_ok-append-3.ensures in
    let a5 = a4 ++ field_text c.args.field in
    let t5 = then_text old _ _ a4 (field_text c.args.field) t4 c.in_ok-append_field.ensures in
    text_after _ old _ _ a5 _ t5 c.append_masked.ensures
