use Rattle.std.proofs.Common.{◌++◌}
use Rattle.std.specs.Prelude.{codes}
use Rattle.finding_texts.specs.Shown.{shown}
use Rattle.finding_texts.specs.ConfigTexts.{way_text}
use Rattle.finding_texts.proofs.Appends.{text_after, then_text}
use Rattle.finding_texts.proofs.configs.append_elsewhere.Goals as goal

pub returns : goal.returns
returns c =
    let old = c.args.out.now.items in
    let a0 = way_text c.args.prefix c.args.next in
    let a1 = a0 ++ codes ": no subnet of interface " in
    let t1 = then_text old _ _ a0 (codes ": no subnet of interface ") c.in_ok-append_way.ensures c.in_ok-append.ensures in
    let a2 = a1 ++ shown c.args.interface.now in
    let t2 = then_text old _ _ a1 (shown c.args.interface.now) t1 c.in_ok-append_text.ensures in
    text_after _ old _ _ a2 _ t2 c.append-2.ensures
