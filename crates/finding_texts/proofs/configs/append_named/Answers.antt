use Rattle.std.proofs.Common.{◌++◌}
use Rattle.std.specs.Prelude.{codes}
use Rattle.finding_texts.specs.Shown.{shown}
use Rattle.finding_texts.proofs.Appends.{text_after, then_text}
use Rattle.finding_texts.proofs.configs.append_named.Goals as goal

pub returns : goal.returns
returns c =
    let old = c.args.out.now.items in
    let a0 = codes "interface " in
    let a1 = a0 ++ shown c.args.interface.now in
    let t1 = then_text old _ _ a0 (shown c.args.interface.now) c.in_ok-append.ensures c.in_ok-append_text.ensures in
    let a2 = a1 ++ codes " names the access list " in
    let t2 = then_text old _ _ a1 (codes " names the access list ") t1 c.in_ok-append-2.ensures in
    let a3 = a2 ++ shown c.args.list.now in
    let t3 = then_text old _ _ a2 (shown c.args.list.now) t2 c.in_ok-append_text-2.ensures in
    text_after _ old _ _ a3 _ t3 c.append_direction.ensures
