use Rattle.std.proofs.Common.{◌++◌, ◌∷◌, [], get_or, ap, ◌∙◌}
use Rattle.std.proofs.lemmas.List.{get_or_default}
use Rattle.place_checks.specs.Index.{place_in}
use Rattle.place_checks.specs.Strays.{stray, stray_in_old}
use Rattle.place_checks.proofs.Firsts.{push_map}
use Rattle.place_checks.proofs.strays.tell_old.Goals as goal

pub loop-next-preserved : goal.loop-next-preserved
loop-next-preserved c =
    let place = place_in c.args.place in
    let told = stray_in_old c.args.line place c.args.new.now in
    let old = c.args.old.now in
    let i = c.loop-next.next-index in
    let next = get_or old i 0 in
    c.in_ok-tell.ensures ∙ ap (λ w. c.loop-next.found.items ++ stray c.args.line place next w ∷ []) c.networks_with.ensures
    ∙ ap (λ l. l ++ told next ∷ []) c.loop-next.invariant
    ∙ push_map c.args.found.now.items old i next c.loop-next-test.true (get_or_default old i 0 next c.loop-next-test.true) told
