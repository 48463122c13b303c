use Rattle.std.proofs.Common.{◌++◌, ◌∷◌, [], get_or, ap, sym, ◌∙◌}
use Rattle.std.specs.Prelude.{not}
use Rattle.std.proofs.lemmas.List.{get_or_default}
use Rattle.place_checks.specs.Strays.{is_stray}
use Rattle.place_checks.specs.Sights.{folder_of}
use Rattle.place_checks.proofs.Firsts.{filter_kept, filter_left}
use Rattle.place_checks.proofs.strays.without_end.Goals as goal

pub loop-next-preserved-then-any_has : goal.loop-next-preserved-then-any_has
loop-next-preserved-then-any_has c =
    let nexts = c.args.nexts.now in
    let i = c.loop-next.next-index in
    let next = get_or nexts i 0 in
    c.loop-next.invariant
    ∙ filter_left nexts i next c.loop-next-test.true (get_or_default nexts i 0 next c.loop-next-test.true) (is_stray (folder_of c.args.net.now) c.args.ends.now)
    (ap not (sym c.if-any_has.true ∙ c.any_has.ensures))

pub loop-next-preserved : goal.loop-next-preserved
loop-next-preserved c =
    let nexts = c.args.nexts.now in
    let i = c.loop-next.next-index in
    let next = get_or nexts i 0 in
    c.in_ok-push.ensures.items ∙ ap (λ l. l ++ next ∷ []) c.loop-next.invariant
    ∙ filter_kept nexts i next c.loop-next-test.true (get_or_default nexts i 0 next c.loop-next-test.true) (is_stray (folder_of c.args.net.now) c.args.ends.now)
    (ap not (sym c.if-any_has.false ∙ c.any_has.ensures))
