use Rattle.std.proofs.Common.{sym, ap, ◌∙◌, ◌≡◌, ◌+◌, [], ◌∷◌, ◌++◌, take}
use Rattle.std.proofs.lemmas.List.{take_more, append-nil}
use Rattle.std.specs.Option.{option_to_list}
use Rattle.canon_rows.proofs.PieceParts.{parts_more}
use Rattle.canon_rows.proofs.halves.half.Goals as goal
use Rattle.canon_rows.proofs.halves.half.Goals.{in-Some+in_ok-push, in_default}

pub loop-p-preserved : goal.loop-p-preserved
loop-p-preserved c =
    let ps = c.args.pieces.now in
    let i = c.loop-p.p-index in
    let p = c.p-item.result in
    let t : take (i + 1) ps ≡ take i ps ++ p ∷ [] = rw (← c.p-item.is) at (take_more ps i p c.loop-p-test.true) in
    let more = parts_more c.args.high c.args.shift (take i ps) c.loop-p.kept.items p c.part_of.result c.loop-p.invariant c.part_of.ensures.within c.part_of.ensures.value in
    let e : c.match-part_of.kept.items ≡ c.loop-p.kept.items ++ option_to_list c.part_of.result = elim c.match-part_of.branch [
      | in-Some+in_ok-push w ↦ ap (λ v. v.items) w.kept-is ∙ (w.in_ok-push.ensures.items ∙ ap (λ o. c.loop-p.kept.items ++ option_to_list o) (sym w.in-Some.is))
      | in_default w ↦ ap (λ v. v.items) w.kept-is ∙ (sym (append-nil c.loop-p.kept.items) ∙ ap (λ o. c.loop-p.kept.items ++ option_to_list o) (sym w.in_default.is))
    ] in
    rw (t, e) more
