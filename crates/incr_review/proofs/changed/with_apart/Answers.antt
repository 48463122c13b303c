use Rattle.std.proofs.Common.{List, Option, Some, IfSome, Bor, subst, sym}
use Rattle.std.specs.Option.{option_copied}
use Rattle.set_walk.specs.declared.net.PlaceWays.{PlaceWays}
use Rattle.set_walk.specs.declared.step.Way.{Way}
use Rattle.place_ways.specs.Adding.{AreGiven}
use Rattle.incr_review.specs.Changed.{AgreeOutside, HaveOthers}
use Rattle.incr_review.proofs.ChangedLemmas.{agree_by_others, ok_both}
use Rattle.incr_review.proofs.changed.with_apart.Goals as goal

pub with_difference-requires-clause-before : goal.with_difference-requires-clause-before
with_difference-requires-clause-before c =
    let f = c.args.table.now in
    subst (λ (ws : List Way). AreGiven f ws) (sym c.deref.ensures.value) (subst (λ (o : Option (Bor PlaceWays)). IfSome o (λ v. AreGiven f v.now.ways.items)) c.in-Some-Some.is-0 c.requires.before)

pub with_difference-requires-clause-after : goal.with_difference-requires-clause-after
with_difference-requires-clause-after c =
    let f = c.args.table.now in
    subst (λ (ws : List Way). AreGiven f ws) (sym c.deref-in-Some-Some.ensures.value) (subst (λ (o : Option (Bor PlaceWays)). IfSome o (λ v. AreGiven f v.now.ways.items)) c.in-Some-Some.is-1 c.requires.after)

pub returns-in-Some-Some-clause-agree : goal.returns-in-Some-Some-clause-agree
returns-in-Some-Some-clause-agree c =
    let f = c.args.table.now in
    let g = c.with_difference.new.table in
    let x = c.in-Some-Some.before.now in
    let y = c.in-Some-Some.after.now in
    ok_both c.with_difference.result _ _ _
    (λ r lost found.
    let gone : HaveOthers f g r x.ways.items y.ways.items = subst (λ (ws : List Way). HaveOthers f g r x.ways.items ws) c.deref-in-Some-Some.ensures.value (subst (λ (ws : List Way). HaveOthers f g r ws c.deref-in-Some-Some.result.now) c.deref.ensures.value lost) in
    let come : HaveOthers f g r y.ways.items x.ways.items = subst (λ (ws : List Way). HaveOthers f g r ws x.ways.items) c.deref-in-Some-Some.ensures.value (subst (λ (ws : List Way). HaveOthers f g r c.deref-in-Some-Some.result.now ws) c.deref.ensures.value found) in
    subst (λ (u : Option (Bor PlaceWays)). AgreeOutside f g r (option_copied u) (option_copied c.args.after)) (sym c.in-Some-Some.is-0)
    (subst (λ (u : Option (Bor PlaceWays)). AgreeOutside f g r (option_copied (Some c.in-Some-Some.before)) (option_copied u)) (sym c.in-Some-Some.is-1) (agree_by_others f g r x y gone come)))
    c.with_difference.ensures.lost c.with_difference.ensures.found
