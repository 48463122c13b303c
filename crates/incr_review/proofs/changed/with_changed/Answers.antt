use Rattle.std.proofs.Common.{◌∙◌, ap, slice_get}
use Rattle.std.specs.Prelude.{option_and_then}
use Rattle.incr_review.proofs.ChangedLemmas.{copied_given}
use Rattle.incr_review.proofs.changed.with_changed.Goals as goal

pub with_apart-requires-clause-before : goal.with_apart-requires-clause-before
with_apart-requires-clause-before c =
    copied_given c.args.table.now c.list_at-before.result _ (c.list_at-before.ensures ∙ ap (option_and_then (slice_get c.args.change.lists.now)) c.position_in.ensures) (λ v e. c.requires.before c.place_of-place.result v e)

pub with_apart-requires-clause-after : goal.with_apart-requires-clause-after
with_apart-requires-clause-after c =
    copied_given c.args.table.now c.list_at-after.result _ (c.list_at-after.ensures ∙ ap (option_and_then (slice_get c.args.change.lists.now)) c.position_in-2.ensures) (λ v e. c.requires.after c.place_of-place.result v e)
