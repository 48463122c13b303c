use Rattle.std.proofs.Common.{◌∙◌, ap, sym, Bool, position, nat_lt}
use Rattle.net_types.specs.declared.config.Entry.{Entry}
use Rattle.incr_review.proofs.FirstLemmas.{put_before, put_behind}
use Rattle.incr_review.proofs.entries.put_entry.Goals as goal

pub returns-in_ok-push-in-None : goal.returns-in_ok-push-in-None
returns-in_ok-push-in-None c =
    let test : Entry → Bool = λ x. nat_lt c.args.entry.sequence x.sequence in
    c.in_ok-push-in-None.ensures.items
    ∙ sym (put_behind c.args.entry c.args.entries.now.items (sym c.in-None.is ∙ (c.greater_position.ensures ∙ ap (position test) c.as_slice.ensures.value)))

pub returns-in_ok-insert-in-Some : goal.returns-in_ok-insert-in-Some
returns-in_ok-insert-in-Some c =
    let test : Entry → Bool = λ x. nat_lt c.args.entry.sequence x.sequence in
    c.in_ok-insert-in-Some.ensures.items
    ∙ sym (put_before c.args.entry c.args.entries.now.items c.in-Some.position (sym c.in-Some.is ∙ (c.greater_position.ensures ∙ ap (position test) c.as_slice.ensures.value)))
