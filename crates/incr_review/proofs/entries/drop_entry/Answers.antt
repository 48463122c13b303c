use Rattle.std.proofs.Common.{◌∙◌, ap, sym, Ok, position}
use Rattle.incr_review.specs.declared.edits.EditKind.TheVariants as kind
use Rattle.incr_review.specs.Edited.{has_sequence}
use Rattle.incr_review.proofs.FirstLemmas.{dropped, undropped, within}
use Rattle.incr_review.proofs.entries.drop_entry.Goals as goal

pub returns-in_default-clause-fail : goal.returns-in_default-clause-fail
returns-in_default-clause-fail c =
    let test = has_sequence c.args.sequence in
    undropped test kind.NoSuchEntry c.args.entries.now (sym c.in_default.is ∙ (c.sequence_position.ensures ∙ ap (position test) c.as_slice.ensures))

pub remove_at-requires : goal.remove_at-requires
remove_at-requires c =
    let test = has_sequence c.args.sequence in
    within test c.args.entries.now c.in-Some.position (sym c.in-Some.is ∙ (c.sequence_position.ensures ∙ ap (position test) c.as_slice.ensures))

pub returns-clause-ok : goal.returns-clause-ok
returns-clause-ok c =
    let test = has_sequence c.args.sequence in
    dropped test kind.NoSuchEntry c.args.entries.now c.in-Some.position (sym c.in-Some.is ∙ (c.sequence_position.ensures ∙ ap (position test) c.as_slice.ensures))
    ∙ ap Ok (sym c.remove_at.ensures)
