use Rattle.std.proofs.Common.{ap, ◌∙◌, slice_set, map}
use Rattle.std.proofs.lemmas.List.{map-set}
use Rattle.report_groups.proofs.draft.take_field.Goals as goal

pub returns-clause-left : goal.returns-clause-left
returns-clause-left c =
    let d = c.args.draft.now in
    let empty = ap (λ v. v.items) c.replace.ensures.after ∙ c.new.ensures.items in
    ap (λ fs. record { fields = fs; old = d.before.items; new = d.after.items })
    (map-set (λ f. f.items) d.fields.items c.args.k c.replace.new.dest ∙ ap (λ e. slice_set (map (λ f. f.items) d.fields.items) c.args.k e) empty)
