use Rattle.std.proofs.Common.{ap}
use Rattle.std.proofs.lemmas.List.{map-set}
use Rattle.report_groups.proofs.draft.put_field.Goals as goal

pub returns : goal.returns
returns c =
    let d = c.args.draft.now in
    ap (λ fs. record { fields = fs; old = d.before.items; new = d.after.items }) (map-set (λ f. f.items) d.fields.items c.args.k c.args.patterns)
