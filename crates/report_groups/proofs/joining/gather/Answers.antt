use Rattle.std.proofs.Common.{◌≡◌, ◌<◌, length, map, ◌∷◌, [], sym, subst, ◌∙◌, arith}
use Rattle.std.proofs.lemmas.List.{map-append, length-map}
use Rattle.report_groups.specs.Drafts.{shown, IsFilled}
use Rattle.report_groups.proofs.Joins.{filled_more}
use Rattle.report_groups.proofs.joining.gather.Goals as goal

pub loop-draft-preserved : goal.loop-draft-preserved
loop-draft-preserved c =
    let d = c.in-Some.draft in
    let done = c.loop-draft.yielded in
    let was = c.loop-draft.joining in
    let now = c.add.new.self in
    let six : length (map (λ f. f.items) d.fields.items) ≡ 6 = length-map d.fields.items (λ f. f.items) ∙ d.six in
    let l : c.args.k < length (map (λ f. f.items) d.fields.items) = omega (arith, six, c.requires) in
    let is = filled_more c.args.k (shown d) (map shown done) was.0 was.1 now.0 now.1 l c.loop-draft.invariant.0 c.in_ok-add.ensures.added in
    (subst (λ gs. IsFilled c.args.k gs now.0 now.1) (sym (map-append shown done (d ∷ []))) is, c.in_ok-add.ensures.distinct)
