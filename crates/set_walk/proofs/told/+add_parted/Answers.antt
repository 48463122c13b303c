use Rattle.std.proofs.Common.{◌≡◌, inl, inr, refl, ap, sym, ◌∙◌, subst, arith}
use Rattle.cube_alg.specs.Stamps.{followed}
use Rattle.set_walk.specs.Told.{AddsMoves, Makes, IsNormal, restamped}
use Rattle.set_walk.specs.Ways.{IsStamp}
use Rattle.set_walk.proofs.SetLemmas.{kept_below}
use Rattle.set_walk.proofs.StampLemmas.{fits_then, followed_twice, later_part_fits, normal_then, nothing_before, rest_alone}
use Rattle.set_walk.proofs.ToldLemmas.{told_kept, in_parts, in_same_part, kept_for_all}
use Rattle.set_walk.proofs.told.+add_parted.Goals as goal

-- nothing is left: what is settled is the stamp
pub returns-in_default-clause-added : goal.returns-in_default-clause-added
returns-in_default-clause-added t c =
    let d0 = c.args.table.now in
    let d1 = c.add_way.new.table in
    let all = c.restamped.ensures ∙ (ap (restamped c.args.step) (sym (nothing_before c.args.settled)) ∙ ap (λ s. restamped c.args.step (followed s c.args.settled)) (sym (c.in_default.ensures.none refl))) in
    subst (λ s. AddsMoves d0 d1 (Makes d0 c.args.headers s) c.args.told.now.ways.items c.add_way.new.told.ways.items) all c.in_ok-add_way.ensures.added

pub add_parted-requires : goal.add_parted-requires
add_parted-requires t c =
    let d0 = c.args.table.now in
    let d1 = c.parted.new.table in
    let p = c.in_ok-parts in
    let cut = c.in-Some.ensures.cut in
    let fewer = cut.fewer in (
      omega (arith, fewer, c.decreases),
      (
        p.ensures.same.below,
        (
          later_part_fits c.in-Some.cut.field c.in-Some.cut.rest c.args.rest cut.before c.requires.rest,
          (
            c.requires.settled,
            (
              in_same_part d0 d1 c.args.headers p.parts.same c.in-Some.cut.field _ c.requires.normal p.ensures.same.exact,
              told_kept d0 d1 c.args.told.now.ways.items p.ensures.kept c.requires.told,
            ),
          ),
        ),
      ),
    )

-- in the other part the field is one that the stamp changes
pub add_parted-requires-2 : goal.add_parted-requires-2
add_parted-requires-2 t c =
    let d1 = c.parted.new.table in
    let d2 = c.add_parted.new.table in
    let p = c.in_ok-parts in
    let cut = c.in-Some.ensures.cut in
    let field = c.in-Some.cut.field in
    let kept = c.in_ok-add_parted.ensures.kept in
    let fewer = cut.fewer in (
      omega (arith, fewer, c.decreases),
      (
        kept_below d1 d2 p.parts.other kept p.ensures.other.below,
        (
          later_part_fits field c.in-Some.cut.rest c.args.rest cut.before c.requires.rest,
          (
            subst IsStamp (sym c.then-changed.ensures.fields) (fits_then field c.args.settled (later_part_fits c.in-Some.cut.rest field c.args.rest cut.behind c.requires.rest) c.requires.settled),
            (
              kept_for_all d1 d2 p.parts.other _ kept p.ensures.other.below (λ h v i.
                  let x = (p.ensures.other.exact h v).0 i in
                  subst (IsNormal h) (sym c.then-changed.ensures.fields) (normal_then field c.args.settled h (elim (cut.one h) [
                    | inl e ↦ absurd (x.1 ((p.ensures.same.exact h v).1 (x.0, e)))
                    | inr n ↦ n
                  ]) (c.requires.normal h v x.0))),
              c.in_ok-add_parted.ensures.added.told,
            ),
          ),
        ),
      ),
    )

pub returns-clause-added : goal.returns-clause-added
returns-clause-added t c =
    let d0 = c.args.table.now in
    let d1 = c.parted.new.table in
    let d2 = c.add_parted.new.table in
    let d3 = c.add_parted-2.new.table in
    let p = c.in_ok-parts in
    let cut = c.in-Some.ensures.cut in
    let field = c.in-Some.cut.field in
    let rest = c.in-Some.cut.rest in
    let settled = c.args.settled in
    let before = c.args.told.now.ways.items in
    let between = c.add_parted.new.told.ways.items in
    let behind = c.add_parted-2.new.told.ways.items in
    let whole : followed rest c.then-changed.result ≡ followed c.args.rest settled = ap (followed rest) c.then-changed.ensures.fields ∙ (sym (followed_twice rest field settled) ∙ ap (λ s. followed s settled) cut.behind) in
    in_parts d0 d1 d2 d3 c.args.headers p.parts.same p.parts.other field (followed rest settled) (followed c.args.rest settled) c.args.step before between behind p.ensures.kept c.in_ok-add_parted.ensures.kept c.requires.told p.ensures.other.below p.ensures.same.exact p.ensures.other.exact (λ h e. rest_alone c.args.rest field rest settled h cut.before e) c.in_ok-add_parted.ensures.added (subst (λ s. AddsMoves d2 d3 (Makes d2 p.parts.other (restamped c.args.step s)) between behind) whole c.in_ok-add_parted-2.ensures.added)
