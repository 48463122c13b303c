use Rattle.std.proofs.lemmas.Result.{IfOk-from_err}
use Rattle.std.proofs.Common.{get_or, rules, subst, sym, take_all, ◌∙◌}
use Rattle.std.proofs.lemmas.List.{get_or_default}
use Rattle.hdr_bits.specs.HeaderBits.{number}
use Rattle.set_walk.specs.Sets.{InSet}
use Rattle.place_ways.specs.declared.parts.Part.{Part}
use Rattle.place_ways.specs.Parts.{AddsParts, IsAmong, outer_of, translates}
use Rattle.place_ways.proofs.SetLemmas.{keeps_same, keeps_then, kept_below, kept_set}
use Rattle.place_ways.proofs.AmongLemmas.{one_none}
use Rattle.place_ways.proofs.PartLemmas.{part_pushed, parts_none, value_parts}
use Rattle.place_ways.proofs.parts.add_outers.Goals as goal

pub loop-outer-init : goal.loop-outer-init
loop-outer-init c = record {
  kept = keeps_same c.args.table.now;
  added = parts_none _ c.args.table.now _ c.args.parts.now.items (λ h x. one_none _ x.1);
}

pub where_value-requires-clause-function : goal.where_value-requires-clause-function
where_value-requires-clause-function c = kept_below c.args.table.now c.loop-outer.table c.args.translation.outer c.loop-outer.invariant.kept c.requires.translation.outer_below

pub where_value-requires-clause-given : goal.where_value-requires-clause-given
where_value-requires-clause-given c = kept_below c.args.table.now c.loop-outer.table c.args.given c.loop-outer.invariant.kept c.requires.given

pub loop-outer-preserved : goal.loop-outer-preserved
loop-outer-preserved c =
    let t = c.args.translation in
    let r = c.requires.translation in
    let l = c.loop-outer in
    let f = c.args.table.now in
    let g2 = c.where_value.new.table in
    let xs = c.args.outers.now in
    let i = l.outer-index in
    let one = get_or xs i 0 in
    let n = c.in_ok-headers in
    let part : Part = record { headers = n.headers; stamp = c.stamp_of-stamp.result } in
    record {
      kept = keeps_then f l.table g2 l.invariant.kept n.ensures.kept;
      added = rw c.in_ok-push.ensures.items (value_parts _ f l.table g2 g2 t.outer c.args.given n.headers (outer_of t) xs i one c.args.parts.now.items l.parts.items _ l.invariant.kept n.ensures.kept (keeps_same g2) r.outer_below c.requires.given r.outer c.loop-outer-test.true (get_or_default xs i 0 one c.loop-outer-test.true) n.ensures.set.exact l.invariant.added (part_pushed _ g2 l.parts.items part n.ensures.set.below (search rules) (λ h v j. let u = (n.ensures.set.exact h v).0 j in c.stamp_of-stamp.ensures h (c.requires.rule h v ((kept_set f l.table c.args.given h l.invariant.kept c.requires.given).0 u.0)) (sym (r.outer h v) ∙ (sym (l.invariant.kept.value t.outer r.outer_below (number h)) ∙ u.1)))));
    }

pub returns-clause-added : goal.returns-clause-added
returns-clause-added c =
    let t = c.args.translation in
    let l = c.loop-outer in
    subst (λ xs. AddsParts l.table (λ h. InSet c.args.table.now c.args.given h × IsAmong (outer_of t) xs h) (λ h. translates t h) c.args.parts.now.items l.parts.items) (take_all l.outer-index c.args.outers.now c.loop-outer-test.false) l.invariant.added

pub returns-in_err-headers-clause-added : goal.returns-in_err-headers-clause-added
returns-in_err-headers-clause-added c = IfOk-from_err _ _ c.from_residual.ensures.0

pub returns-in_err-headers-clause-kept : goal.returns-in_err-headers-clause-kept
returns-in_err-headers-clause-kept c = keeps_then _ _ _ c.loop-outer.invariant.kept c.in_err-headers.ensures.kept

pub returns-in_err-push-clause-added : goal.returns-in_err-push-clause-added
returns-in_err-push-clause-added c = IfOk-from_err _ _ c.from_residual-in_err-push.ensures.0

pub returns-in_err-push-clause-kept : goal.returns-in_err-push-clause-kept
returns-in_err-push-clause-kept c = keeps_then _ _ _ c.loop-outer.invariant.kept c.in_ok-headers.ensures.kept
