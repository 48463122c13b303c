use Rattle.std.proofs.lemmas.Result.{IfOk-from_err}
use Rattle.std.proofs.Common.{get_or, subst, sym, take_all, ◌∙◌}
use Rattle.std.proofs.lemmas.List.{get_or_default}
use Rattle.hdr_bits.specs.HeaderBits.{number}
use Rattle.set_walk.specs.Sets.{InSet}
use Rattle.place_ways.specs.Parts.{AddsParts, IsAmong, rule_of, translates}
use Rattle.place_ways.proofs.SetLemmas.{keeps_same, keeps_then, kept_below}
use Rattle.place_ways.proofs.AmongLemmas.{one_none}
use Rattle.place_ways.proofs.PartLemmas.{parts_none, translation_kept, value_parts}
use Rattle.place_ways.proofs.parts.add_by_rules.Goals as goal

pub loop-rule-init : goal.loop-rule-init
loop-rule-init c = record {
  kept = keeps_same c.args.table.now;
  added = parts_none _ c.args.table.now _ c.args.parts.now.items (λ h x. one_none _ x.1);
}

pub where_value-requires-clause-function : goal.where_value-requires-clause-function
where_value-requires-clause-function c = kept_below c.args.table.now c.loop-rule.table c.args.translation.rule c.loop-rule.invariant.kept c.requires.translation.rule_below

pub where_value-requires-clause-given : goal.where_value-requires-clause-given
where_value-requires-clause-given c = kept_below c.args.table.now c.loop-rule.table c.args.given c.loop-rule.invariant.kept c.requires.given

pub add_by_outers-requires-clause-translation : goal.add_by_outers-requires-clause-translation
add_by_outers-requires-clause-translation c =
    let f = c.args.table.now in
    let g = c.loop-rule.table in
    let g2 = c.where_value.new.table in
    translation_kept f g2 c.args.translation (keeps_then f g g2 c.loop-rule.invariant.kept c.in_ok-part.ensures.kept) c.requires.translation

pub add_by_outers-requires-clause-rule : goal.add_by_outers-requires-clause-rule
add_by_outers-requires-clause-rule c h v i =
    let t = c.requires.translation in
    sym (t.rule h v) ∙ (sym (c.loop-rule.invariant.kept.value c.args.translation.rule t.rule_below (number h)) ∙ ((c.in_ok-part.ensures.set.exact h v).0 i).1)

pub loop-rule-preserved : goal.loop-rule-preserved
loop-rule-preserved c =
    let t = c.args.translation in
    let r = c.requires.translation in
    let l = c.loop-rule in
    let f = c.args.table.now in
    let g2 = c.where_value.new.table in
    let k = c.add_by_outers.new.table in
    let xs = c.args.rules.now in
    let i = l.rule-index in
    let one = get_or xs i 0 in
    let p = c.in_ok-part in
    let o = c.in_ok-add_by_outers.ensures in
    record {
      kept = keeps_then f l.table k l.invariant.kept (keeps_then l.table g2 k p.ensures.kept o.kept);
      added = value_parts _ f l.table g2 k t.rule c.args.given p.part (rule_of t) xs i one c.args.parts.now.items l.parts.items c.add_by_outers.new.parts.items l.invariant.kept p.ensures.kept o.kept r.rule_below c.requires.given r.rule c.loop-rule-test.true (get_or_default xs i 0 one c.loop-rule-test.true) p.ensures.set.exact l.invariant.added o.added;
    }

pub returns-clause-added : goal.returns-clause-added
returns-clause-added c =
    let t = c.args.translation in
    let l = c.loop-rule in
    subst (λ xs. AddsParts l.table (λ h. InSet c.args.table.now c.args.given h × IsAmong (rule_of t) xs h) (λ h. translates t h) c.args.parts.now.items l.parts.items) (take_all l.rule-index c.args.rules.now c.loop-rule-test.false) l.invariant.added

pub returns-in_err-part-clause-added : goal.returns-in_err-part-clause-added
returns-in_err-part-clause-added c = IfOk-from_err _ _ c.from_residual.ensures.0

pub returns-in_err-part-clause-kept : goal.returns-in_err-part-clause-kept
returns-in_err-part-clause-kept c = keeps_then _ _ _ c.loop-rule.invariant.kept c.in_err-part.ensures.kept

pub returns-in_err-add_by_outers-clause-added : goal.returns-in_err-add_by_outers-clause-added
returns-in_err-add_by_outers-clause-added c = IfOk-from_err _ _ c.from_residual-in_err-add_by_outers.ensures.0

pub returns-in_err-add_by_outers-clause-kept : goal.returns-in_err-add_by_outers-clause-kept
returns-in_err-add_by_outers-clause-kept c = keeps_then _ _ _ (keeps_then _ _ _ c.loop-rule.invariant.kept c.in_ok-part.ensures.kept) c.in_err-add_by_outers.ensures.kept
