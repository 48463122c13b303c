use Rattle.std.proofs.Common.{subst, sym}
use Rattle.cube_diagram.specs.Functions.{value_at}
use Rattle.cube_diagram.specs.Reach.{GivesOnly}
use Rattle.place_ways.specs.Parts.{rule_of}
use Rattle.place_ways.proofs.SetLemmas.{keeps_then, kept_below}
use Rattle.place_ways.proofs.PartLemmas.{all_parts, none_left, rest_parts, translation_kept}
use Rattle.place_ways.proofs.parts.translated_parts.Goals as goal

pub values_on-requires : goal.values_on-requires
values_on-requires c = c.requires.translation.rule_below

pub without-requires-clause-first : goal.without-requires-clause-first
without-requires-clause-first c = kept_below c.args.table.now c.add_by_rules.new.table c.args.given c.in_ok-add_by_rules.ensures.kept c.requires.given

pub without-requires-clause-second : goal.without-requires-clause-second
without-requires-clause-second c = kept_below c.args.table.now c.add_by_rules.new.table c.args.translation.rule c.in_ok-add_by_rules.ensures.kept c.requires.translation.rule_below

pub add_by_outers-requires-clause-translation : goal.add_by_outers-requires-clause-translation
add_by_outers-requires-clause-translation c =
    let d0 = c.args.table.now in
    let d2 = c.without.new.table in
    translation_kept d0 d2 c.args.translation (keeps_then d0 c.add_by_rules.new.table d2 c.in_ok-add_by_rules.ensures.kept c.in_ok-rest.ensures.kept) c.requires.translation

pub add_by_outers-requires-clause-rule : goal.add_by_outers-requires-clause-rule
add_by_outers-requires-clause-rule c h v i =
    let t = c.args.translation in
    none_left c.args.table.now c.add_by_rules.new.table c.without.new.table t.rule c.args.given c.in_ok-rest.rest (rule_of t) c.in_ok-add_by_rules.ensures.kept c.requires.translation.rule_below c.requires.translation.rule c.in_ok-rest.ensures.set.exact h v i

pub returns-clause-parts : goal.returns-clause-parts
returns-clause-parts c =
    let t = c.args.translation in
    let r = c.requires.translation in
    let d0 = c.args.table.now in
    let d1 = c.add_by_rules.new.table in
    let d2 = c.without.new.table in
    let d3 = c.add_by_outers.new.table in
    all_parts _ d3 _ c.new-parts.result.items c.add_by_outers.new.parts.items c.new-parts.ensures.items (rest_parts _ d0 d1 d2 d3 t.rule c.args.given c.in_ok-rest.rest (rule_of t) c.all.result c.as_slice.result.now c.new-parts.result.items c.add_by_rules.new.parts.items c.add_by_outers.new.parts.items c.all.ensures (subst (GivesOnly (value_at d0 t.rule) c.all.result) (sym c.as_slice.ensures.keys) c.in_ok-rules.ensures.gives) c.in_ok-add_by_rules.ensures.kept c.in_ok-rest.ensures.kept c.in_ok-add_by_outers.ensures.kept r.rule_below c.requires.given r.rule c.in_ok-rest.ensures.set.exact c.in_ok-add_by_rules.ensures.added c.in_ok-add_by_outers.ensures.added)

pub returns-clause-kept : goal.returns-clause-kept
returns-clause-kept c =
    let d0 = c.args.table.now in
    let d1 = c.add_by_rules.new.table in
    let d2 = c.without.new.table in
    let d3 = c.add_by_outers.new.table in
    keeps_then d0 d1 d3 c.in_ok-add_by_rules.ensures.kept (keeps_then d1 d2 d3 c.in_ok-rest.ensures.kept c.in_ok-add_by_outers.ensures.kept)
