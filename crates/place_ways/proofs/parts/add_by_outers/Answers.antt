use Rattle.std.proofs.Common.{rules, subst, sym}
use Rattle.cube_diagram.specs.Functions.{value_at}
use Rattle.cube_diagram.specs.Reach.{GivesOnly}
use Rattle.place_ways.specs.declared.parts.Part.{Part}
use Rattle.place_ways.specs.Parts.{outer_of}
use Rattle.place_ways.proofs.SetLemmas.{keeps_same, keeps_then, kept_below, kept_set}
use Rattle.place_ways.proofs.PartLemmas.{none_left, part_pushed, rest_parts}
use Rattle.place_ways.proofs.parts.add_by_outers.Goals as goal

pub values_on-requires : goal.values_on-requires
values_on-requires c = c.requires.translation.outer_below

pub without-requires-clause-first : goal.without-requires-clause-first
without-requires-clause-first c = kept_below c.args.table.now c.add_outers.new.table c.args.given c.in_ok-add_outers.ensures.kept c.requires.given

pub without-requires-clause-second : goal.without-requires-clause-second
without-requires-clause-second c = kept_below c.args.table.now c.add_outers.new.table c.args.translation.outer c.in_ok-add_outers.ensures.kept c.requires.translation.outer_below

pub returns-clause-added : goal.returns-clause-added
returns-clause-added c =
    let t = c.args.translation in
    let r = c.requires.translation in
    let d0 = c.args.table.now in
    let d1 = c.add_outers.new.table in
    let d2 = c.without.new.table in
    let o = c.in_ok-add_outers.ensures in
    let n = c.in_ok-headers in
    let part : Part = record { headers = n.headers; stamp = c.stamp_of-stamp.result } in
    rw c.in_ok-push.ensures.items (rest_parts _ d0 d1 d2 d2 t.outer c.args.given n.headers (outer_of t) c.all.result c.as_slice.result.now c.args.parts.now.items c.add_outers.new.parts.items _ c.all.ensures (subst (GivesOnly (value_at d0 t.outer) c.all.result) (sym c.as_slice.ensures.keys) c.in_ok-outers.ensures.gives) o.kept n.ensures.kept (keeps_same d2) r.outer_below c.requires.given r.outer n.ensures.set.exact o.added (part_pushed _ d2 c.add_outers.new.parts.items part n.ensures.set.below (search rules) (λ h v i. c.stamp_of-stamp.ensures h (c.requires.rule h v ((kept_set d0 d1 c.args.given h o.kept c.requires.given).0 ((n.ensures.set.exact h v).0 i).0)) (none_left d0 d1 d2 t.outer c.args.given n.headers (outer_of t) o.kept r.outer_below r.outer n.ensures.set.exact h v i))))

pub returns-clause-kept : goal.returns-clause-kept
returns-clause-kept c = keeps_then c.args.table.now c.add_outers.new.table c.without.new.table c.in_ok-add_outers.ensures.kept c.in_ok-headers.ensures.kept
