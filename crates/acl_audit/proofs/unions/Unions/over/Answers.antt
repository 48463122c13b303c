use Rattle.std.proofs.Common.{rules, ◌≡◌, [], ◌∷◌, length, map}
use Rattle.std.proofs.lemmas.List.{map-append}
use Rattle.acl_audit.proofs.unions.Unions.over.Goals as goal
use Rattle.acl_audit.proofs.UnionLemmas.{items_of, levels_start, levels_more, levels_end}

pub levels-init : goal.levels-init
levels-init c =
    rw c.new-levels.ensures.items (levels_start c.args.diagrams.now c.decided_sets.new.diagrams c.args.entries.now c.in_ok-level.level.items c.in_ok-decided.ensures.kept c.in_ok-level.ensures.all c.in_ok-level.ensures.sets)

pub levels-preserved : goal.levels-preserved
levels-preserved c =
    let l = c.levels in
    let below = map items_of l.levels.items in
    rw (c.in_ok-push.ensures.items, map-append items_of l.levels.items (l.level ∷ [])) (levels_more c.args.diagrams.now l.diagrams c.pair_sets.new.diagrams c.args.entries.now below l.level.items c.in_ok-above.above.items c.in_ok-above.ensures.kept l.invariant (rw c.deref.ensures.value at c.in_ok-above.ensures.all) (c.in_ok-above.ensures.unions c.args.entries.now (length below) (rw c.deref.ensures.value l.invariant.top_sets)))

pub returns-clause-unions : goal.returns-clause-unions
returns-clause-unions c =
    let l = c.levels in
    let t = c.is_empty.ensures in
    let z : length l.level.items ≡ 0 = search rules in
    levels_end c.args.diagrams.now l.diagrams c.args.entries.now (map items_of l.levels.items) l.level.items z l.invariant
