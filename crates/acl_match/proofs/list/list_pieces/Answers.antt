use Rattle.acl_match.proofs.list.list_pieces.Goals as goal
use Rattle.std.proofs.Common.{◌≡◌, subst, take, arith}
use Rattle.std.proofs.lemmas.List.{take_all}
use Rattle.acl_match.specs.Lists.{AddsPieces}
use Rattle.acl_match.proofs.ListLemmas.{SaysEntries, entries_more, with_end}

pub loop-e-preserved : goal.loop-e-preserved
loop-e-preserved c =
    entries_more c.loop-e.pieces.items c.add_pieces.new.pieces.items c.args.entries.now c.loop-e.e-index c.e-item.result c.in_ok-cubes.cubes.items c.loop-e-test.true c.e-item.is c.in_ok-cubes.ensures.test (subst (λ x. AddsPieces x c.e-item.result.permit c.loop-e.pieces.items c.add_pieces.new.pieces.items) c.deref.ensures.value c.in_ok-add_pieces.ensures) c.loop-e.invariant

pub returns : goal.returns
returns c h =
    let es = c.args.entries.now in
    let e : take c.loop-e.e-index c.args.entries.now ≡ c.args.entries.now = take_all c.loop-e.e-index es (omega (arith, c.loop-e-test.false)) in
    let s : SaysEntries c.loop-e.pieces.items c.args.entries.now = subst (λ x. SaysEntries c.loop-e.pieces.items x) e c.loop-e.invariant in
    rw c.in_ok-push.ensures.items (with_end c.loop-e.pieces.items c.args.entries.now (record { cube = c.all.result; value = c.end_of.result }) h c.all.ensures c.end_of.ensures s)
