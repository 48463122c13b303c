use Rattle.std.proofs.lemmas.List.Elements.{All-contains_itself}
use Rattle.cube_diagram.proofs.CombineLemmas.{put_more}
use Rattle.cube_diagram.proofs.memo.in_slots.Goals as goal

pub loop-known-preserved : goal.loop-known-preserved
loop-known-preserved c =
    put_more c.args.combinations.now c.loop-known.slots.items c.put.new.slots c.loop-known.slots.len c.put.ensures.0 _ (c.loop-known.slots.ok.0) (rw c.deref_mut.ensures.value at c.put.ensures.1) (All-contains_itself c.args.combinations.now c.loop-known.known-index _ c.loop-known-test.true) c.loop-known.invariant
