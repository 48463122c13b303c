use Rattle.chunk_rope.specs.Linked.{Linked, count_of}
use Rattle.chunk_rope.proofs.chunks.Chunks.drop.Given as goal

abbrev pub invariant-loop-chunk : goal.invariant-loop-chunk
invariant-loop-chunk g l = Linked l.chunk l.rest.blocks l.last

abbrev pub decreases-loop-chunk : goal.decreases-loop-chunk
decreases-loop-chunk g l = count_of l.chunk l.rest.blocks
