use Rattle.std.proofs.Common.{◌≡◌, ◌++◌, take}
use Rattle.std.specs.List.{flat_map}
use Rattle.json_text.specs.Chunks.{chunk_text}
use Rattle.json_text.proofs.chunks.append_chunks.Given as goal

abbrev pub invariant-loop-chunk : goal.invariant-loop-chunk
invariant-loop-chunk l = l.out.items ≡ l.fn.out.items ++ flat_map chunk_text (take l.chunk-index l.chunks)
