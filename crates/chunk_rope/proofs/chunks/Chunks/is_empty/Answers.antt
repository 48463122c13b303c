use Rattle.chunk_rope.proofs.Links.{is_empty_says}
use Rattle.chunk_rope.proofs.chunks.Chunks.is_empty.Goals as goal

pub returns : goal.returns
returns g c = is_empty_says c.self.inside.first c.self.inside.rest.blocks c.self.inside.last c.is_none.result c.args.self.now c.self.invariant c.is_none.ensures c.self.view_is
