use Rattle.std.proofs.Common.{None, length, sym, ap, subst, ◌∙◌}
use Rattle.chunk_rope.specs.Linked.{Leads, last_mark}
use Rattle.chunk_rope.proofs.Links.{nowhere}
use Rattle.chunk_rope.proofs.chunks.next_chunk.Goals as goal

pub returns-in-None-clause-linked : goal.returns-in-None-clause-linked
returns-in-None-clause-linked g c = let bs = c.args.rest.now.blocks in let e = nowhere bs (subst (λ o. Leads o bs None) c.in-None.is c.requires.leads) in (e, c.requires.last ∙ ap last_mark e)

pub returns-in-None-clause-count : goal.returns-in-None-clause-count
returns-in-None-clause-count g c = let bs = c.args.rest.now.blocks in sym (ap length (nowhere bs (subst (λ o. Leads o bs None) c.in-None.is c.requires.leads)))
