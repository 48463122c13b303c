use Rattle.std.proofs.Common.{sym, ap, ◌∙◌}
use Rattle.std.proofs.lemmas.Bool.{true≢false}
use Rattle.chunk_rope.specs.Linked.{held_by}
use Rattle.chunk_rope.proofs.Links.{empty_left}
use Rattle.chunk_rope.proofs.rope.Rope.is_empty.Goals as goal

pub returns-else-is_empty : goal.returns-else-is_empty
returns-else-is_empty g c =
    (λ t. absurd (true≢false (sym t ∙ c.if-is_empty.false)), λ n. c.is_empty.ensures.1 (empty_left c.self.inside.chunks (held_by c.self.inside.tail) (ap (λ s. s.items) c.self.view_is ∙ n)))
