use Rattle.std.proofs.Common.{◌++◌, ap, sym, ◌∙◌}
use Rattle.chunk_rope.specs.Linked.{held_by, items_of}
use Rattle.chunk_rope.proofs.Links.{linked_behind, items_behind}
use Rattle.chunk_rope.proofs.chunks.Chunks.append.Goals as goal

pub invariant_of-self-in-Some-first : goal.invariant_of-self-in-Some-first
invariant_of-self-in-Some-first g c =
    let alone = c.alone-block.ensures in
    let r = linked_behind c.self.inside.first c.into_parts-first.result.first c.in-Some-first.own c.in-Some.chunk c.lead_to.new.own c.of.result.value c.self.inside.rest.blocks c.lead_to.new.rest.blocks c.into_parts-first.result.rest.blocks c.join-in-Some-first.new.self.blocks c.self.inside.last c.into_parts-first.result.last c.alone-block.result.1 (c.of.result.at, c.of.result.alloc)
    c.in-Some-first.is c.self.invariant c.in-Some.is c.into_parts-first.ensures.linked (c.lead_to.ensures.own ∙ ap (λ k. k.items) c.deref_mut.ensures.value) c.lead_to.ensures.leads alone.0 c.of.ensures
    (c.join-in-Some-first.ensures ∙ ap (λ bs. bs ++ c.into_parts-first.result.rest.blocks) (c.join.ensures ∙ ap (λ bs. c.lead_to.new.rest.blocks ++ bs) alone.1)) in
    (r.0, r.1, c.or-self-inside.ensures ∙ r.2)

pub returns-in-Some-first : goal.returns-in-Some-first
returns-in-Some-first g c =
    let alone = c.alone-block.ensures in let theirs = c.into_parts-first.result.rest.blocks in
    items_behind c.self.inside.first c.in-Some-first.own c.lead_to.new.own c.of.result.value c.self.inside.rest.blocks c.lead_to.new.rest.blocks theirs c.join-in-Some-first.new.self.blocks (c.of.result.at, c.of.result.alloc) c.args.self.now c.args.other
    c.in-Some-first.is c.self.view_is (c.lead_to.ensures.own ∙ ap (λ k. k.items) c.deref_mut.ensures.value) c.lead_to.ensures.items (c.join-in-Some-first.ensures ∙ ap (λ bs. bs ++ theirs) (c.join.ensures ∙ ap (λ bs. c.lead_to.new.rest.blocks ++ bs) alone.1))
    (c.into_parts-first.ensures.items ∙ ap (λ o. held_by o ++ items_of theirs) c.in-Some.is ∙ ap (λ k. k.items.items ++ items_of theirs) (sym c.of.ensures))
