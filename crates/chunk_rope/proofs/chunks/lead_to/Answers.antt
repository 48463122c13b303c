use Rattle.std.proofs.Common.{sym, ◌∙◌, subst, refl, Some}
use Rattle.chunk_rope.specs.Owned.{IsLast}
use Rattle.chunk_rope.specs.Linked.{Leads}
use Rattle.chunk_rope.proofs.Links.{nothing_last, last_lies, at_end, leads_changed, items_changed, ends_twice}
use Rattle.chunk_rope.proofs.chunks.lead_to.Goals as goal

pub replace_last-chunk-requires : goal.replace_last-chunk-requires
replace_last-chunk-requires g c = last_lies c.args.rest.now.blocks c.in-Some.at (sym c.in-Some.is ∙ c.requires.last)

pub replace_last-blank-requires : goal.replace_last-blank-requires
replace_last-blank-requires g c = let e = c.replace_last-chunk.ensures in subst (λ bs. IsLast bs c.in-Some.at.ptr) (sym e.3) (at_end e.1 (c.in-Some.at.ptr, e.0) _)

pub returns-in-None-clause-leads : goal.returns-in-None-clause-leads
returns-in-None-clause-leads g c = subst (λ bs. Leads (Some c.args.mark) bs (Some c.args.mark)) (sym (nothing_last _ (sym c.in-None.is ∙ c.requires.last))) refl

pub returns-in-Some-clause-leads : goal.returns-in-Some-clause-leads
returns-in-Some-clause-leads g c =
    leads_changed _ _ _ _ _ _ _ (ends_twice _ _ _ _ _ _ _ _ c.replace_last-chunk.ensures c.replace_last-blank.ensures) refl refl c.requires.leads

pub returns-in-Some-clause-items : goal.returns-in-Some-clause-items
returns-in-Some-clause-items g c = items_changed _ _ _ _ _ (ends_twice _ _ _ _ _ _ _ _ c.replace_last-chunk.ensures c.replace_last-blank.ensures) refl
