use Rattle.std.proofs.lemmas.Grind.{common_steps}
use Rattle.std.proofs.Common.{inl, inr, ap, ◌∙◌, ◌≡◌, ◌⊎◌, ◌-◌, Some, length, slice_get, subst, ◌+◌, arith}
use Rattle.canon_rows.specs.Pieces.{value_of}
use Rattle.canon_rows.specs.Nodes.{IsNumberOf}
use Rattle.canon_rows.proofs.NodeSteps.{number_of_none, number_of_first, number_of_star, number_grows}
use Rattle.canon_rows.proofs.table.+number_of_pieces.Goals as goal
use Rattle.canon_rows.proofs.table.+number_of_pieces.Goals.{then-width-eq0-via-then-width-eq0, then-width-eq0-via-else-width-eq0+then-len-eq1}

pub returns-in_default-clause-number : goal.returns-in_default-clause-number
returns-in_default-clause-number t c =
    number_of_none c.number_of.new.nodes.keys c.args.width c.in_ok-id.id c.args.pieces.items (c.in_default.ensures.value ∙ ap (λ ps. slice_get ps 0) c.deref.ensures.value) c.in_ok-id.ensures.entry

pub returns-then-width-eq0-clause-number : goal.returns-then-width-eq0-clause-number
returns-then-width-eq0-clause-number t c =
    let o : (c.args.width ≡ 0) ⊎ (length c.args.pieces.items ≡ 1) = elim c.then-width-eq0.branch [
      | then-width-eq0-via-then-width-eq0 w ↦ inl w.if-width-eq0.true
      | then-width-eq0-via-else-width-eq0+then-len-eq1 w ↦ inr (let n = ap length c.deref.ensures.value in let l = c.deref.ensures.len in let k = w.len.ensures in let e = w.if-len-eq1.true in omega arith)
    ] in
    number_of_first c.number_of-then-width-eq0.new.nodes.keys c.args.width c.in_ok-id-2.id c.in-Some.first.now c.args.pieces.items o (c.in-Some.ensures.value ∙ ap (λ ps. slice_get ps 0) c.deref.ensures.value) c.requires.within (c.in_ok-id-2.ensures.entry ∙ ap Some c.node_of_piece.ensures)

pub returns-then-not-is_split-clause-number : goal.returns-then-not-is_split-clause-number
returns-then-not-is_split-clause-number t c =
    number_of_star c.number_of_pieces.new.nodes.keys c.args.width (c.args.width - 1) c.in_ok-id-3.id c.args.pieces.items (omega arith) (rw (← c.deref-2.ensures.value) (c.is_split.ensures c.if-not-is_split.true)) c.in_ok-id-3.ensures.number

pub returns-clause-number : goal.returns-clause-number
returns-clause-number t c =
    let f = value_of c.args.pieces.items in
    let m = c.args.width - 1 in
    let w : m + 1 ≡ c.args.width = omega arith in
    let nodes = c.number_of_pieces-3.new.nodes.keys in
    let low = number_grows m c.number_of_pieces-2.new.nodes.keys nodes c.in_ok-low.low (value_of c.in_ok-zeros.zeros.items) c.in_ok-high.ensures.grows c.in_ok-low.ensures.number in
    subst (λ k. IsNumberOf c.number_of_halves.new.nodes.keys k c.in_ok-id-4.id f) w (c.in_ok-id-4.ensures.number f (value_of c.in_ok-zeros.zeros.items) (value_of c.in_ok-ones.ones.items) (λ n l. (rw (← c.deref-3.ensures.value) (c.in_ok-zeros.ensures.value n l), rw (← c.deref-4.ensures.value) (c.in_ok-ones.ensures.value n l))) low c.in_ok-high.ensures.number)

pub returns-clause-grows : goal.returns-clause-grows
returns-clause-grows t c = grind (arith, common_steps)
