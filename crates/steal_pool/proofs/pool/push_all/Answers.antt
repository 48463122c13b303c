use Rattle.std.proofs.Common.{◌≡◌, ◌+◌, ◌<◌, ◌≤◌, [], ◌∷◌, ◌++◌, length, take, sym, ap, ◌∙◌, subst, arith}
use Rattle.task_board.specs.declared.leaf.Part.{Part}
use Rattle.std.proofs.lemmas.List.{take_more}
use Rattle.steal_pool.specs.Pushes.{PushesParts}
use Rattle.steal_pool.proofs.PushLemmas.{pushes_more, push_counts}
use Rattle.steal_pool.proofs.pool.push_all.Goals.{then-is_ok, else-is_ok}
use Rattle.steal_pool.proofs.pool.push_all.Goals as goal

pub loop-i-preserved : goal.loop-i-preserved
loop-i-preserved c =
    let i = c.loop-i.i in let parts = c.args.parts.now in let d = c.index-parts-i.result in
    let l : i < length parts = (let test = c.loop-i-test.true in omega (arith, test)) in
    let old = c.args.owner.now in let mid = c.loop-i.owner in let new = c.push.new.self in let inv = c.loop-i.invariant in
    let pushes = subst (PushesParts old new) (sym (take_more parts i d l ∙ ap (λ (q : Part). take i parts ++ q ∷ []) (sym c.index-parts-i.is)))
    (pushes_more old mid new (take i parts) d c.push.result inv.0 c.push.ensures.full c.push.ensures.rule) in
    let more = push_counts mid new d c.push.result c.push.ensures.rule in
    let so_far = inv.1 in let few = inv.2 in
    let counted : (length new.pushed ≡ length old.pushed + c.if-is_ok.pushed) × (c.if-is_ok.pushed ≤ i + 1) = elim c.if-is_ok.branch [
      | then-is_ok w ↦ let e = w.pushed-is in let m = more.0 (sym c.is_ok.ensures.value ∙ w.if-is_ok.true) in (omega (arith, e, m, so_far), omega (arith, e, few))
      | else-is_ok w ↦ let e = w.pushed-is in let m = more.1 (sym c.is_ok.ensures.value ∙ w.if-is_ok.false) in (omega (arith, e, m, so_far), omega (arith, e, few))
    ] in (pushes, counted.0, counted.1)
