use Rattle.std.proofs.Common.{sym, ◌∙◌, true≢false}
use Rattle.cube_alg.proofs.RestLemmas.{adds_all}
use Rattle.cube_alg.proofs.rest.minus.Goals as goal

pub returns-then-not-meets-clause-rest : goal.returns-then-not-meets-clause-rest
returns-then-not-meets-clause-rest c =
    rw c.in_ok-push.ensures.items (adds_all c.args.a.now c.args.b.now c.args.pieces.now.items (λ m. let t = c.meets.ensures.masks.1 m in true≢false (sym t ∙ c.if-not-meets.true)))

pub add_rest-requires : goal.add_rest-requires
add_rest-requires c = record { overlap = c.meets.ensures.shared.0 c.if-not-meets.false }
