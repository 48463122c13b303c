use Rattle.std.proofs.Common.{◌≡◌, inr, refl, sym, ◌∙◌, true, false}
use Rattle.incr_review.proofs.parts.add_part.Goals as goal

pub returns : goal.returns
returns c =
    inr (
      λ n. (let t = c.is_nothing.ensures.1 n in let both : false ≡ true = sym c.if-is_nothing.false ∙ t in absurd cc),
      record { part = record { headers = c.args.headers; facts = c.args.facts }; added = c.in_ok-push.ensures.items; headers_are = refl; facts_are = refl },
    )
