-- What workers are asked, in tables that grow.
use Rattle.std.proofs.Common.{ℕ, ◌≡◌, List, subst}
use Rattle.cube_diagram.specs.Functions.{Functions, Keeps}
use Rattle.net_types.specs.declared.question.Answer.{Answer}
use Rattle.net_types.specs.declared.question.Question.{Question}
use Rattle.net_types.specs.World.{World}
use Rattle.set_walk.proofs.SetLemmas.{kept_below}
use Rattle.ask_query.specs.declared.shared.Asked.{Asked}
use Rattle.ask_query.specs.Shared.{IsAsked}
use Rattle.ask_query.specs.Slots.{AnswerNumbers}
use Rattle.ask_query.proofs.AnswerLemmas.{filter_kept}
use Rattle.loop_search.proofs.BoundsLemmas.{below_kept, bounds_kept}
use Rattle.loop_search.proofs.WholeLemmas.{whole_kept}

pub asked_kept : (f g : Functions) (a : Asked) → Keeps f g → IsAsked f a → IsAsked g a
asked_kept f g a k i =
    record {
      net = whole_kept f g a.net.now k i.net;
      domain = kept_below f g a.domain k i.domain;
      filters = λ q c. filter_kept f g a.domain q k i.domain (i.filters q c);
      sets = below_kept f g a.bounds.now k i.sets;
      bounds = bounds_kept f g a.net.now a.bounds.now k i.sets i.bounds;
      ttl = i.ttl;
      below = i.below;
      each = i.each;
      few = i.few;
    }

-- the same by other names
pub numbers_as : (w v : World) (t s : ℕ) (qs rs : List Question) (ns ms : List ℕ) (answers : List Answer) → w ≡ v → t ≡ s → qs ≡ rs → ns ≡ ms → AnswerNumbers w t qs ns answers → AnswerNumbers v s rs ms answers
numbers_as w v t s qs rs ns ms answers a b c d r = subst (λ x. AnswerNumbers x s rs ms answers) a (subst (λ x. AnswerNumbers w x rs ms answers) b (subst (λ x. AnswerNumbers w t x ms answers) c (subst (λ x. AnswerNumbers w t qs x answers) d r)))
