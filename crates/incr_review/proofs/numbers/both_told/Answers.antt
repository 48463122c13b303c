use Rattle.std.proofs.Common.{subst, List, ◌≡◌, ℕ, Some, slice_get, rules}
use Rattle.cube_diagram.specs.declared.paired.ValuePair.{ValuePair}
use Rattle.cube_diagram.specs.Functions.{value_at}
use Rattle.incr_review.specs.declared.numbers.FactList.{FactList}
use Rattle.incr_review.specs.FactNumbers.{facts_at, facts_of_pair}
use Rattle.incr_review.proofs.ListLemmas.{once_at}
use Rattle.incr_review.proofs.FactLemmas.{pair_facts, pair_same}
use Rattle.incr_review.proofs.numbers.both_told.Goals as goal

pub returns-clause-told : goal.returns-clause-told
returns-clause-told c =
    let f = c.args.table.now in
    let g = c.paired.new.self in
    let a = c.args.a.now in
    let b = c.args.b.now in
    let pairs = c.paired.new.pairs.keys in
    let r = c.in_ok-function.function in
    let lists = c.in_ok-lists.lists.items in
    let exact = c.in_ok-function.ensures.exact in
    let told = subst (λ (xs : List FactList). (n : ℕ) (p : ValuePair) → slice_get pairs n ≡ Some p → facts_at lists n ≡ facts_of_pair xs b.lists.items p) c.deref.ensures.value
    (subst (λ (ys : List FactList). (n : ℕ) (p : ValuePair) → slice_get pairs n ≡ Some p → facts_at lists n ≡ facts_of_pair c.deref.result.now ys p) c.deref-2.ensures.value
    (subst (λ (ps : List ValuePair). (n : ℕ) (p : ValuePair) → slice_get ps n ≡ Some p → facts_at lists n ≡ facts_of_pair c.deref.result.now c.deref-2.result.now p) c.as_slice.ensures.keys c.in_ok-lists.ensures)) in
    let once = once_at _ (λ x. search rules) pairs c.as_slice.ensures.unique in
    record {
      below = c.in_ok-function.ensures.below;
      facts = λ h. pair_facts a.lists.items b.lists.items lists pairs told (value_at f a.function h) (value_at f b.function h) (value_at g r h) (exact h);
      same = λ h k p q. pair_same pairs once (value_at f a.function h) (value_at f b.function h) (value_at g r h) (value_at f a.function k) (value_at f b.function k) (value_at g r k) p q (exact h) (exact k);
    }
