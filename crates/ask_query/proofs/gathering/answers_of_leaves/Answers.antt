use Rattle.std.proofs.Common.{◌≡◌, ◌++◌, ◌∷◌, [], ℕ, All, List, map, inl, inr, sym, ap, subst, ◌∙◌, append_assoc, rules}
use Rattle.std.specs.Prelude.{Contains}
use Rattle.std.proofs.lemmas.List.{append-nil, map-append}
use Rattle.std.proofs.lemmas.List.Elements.{All-contains, All-weaker, Contains-push_cases}
use Rattle.std.proofs.lemmas.Result.{IfOk-weaker}
use Rattle.net_view.specs.Borrowed.{world_of}
use Rattle.task_board.specs.declared.leaf.Leaf.{Leaf}
use Rattle.ask_query.specs.Slots.{IsKnown, numbers_of}
use Rattle.ask_query.proofs.SlotLemmas.{right_as}
use Rattle.ask_query.proofs.gathering.answers_of_leaves.Goals as goal

pub loop-leaf-preserved : goal.loop-leaf-preserved
loop-leaf-preserved g c =
    let a = c.args.asked.now in
    let w = world_of a.net.now.world in
    let named = c.requires.named in
    let old = c.loop-leaf.known.items in
    let new = c.put_slot.new.known.items in
    let done : List (Leaf ℕ) = map (λ r. r.now) c.loop-leaf.yielded in
    let leaf : Leaf ℕ = c.in-Some.leaf.now in
    let more : map (λ r. r.now) (c.loop-leaf.yielded ++ c.in-Some.leaf ∷ []) ≡ done ++ leaf ∷ [] = map-append (λ r. r.now) c.loop-leaf.yielded (c.in-Some.leaf ∷ []) in
    let values : List ℕ = map (λ x. x.value) done in
    let more_values : map (λ x. x.value) (done ++ leaf ∷ []) ≡ values ++ leaf.value ∷ [] = map-append (λ x. x.value) done (leaf ∷ []) in
    record {
      done = ap (λ (ls : List (Leaf ℕ)). ls ++ c.next.new.self) more ∙ append_assoc done (leaf ∷ []) c.next.new.self ∙ ap (λ (ls : List (Leaf ℕ)). done ++ ls) (sym c.in-Some.ensures.steps) ∙ c.loop-leaf.invariant.done;
      count = c.put_slot.ensures.count ∙ c.loop-leaf.invariant.count;
      right = right_as g.K.Asking.world w g.K.Asking.ttl a.ttl g.K.Asking.questions a.questions.now new named.of_world named.of_ttl named.of_questions
          (c.put_slot.ensures.right (right_as w g.K.Asking.world a.ttl g.K.Asking.ttl a.questions.now g.K.Asking.questions old (sym named.of_world) (sym named.of_ttl) (sym named.of_questions) c.loop-leaf.invariant.right));
      put = λ k among. elim (Contains-push_cases values leaf.value k (subst (λ (xs : List ℕ). Contains xs k) more_values (subst (λ (ls : List (Leaf ℕ)). Contains (map (λ x. x.value) ls) k) more among))) [
        | inl before ↦ All-weaker (IsKnown old) (IsKnown new) c.put_slot.ensures.kept (numbers_of a.slots.now k) (c.loop-leaf.invariant.put k before)
        | inr here ↦ subst (λ (j : ℕ). All (IsKnown new) (numbers_of a.slots.now j)) here c.put_slot.ensures.put
      ];
    }

pub in_order-requires-clause-known : goal.in_order-requires-clause-known
in_order-requires-clause-known g c n l =
    let i = c.requires.each n l in
    let slots = c.args.asked.now.slots.now in
    let known = c.loop-leaf.known.items in
    let done : List (Leaf ℕ) = map (λ r. r.now) c.loop-leaf.yielded in
    let all : done ≡ c.args.leaves.now.items = sym (append-nil done) ∙ ap (λ (ls : List (Leaf ℕ)). done ++ ls) (sym c.in-None.ensures.steps.0) ∙ c.loop-leaf.invariant.done in
    let put = c.loop-leaf.invariant.put i.slot (subst (λ (ls : List (Leaf ℕ)). Contains (map (λ x. x.value) ls) i.slot) (sym all) (c.requires.leaves i.slot i.within)) in
    subst (λ ks. IsKnown ks n) (sym c.deref.ensures.value) (All-contains (IsKnown known) (numbers_of slots i.slot) n put i.among)

pub returns : goal.returns
returns g c = IfOk-weaker c.in_order.result _ _ (λ x made. search rules) c.in_order.ensures
