-- Places that count from the least stand once each.
use Rattle.std.proofs.Common.{◌≡◌, ℕ, zero, suc, ◌+◌, ◌<◌, ◌≤◌, ◌⊎◌, List, [], ◌∷◌, ◌++◌, length, ap, refl, subst, ◌∙◌, ⊎_elim, inl, inr, arith}
use Rattle.steal_pool.specs.declared.rule.View.{View}
use Rattle.steal_pool.specs.declared.rule.Task.{Task}
use Rattle.steal_pool.specs.Paths.{total}
use Rattle.steal_pool.specs.Lane.{Numbered, IsLane, same, times}

same_self : (k : ℕ) → same k k ≡ 1
same_self zero = refl
same_self (suc k) = same_self k

same_apart : (i j : ℕ) → (i < j) ⊎ (j < i) → same i j ≡ 0
same_apart zero zero apart = ⊎_elim (λ l. absurd (omega (arith, l))) (λ l. absurd (omega (arith, l))) apart
same_apart zero (suc j) apart = refl
same_apart (suc i) zero apart = refl
same_apart (suc i) (suc j) apart = same_apart i j (⊎_elim (λ l. inl (omega (arith, l))) (λ l. inr (omega (arith, l))) apart)

meets : (j k : ℕ) → j ≤ k → (j ≡ k) ⊎ (j < k)
meets zero zero l = inl refl
meets zero (suc k) l = inr (omega arith)
meets (suc j) zero l = absurd (omega (arith, l))
meets (suc j) (suc k) l = ⊎_elim (λ e. inl (ap suc e)) (λ m. inr (omega (arith, m))) (meets j k (omega (arith, l)))

count : ℕ → List Task → ℕ
count k xs = total (λ (t : Task). same t.place k) xs

before : (j k : ℕ) (xs : List Task) → Numbered j xs → k < j → count k xs ≡ 0
unfolding count
before j k [] n l = refl
before j k (x ∷ xs) n l = let a = before (j + 1) k xs n.1 (omega (arith, l)) in let s = same_apart x.place k (inr (let e = n.0 in omega (arith, e, l))) in omega (arith, a, s)

after : (j k : ℕ) (xs : List Task) → Numbered j xs → j + length xs ≤ k → count k xs ≡ 0
unfolding count
after j k [] n l = refl
after j k (x ∷ xs) n l = let a = after (j + 1) k xs n.1 (omega (arith, l)) in let s = same_apart x.place k (inl (let e = n.0 in omega (arith, e, l))) in omega (arith, a, s)

within : (j k : ℕ) (xs : List Task) → Numbered j xs → j ≤ k → k < j + length xs → count k xs ≡ 1
unfolding count
within j k [] n low high = absurd (omega (arith, low, high))
within j k (x ∷ xs) n low high = ⊎_elim
    (λ e. let s = ap (λ i. same i k) (n.0 ∙ e) ∙ same_self k in let b = before (j + 1) k xs n.1 (omega (arith, e)) in omega (arith, s, b))
    (λ l. let s = same_apart x.place k (inl (let e = n.0 in omega (arith, e, l))) in let b = within (j + 1) k xs n.1 (omega (arith, l)) (omega (arith, high)) in omega (arith, s, b))
    (meets j k low)

numbered_front : (k : ℕ) (xs ys : List Task) → Numbered k (xs ++ ys) → Numbered k xs
numbered_front k [] ys n = tt
numbered_front k (x ∷ xs) ys n = (n.0, numbered_front (k + 1) xs ys n.1)

numbered_at : (k : ℕ) (xs : List Task) (t : Task) (ys : List Task) → Numbered k (xs ++ t ∷ ys) → t.place ≡ k + length xs
numbered_at k [] t ys n = let e = n.0 in omega (arith, e)
numbered_at k (x ∷ xs) t ys n = let e = numbered_at (k + 1) xs t ys n.1 in omega (arith, e)

gone_numbered : (items : List Task) (views : List View) (lane : IsLane items views) → Numbered 0 lane.gone
gone_numbered items views lane = numbered_front 0 lane.gone items (subst (Numbered 0) lane.order lane.places)

pub once : (items : List Task) (views : List View) (lane : IsLane items views) (k : ℕ) → k < length lane.gone → times k views ≡ 1
unfolding count
once items views lane k l = lane.seats (λ t. same t.place k) ∙ within 0 k lane.gone (gone_numbered items views lane) (omega arith) (omega (arith, l))

pub nothing_else : (items : List Task) (views : List View) (lane : IsLane items views) (k : ℕ) → length lane.gone ≤ k → times k views ≡ 0
unfolding count
nothing_else items views lane k l = lane.seats (λ t. same t.place k) ∙ after 0 k lane.gone (gone_numbered items views lane) (omega (arith, l))

pub least : (task : Task) (items : List Task) (views : List View) (lane : IsLane (task ∷ items) views) → task.place ≡ length lane.gone
least task items views lane = let e = numbered_at 0 lane.gone task items (subst (Numbered 0) lane.order lane.places) in omega (arith, e)
