-- The length of a prefix, from its mask.
use Rattle.std.proofs.Common.{◌≡◌, ℕ, zero, suc, ◌+◌, ◌-◌, ◌^◌, ◌<◌, ◌≤◌, ◌==◌, Bool, true, false, Some, None, cond, inl, inr, arith, refl, ap, sym, subst, ◌∙◌}
use Rattle.std.specs.List.{find, range_with_len}
use Rattle.std.specs.Int.{bit_at, trailing_zeros, w32}
use Rattle.std.proofs.lemmas.Bool.{eqb-true, eq-eqb, cases_order, false_from_ne_true}
use Rattle.std.proofs.lemmas.Nat.Bits.{bit_at-trailing_zeros, bit_at_mask_inside, bit_at_mask_below}
use Rattle.report_text.specs.FieldText.{prefix_mask, prefix_length}

-- two bits are one, where each is the lowest that is 1
settled : (t m x y : ℕ) → (t < m → x ≡ 0) → x ≡ 1 → (m < t → y ≡ 0) → y ≡ 1 → t ≡ m
settled t m x y below at above inside =
    elim (cases_order t m) [
      | inl e ↦ e
      | inr (inl l) ↦ (let zero : x ≡ 0 = below l in absurd (omega arith))
      | inr (inr l) ↦ (let zero : y ≡ 0 = above l in absurd (omega arith))
    ]

-- the lowest one of a prefix's mask
lowest : (n length : ℕ) → 0 < n → n < 2 ^ 32 → 0 < length → length < 32 → prefix_mask length ≡ n → trailing_zeros w32 n ≡ 32 - length
lowest n length some fits low high e =
    let t = bit_at-trailing_zeros w32 n some fits in
    let k : ℕ = 32 - length in
    let inside : bit_at n k ≡ 1 = ap (λ m. bit_at m k) (sym e) ∙ bit_at_mask_inside k 32 k (omega arith) (omega arith) in
    settled (trailing_zeros w32 n) k (bit_at n (trailing_zeros w32 n)) (bit_at n k)
    (λ h. ap (λ m. bit_at m (trailing_zeros w32 n)) (sym e) ∙ bit_at_mask_below k 32 (trailing_zeros w32 n) h)
    t.1 (t.2 k) inside

-- the first number of a range that passes
find_first : (p : ℕ → Bool) (a n i : ℕ) → a ≤ i → i < a + n → p i ≡ true → ((j : ℕ) → a ≤ j → j < i → p j ≡ false) → find p (range_with_len a n) ≡ Some i
find_first p a zero i low high passes fails = absurd (omega arith)
find_first p a (suc n) i low high passes fails =
    elim (cases_order a i) as (λ _. cond (p a) (Some a) (find p (range_with_len (a + 1) n)) ≡ Some i) [
      | inl e ↦ ap (λ b. cond b (Some a) (find p (range_with_len (a + 1) n))) (ap p e ∙ passes) ∙ ap Some e
      | inr (inl l) ↦ ap (λ b. cond b (Some a) (find p (range_with_len (a + 1) n))) (fails a (omega arith) l) ∙ find_first p (a + 1) n i (omega arith) (omega arith) passes (λ j h. fails j (omega arith))
      | inr (inr l) ↦ absurd (omega arith)
    ]

find_none : (p : ℕ → Bool) (a n : ℕ) → ((j : ℕ) → a ≤ j → j < a + n → p j ≡ false) → find p (range_with_len a n) ≡ None
find_none p a zero fails = refl
find_none p a (suc n) fails =
    ap (λ b. cond b (Some a) (find p (range_with_len (a + 1) n))) (fails a (omega arith) (omega arith))
    ∙ find_none p (a + 1) n (λ j low high. fails j (omega arith) (omega arith))

partial : (n k : ℕ) → n < 2 ^ 32 - 1 → n ≡ 2 ^ 32 - 2 ^ k → 0 < k
partial n zero fits e = absurd (omega arith)
partial n (suc k) fits e = omega arith

-- where the ones go down to the lowest one, that is the length
pub length_found : (n k : ℕ) → 0 < n → n < 2 ^ 32 - 1 → k ≡ trailing_zeros w32 n → n ≡ 2 ^ 32 - 2 ^ k → prefix_length n ≡ Some (32 - k)
unfolding prefix_length
length_found n k some fits is e =
    let t = bit_at-trailing_zeros w32 n some (omega arith) in
    let high : k < 32 = subst (λ x. x < 32) (sym is) t.0 in
    let low : 0 < k = partial n k fits e in
    let back : 32 - (32 - k) ≡ k = omega arith in
    find_first (λ length. prefix_mask length == n) 1 31 (32 - k) (omega arith) (omega arith)
    (eq-eqb _ _ (ap (λ x. 2 ^ 32 - 2 ^ x) back ∙ sym e))
    (λ j above below. false_from_ne_true _ (λ h. (let l : trailing_zeros w32 n ≡ 32 - j = lowest n j some (omega arith) (omega arith) (omega arith) (eqb-true _ _ h) in let m : k ≡ 32 - j = is ∙ l in absurd (omega arith))))

-- where they don't, there is none
pub length_missing : (n k : ℕ) → 0 < n → n < 2 ^ 32 → k ≡ trailing_zeros w32 n → (n ≡ 2 ^ 32 - 2 ^ k → ⊥) → prefix_length n ≡ None
unfolding prefix_length
length_missing n k some fits is fails =
    find_none (λ length. prefix_mask length == n) 1 31
    (λ j above below. false_from_ne_true _ (λ h. (let e : prefix_mask j ≡ n = eqb-true _ _ h in let l : k ≡ 32 - j = is ∙ lowest n j some fits (omega arith) (omega arith) e in fails (sym e ∙ ap (λ x. 2 ^ 32 - 2 ^ x) (sym l)))))
