-- What is had where more was added: of moves, of ways and of outcomes alike.
use Rattle.std.proofs.Common.{◌⊎◌, ◌↔◌, inl, inr}

pub both_ways : {A B C : Type 0} → A ↔ B → B ↔ C → A ↔ C
both_ways p q = (λ a. q.0 (p.0 a), λ c. p.1 (q.1 c))

-- one part behind the other
pub added_then : {A B C P Q : Type 0} → B ↔ (A ⊎ P) → C ↔ (B ⊎ Q) → C ↔ (A ⊎ (P ⊎ Q))
added_then p q = (
  λ x. elim (q.0 x) [
    | inl y ↦ elim (p.0 y) [ inl z ↦ inl z | inr z ↦ inr (inl z) ]
    | inr y ↦ inr (inr y)
  ],
  λ x. elim x [
    | inl y ↦ q.1 (inl (p.1 (inl y)))
    | inr y ↦ elim y [ inl z ↦ q.1 (inl (p.1 (inr z))) | inr z ↦ q.1 (inr z) ]
  ],
)

-- what was added, told otherwise
pub added_same : {A B P Q : Type 0} → B ↔ (A ⊎ P) → P ↔ Q → B ↔ (A ⊎ Q)
added_same p e = (
  λ x. elim (p.0 x) [ inl y ↦ inl y | inr y ↦ inr (e.0 y) ],
  λ x. elim x [ inl y ↦ p.1 (inl y) | inr y ↦ p.1 (inr (e.1 y)) ],
)

-- what was there before, told otherwise
pub added_from : {A B D P : Type 0} → B ↔ (A ⊎ P) → A ↔ D → B ↔ (D ⊎ P)
added_from p e = (
  λ x. elim (p.0 x) [ inl y ↦ inl (e.0 y) | inr y ↦ inr y ],
  λ x. elim x [ inl y ↦ p.1 (inl (e.1 y)) | inr y ↦ p.1 (inr y) ],
)

-- nothing was added
pub added_none : {A B P : Type 0} → B ↔ A → (P → ⊥) → B ↔ (A ⊎ P)
added_none e n = (λ x. inl (e.0 x), λ x. elim x [ inl y ↦ e.1 y | inr y ↦ absurd (n y) ])
