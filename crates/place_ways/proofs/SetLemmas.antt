-- Sets of headers to which a function gives one value.
use Rattle.std.proofs.Common.{ℕ, ◌≡◌, ◌<◌, ◌↔◌, inl, inr, ◌==◌, true, false, if◌then◌else◌, Option, Some, None, IsSome, refl, ap, sym, ◌∙◌, subst, arith}
use Rattle.std.proofs.lemmas.Bool.{cases_eq}
use Rattle.std.proofs.lemmas.Bool.Decides.{nat_tests}
use Rattle.hdr_bits.specs.HeaderBits.{number}
use Rattle.cube_alg.specs.declared.stamp.Stamp.{Stamp}
use Rattle.cube_alg.specs.Stamps.{applied}
use Rattle.cube_diagram.specs.Functions.{Functions, Keeps, count_of, value_at}
use Rattle.cube_diagram.specs.Combined.{if_both}
use Rattle.cube_diagram.specs.Images.{if_value}
use Rattle.set_walk.specs.Sets.{InSet, IsSetOf}
pub use Rattle.set_walk.proofs.SetLemmas.{kept_set, keeps_then, keeps_same, kept_below, no_header, in_or_not}

no_value : IsSome {T = ℕ} None → ⊥
no_value e = cc

pub value_some : (v : ℕ) (x : Option ℕ) → IsSome (if_value v x) ↔ (x ≡ Some v)
value_some v None = (λ e. absurd (no_value e), λ e. absurd cc)
value_some v (Some u) =
    elim (cases_eq u v) [
      | inl s ↦ let t : (u == v) ≡ true = grind (arith, nat_tests, s) in (λ e. ap Some s, λ e. subst (λ b. IsSome {T = ℕ} (if b then Some 1 else None)) (sym t) refl)
      | inr n ↦ let t : (u == v) ≡ false = grind (arith, nat_tests, n) in (λ e. absurd (no_value (subst (λ b. IsSome {T = ℕ} (if b then Some 1 else None)) t e)), λ e. absurd (n (same_some u v e)))
    ]
  where
    same_some : (u v : ℕ) → Some u ≡ Some v → u ≡ v
    same_some u v e = cc

-- ---- those with one value
pub where_set : (d0 d1 d2 d3 : Functions) (f v m b given r : ℕ) (s : Stamp) → Keeps d0 d1 → Keeps d1 d2 → given < count_of d0 → ((h : ℕ) → value_at d1 m h ≡ if_value v (value_at d0 f h)) → IsSetOf d2 b (λ h. InSet d1 m (applied s h)) → IsSetOf d3 r (λ h. InSet d2 given h × InSet d2 b h) → IsSetOf d3 r (λ h. InSet d0 given h × (value_at d0 f (number (applied s h)) ≡ Some v))
where_set d0 d1 d2 d3 f v m b given r s k0 k1 l e p q h i =
    let n = number (applied s h) in
    let t = value_some v (value_at d0 f n) in
    let g = kept_set d0 d2 given h (keeps_then d0 d1 d2 k0 k1) l in (
      λ a. let c = (q h i).0 a in (g.0 c.0, t.0 (subst (λ x. IsSome x) (e n) ((p h i).0 c.1))),
      λ a. (q h i).1 (g.1 a.0, (p h i).1 (subst (λ x. IsSome x) (sym (e n)) (t.1 a.1))),
    )

pub where_plain : (d0 d1 d2 : Functions) (f v m given r : ℕ) → Keeps d0 d1 → given < count_of d0 → ((h : ℕ) → value_at d1 m h ≡ if_value v (value_at d0 f h)) → IsSetOf d2 r (λ h. InSet d1 given h × InSet d1 m h) → IsSetOf d2 r (λ h. InSet d0 given h × (value_at d0 f (number h) ≡ Some v))
where_plain d0 d1 d2 f v m given r k l e q h i =
    let t = value_some v (value_at d0 f (number h)) in
    let g = kept_set d0 d1 given h k l in (
      λ a. let c = (q h i).0 a in (g.0 c.0, t.0 (subst (λ x. IsSome x) (e (number h)) c.1)),
      λ a. (q h i).1 (g.1 a.0, subst (λ x. IsSome x) (sym (e (number h))) (t.1 a.1)),
    )

pub both_some : (v : ℕ) (x g : Option ℕ) → (if_both x g ≡ Some v) ↔ (IsSome g × (x ≡ Some v))
both_some v x None = (λ e. absurd cc, λ a. absurd (no_value a.0))
both_some v x (Some u) = (λ e. (refl, e), λ a. a.1)

-- left out of a list is what it says of headers that aren't given
pub where_part : (d0 d1 d2 : Functions) (f v part given r : ℕ) → ((h : ℕ) → value_at d1 part h ≡ if_both (value_at d0 f h) (value_at d0 given h)) → ((h : ℕ) → value_at d2 r h ≡ if_value v (value_at d1 part h)) → IsSetOf d2 r (λ h. InSet d0 given h × (value_at d0 f (number h) ≡ Some v))
where_part d0 d1 d2 f v part given r p e h i =
    let n = number h in
    let t = value_some v (value_at d1 part n) in
    let b = both_some v (value_at d0 f n) (value_at d0 given n) in (
      λ a. b.0 (sym (p n) ∙ t.0 (subst (λ x. IsSome x) (e n) a)),
      λ a. subst (λ x. IsSome x) (sym (e n)) (t.1 (p n ∙ b.1 a)),
    )
