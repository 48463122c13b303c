-- A mask is read as its length.
use Rattle.std.proofs.Common.{◌≡◌, ℕ, zero, suc, ◌<◌, ◌≤◌, Bool, true, false, ◌&&◌, ◌==◌, refl, ap, ◌∙◌, arith}
use Rattle.std.specs.Prelude.{Option, Some, None, nat_lt}
use Rattle.std.proofs.lemmas.Bool.{eqb-true, ltb-true, eqb-false}
use Rattle.ios_words.specs.Words.{mask_of, mask_length_of}

abbrev is_some_of : ℕ → Option ℕ → Bool
is_some_of n None = false
is_some_of n (Some k) = k == n

abbrev is_right : ℕ → Bool
is_right n = is_some_of n (mask_length_of (mask_of n)) && nat_lt (mask_of n) 4294967296

below : (ℕ → Bool) → ℕ → Bool
below p zero = true
below p (suc k) = p k && below p k

both : (a b : Bool) → (a && b) ≡ true → (a ≡ true) × (b ≡ true)
both true true h = (refl, refl)
both true false h = absurd (cc)
both false b h = absurd (cc)

below_at : (p : ℕ → Bool) (k n : ℕ) → below p k ≡ true → n < k → p n ≡ true
unfolding below
below_at p zero n h b = absurd (omega (arith, b))
below_at p (suc k) n h b = (elim (n == k) as (λ t. (n == k) ≡ t → p n ≡ true) [
  | true ↦ λ e. ap p (eqb-true n k e) ∙ (both (p k) (below p k) h).0
  | false ↦ λ e. below_at p k n (both (p k) (below p k) h).1 (omega (arith, b, eqb-false n k e))
]) refl

lengths : below is_right 33 ≡ true
unfolding below
lengths = refl

some_of : (n : ℕ) (o : Option ℕ) → is_some_of n o ≡ true → o ≡ Some n
some_of n None h = absurd (cc)
some_of n (Some k) h = ap Some (eqb-true k n h)

right : (n : ℕ) → n ≤ 32 → is_right n ≡ true
right n h = below_at is_right 33 n lengths (omega (arith, h))

pub mask_back : (n : ℕ) → n ≤ 32 → mask_length_of (mask_of n) ≡ Some n
mask_back n h = some_of n (mask_length_of (mask_of n)) (both (is_some_of n (mask_length_of (mask_of n))) (nat_lt (mask_of n) 4294967296) (right n h)).0

pub mask_bound : (n : ℕ) → n ≤ 32 → mask_of n < 4294967296
mask_bound n h = ltb-true (mask_of n) 4294967296 (both (is_some_of n (mask_length_of (mask_of n))) (nat_lt (mask_of n) 4294967296) (right n h)).1
