use Rattle.std.proofs.Common.{ℕ, suc, ◌+◌, ◌-◌, ◌*◌, ◌^◌, ◌<◌, ◌≤◌, ◌≡◌, inl, inr, Bool, true, false, not, refl, sym, ap, ◌∙◌, subst, arith, bit_xor}
use Rattle.std.specs.Int.{bit_at}
use Rattle.std.proofs.lemmas.Bool.{cases_lt}
use Rattle.std.proofs.lemmas.Nat.{xor_block, xor_comm, pow_pos, pow_below}
use Rattle.std.proofs.lemmas.Nat.Bits.{bit_at_cat_low, bit_at_cat_high, bit_at_above}
use Rattle.hdr_bits.proofs.Masks.{AgreesFrom}
use Rattle.canon_rows.specs.Pieces.{with_top}
use Rattle.canon_rows.proofs.HalfMasks.{twice}

abbrev pub digit : Bool → ℕ
digit true = 1
digit false = 0

pub bit_below : (c : Bool) (m n i : ℕ) → i < m → bit_at (with_top c m n) i ≡ bit_at n i
bit_below true m n i l = let e : n + 2 ^ m ≡ 1 * 2 ^ m + n = omega arith in rw e (bit_at_cat_low 1 m n i l)
bit_below false m n i l = refl

pub bit_top : (c : Bool) (m n : ℕ) → n < 2 ^ m → bit_at (with_top c m n) m ≡ digit c
bit_top true m n l =
    let e : n + 2 ^ m ≡ 1 * 2 ^ m + n = omega arith in
    let z : m - m ≡ 0 = omega arith in
    rw e (bit_at_cat_high 1 m n m l (omega arith) ∙ ap (λ k. bit_at 1 k) z)
bit_top false m n l = bit_at_above n m m l (omega arith)

pub with_top_lt : (c : Bool) (m n : ℕ) → n < 2 ^ m → with_top c m n < 2 ^ suc m
with_top_lt true m n l = let t = twice m in omega (arith, t)
with_top_lt false m n l = let t = twice m in omega (arith, t)

pub xor_below : (c : Bool) (m n j : ℕ) → n < 2 ^ m → j < m → bit_xor (with_top c m n) (2 ^ j) ≡ with_top c m (bit_xor n (2 ^ j))
xor_below true m n j l k =
    let e : 1 * 2 ^ m + n ≡ n + 2 ^ m = omega arith in
    let f : 0 * 2 ^ m + 2 ^ j ≡ 2 ^ j = omega arith in
    let g : bit_xor (n + 2 ^ m) (2 ^ j) ≡ 1 * 2 ^ m + bit_xor n (2 ^ j) = rw (e, f) at (xor_block m 1 0 n (2 ^ j) l (pow_below j m k)) in
    omega (arith, g)
xor_below false m n j l k = refl

pub xor_top : (c : Bool) (m n : ℕ) → n < 2 ^ m → bit_xor (with_top c m n) (2 ^ m) ≡ with_top (not c) m n
xor_top true m n l =
    let e : 1 * 2 ^ m + n ≡ n + 2 ^ m = omega arith in
    let f : 1 * 2 ^ m + 0 ≡ 2 ^ m = omega arith in
    let z : bit_xor n 0 ≡ n = xor_comm n 0 in
    let g : bit_xor (n + 2 ^ m) (2 ^ m) ≡ 0 * 2 ^ m + bit_xor n 0 = rw (e, f) at (xor_block m 1 1 n 0 l (pow_pos m)) in
    omega (arith, g, z)
xor_top false m n l =
    let e : 0 * 2 ^ m + n ≡ n = omega arith in
    let f : 1 * 2 ^ m + 0 ≡ 2 ^ m = omega arith in
    let z : bit_xor n 0 ≡ n = xor_comm n 0 in
    let g : bit_xor n (2 ^ m) ≡ 1 * 2 ^ m + bit_xor n 0 = rw (e, f) at (xor_block m 0 1 n 0 l (pow_pos m)) in
    omega (arith, g, z)

-- a number of m + 1 bits is a digit and a number of m bits
pub by_digit : (m : ℕ) (P : ℕ → Type 0) → ((c : Bool) (n : ℕ) → n < 2 ^ m → P (with_top c m n)) → (n : ℕ) → n < 2 ^ suc m → P n
by_digit m P h n l =
    let t = twice m in
    elim (cases_lt n (2 ^ m)) [ inl k ↦ h false n k | inr k ↦ let e : (n - 2 ^ m) + 2 ^ m ≡ n = omega arith in subst P e (h true (n - 2 ^ m) (omega (arith, t))) ]

-- a bit below m + 1 is m or below m
pub by_shift : (m : ℕ) (P : ℕ → Type 0) → P m → ((j : ℕ) → j < m → P j) → (j : ℕ) → j < suc m → P j
by_shift m P top below j l =
    elim (cases_lt j m) [ inl k ↦ below j k | inr k ↦ let e : m ≡ j = omega arith in subst P e top ]

-- ---- agreement, one bit further
pub agrees_less : (m j fixed bits n : ℕ) → AgreesFrom (suc m) j fixed bits n → AgreesFrom m j fixed bits n
agrees_less m j fixed bits n a i k l f = a i k (omega arith) f

pub agrees_at_top : (m j fixed bits n : ℕ) → j ≤ m → AgreesFrom (suc m) j fixed bits n → bit_at fixed m ≡ 1 → bit_at n m ≡ bit_at bits m
agrees_at_top m j fixed bits n k a f = a m k (omega arith) f

pub agrees_more : (m j fixed bits n : ℕ) → AgreesFrom m j fixed bits n → (bit_at fixed m ≡ 1 → bit_at n m ≡ bit_at bits m) → AgreesFrom (suc m) j fixed bits n
agrees_more m j fixed bits n a top i k l =
    by_shift m (λ q. j ≤ q → bit_at fixed q ≡ 1 → bit_at n q ≡ bit_at bits q) (λ _. top) (λ q d e. a q e d) i l k

pub agrees_same : (m j fixed bits n fixed' bits' n' : ℕ) → ((i : ℕ) → i < m → bit_at fixed i ≡ bit_at fixed' i) → ((i : ℕ) → i < m → bit_at bits i ≡ bit_at bits' i) → ((i : ℕ) → i < m → bit_at n i ≡ bit_at n' i) → AgreesFrom m j fixed' bits' n' → AgreesFrom m j fixed bits n
agrees_same m j fixed bits n fixed' bits' n' p q r a i k l f =
    r i l ∙ (a i k l (sym (p i l) ∙ f) ∙ sym (q i l))
