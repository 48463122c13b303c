-- What is open on a board weighs less after a settle whose parts have more fixed bits than their region.
use Rattle.std.proofs.Common.{ℕ, zero, suc, ◌+◌, ◌*◌, ◌≡◌, ◌<◌, ◌≤◌, inl, inr, List, [], ◌∷◌, map, length, get_or, Option, Some, None, IsSome, IsNone, All, refl, sym, ap, subst, arith}
use Rattle.std.proofs.lemmas.Bool.{cases_eq}
use Rattle.std.proofs.lemmas.Option.{none-some}
use Rattle.std.proofs.lemmas.List.{length-map}
use Rattle.std.proofs.lemmas.List.Elements.{All-head, All-tail}
use Rattle.hdr_bits.specs.declared.cube.Cube.{Cube}
use Rattle.hdr_bits.specs.CubeBits.{digit_at}
use Rattle.cube_alg.specs.declared.Region.{Region}
use Rattle.task_board.specs.declared.leaf.Part.{Part}
use Rattle.task_board.specs.Stands.{region_at, part_of, Reopens}
use Rattle.steal_pool.specs.Paths.{total}
use Rattle.steal_pool.specs.Work.{FixesMore}
use Rattle.steal_pool.specs.Pieces.{AreFiner}

-- ---- sums
-- the sum of the first n numbers
abbrev pub sum_to : ℕ → (ℕ → ℕ) → ℕ
sum_to zero f = 0
sum_to (suc n) f = f 0 + sum_to n (λ k. f (suc k))

-- the number v at place t, and 0 at each other
abbrev pub only_at : ℕ → ℕ → ℕ → ℕ
only_at zero v zero = v
only_at zero v (suc k) = 0
only_at (suc t) v zero = 0
only_at (suc t) v (suc k) = only_at t v k

sum_le : (n : ℕ) (f g : ℕ → ℕ) → ((k : ℕ) → k < n → f k ≤ g k) → sum_to n f ≤ sum_to n g
sum_le zero f g le = omega arith
sum_le (suc n) f g le = let a = le 0 (omega arith) in let b = sum_le n (λ k. f (suc k)) (λ k. g (suc k)) (λ k l. le (suc k) (omega arith)) in omega (arith, a, b)

sum_add : (n : ℕ) (f g : ℕ → ℕ) → sum_to n (λ k. f k + g k) ≡ sum_to n f + sum_to n g
sum_add zero f g = refl
sum_add (suc n) f g = let b = sum_add n (λ k. f (suc k)) (λ k. g (suc k)) in omega (arith, b)

sum_none : (n : ℕ) → sum_to n (λ k. 0) ≡ 0
sum_none zero = refl
sum_none (suc n) = let a = sum_none n in omega (arith, a)

sum_only : (n t v : ℕ) → t < n → sum_to n (only_at t v) ≡ v
sum_only zero t v l = absurd (omega arith)
sum_only (suc n) zero v l = let a = sum_none n in omega (arith, a)
sum_only (suc n) (suc t) v l = let a = sum_only n t v (omega arith) in omega (arith, a)

sum_only_le : (n t v : ℕ) → sum_to n (only_at t v) ≤ v
sum_only_le zero t v = omega arith
sum_only_le (suc n) zero v = let a = sum_none n in omega (arith, a)
sum_only_le (suc n) (suc t) v = let a = sum_only_le n t v in omega (arith, a)

only_here : (t v : ℕ) → only_at t v t ≡ v
only_here zero v = refl
only_here (suc t) v = only_here t v

only_else : (t v k : ℕ) → (k ≡ t → ⊥) → only_at t v k ≡ 0
only_else zero v zero n = absurd (n refl)
only_else zero v (suc k) n = refl
only_else (suc t) v zero n = refl
only_else (suc t) v (suc k) n = only_else t v k (λ e. n (ap suc e))

-- ---- the bits that a cube leaves open
abbrev one_if_none : Option ℕ → ℕ
one_if_none None = 1
one_if_none (Some b) = 0

abbrev star_count : Cube → ℕ → ℕ
star_count c k = one_if_none (digit_at c k)

unfoldable pub open_bits : Region → ℕ
open_bits r = sum_to 112 (star_count r.cube)

at_most_one : (a b : Option ℕ) → (IsNone a → IsNone b) → one_if_none a ≤ one_if_none b
at_most_one None None f = omega arith
at_most_one None (Some b) f = let n = f refl in absurd cc
at_most_one (Some a) None f = omega arith
at_most_one (Some a) (Some b) f = omega arith

one_more : (a b : Option ℕ) → IsNone b → IsSome a → one_if_none a + 1 ≤ one_if_none b
one_more None b n s = absurd cc
one_more (Some a) None n s = omega arith
one_more (Some a) (Some b) n s = absurd cc

fewer_by : (r s : Region) (n : ℕ) (f : FixesMore r s) → f.at < n → n ≤ 112 → sum_to n (star_count s.cube) + 1 ≤ sum_to n (star_count r.cube)
fewer_by r s n f l few =
    let a = sum_le n (λ k. star_count s.cube k + only_at f.at 1 k) (star_count r.cube) (λ k lt. each k (omega (arith, lt, few))) in
    let b = sum_add n (star_count s.cube) (only_at f.at 1) in
    let c = sum_only n f.at 1 l in
    omega (arith, a, b, c)
  where
    each : (k : ℕ) → k < 112 → star_count s.cube k + only_at f.at 1 k ≤ star_count r.cube k
    each k lt = elim (cases_eq k f.at) [
      | inl e ↦ let o = only_here f.at 1 in let m = one_more (digit_at s.cube f.at) (digit_at r.cube f.at) f.star f.digit in subst (λ i. star_count s.cube i + only_at f.at 1 i ≤ star_count r.cube i) (sym e) (omega (arith, o, m))
      | inr n ↦ let o = only_else f.at 1 k n in let m = at_most_one (digit_at s.cube k) (digit_at r.cube k) (f.others k lt) in omega (arith, o, m)
    ]

fewer_bits : (r s : Region) → FixesMore r s → open_bits s < open_bits r
unfolding open_bits
fewer_bits r s f = let a = fewer_by r s 112 f f.within (omega arith) in omega (arith, a)

-- ---- weights
-- a power of 257, which is more than the number of the parts of a settle
abbrev pub power : ℕ → ℕ
power zero = 1
power (suc n) = 257 * power n

power_one : (n : ℕ) → 1 ≤ power n
power_one zero = omega arith
power_one (suc n) = let a = power_one n in omega (arith, a)

power_le : (m n : ℕ) → m ≤ n → power m ≤ power n
power_le zero n l = power_one n
power_le (suc m) zero l = absurd (omega arith)
power_le (suc m) (suc n) l = let a = power_le m n (omega arith) in omega (arith, a)

abbrev pub weight : Region → ℕ
weight r = power (open_bits r)

abbrev pub slot_weight : Option Region → ℕ
slot_weight None = 0
slot_weight (Some r) = weight r

-- the weight of what is open
abbrev pub open_weight : List (Option Region) → ℕ
open_weight tickets = total slot_weight tickets

finer_weight : (r s : Region) → FixesMore r s → 257 * weight s ≤ weight r
finer_weight r s f = power_le (suc (open_bits s)) (open_bits r) (fewer_bits r s f)

finer_total : (r : Region) (rs : List Region) → All (FixesMore r) rs → 257 * total weight rs ≤ length rs * weight r
finer_total r [] all = omega arith
finer_total r (s ∷ rs) all =
    let a = finer_weight r s (All-head (FixesMore r) s rs all) in
    let b = finer_total r rs (All-tail (FixesMore r) s rs all) in
    let w = weight r in let t = total weight rs in
    sum_of (weight s) t w (length rs) a b
  where
    sum_of : (s t w n : ℕ) → 257 * s ≤ w → 257 * t ≤ n * w → 257 * (s + t) ≤ suc n * w
    sum_of s t w n a b = omega (arith, a, b)

few_weigh_less : (n t w : ℕ) → n ≤ 256 → 1 ≤ w → 257 * t ≤ n * w → t < w
few_weigh_less n t w few one le = let m = times_le n w 256 few in omega (arith, m, le, one)
  where
    times_le : (a w b : ℕ) → a ≤ b → a * w ≤ b * w
    times_le zero w b l = omega arith
    times_le (suc a) w zero l = absurd (omega arith)
    times_le (suc a) w (suc b) l = let i = times_le a w b (omega arith) in omega (arith, i)

-- ---- tickets
abbrev at_ticket : List (Option Region) → ℕ → ℕ
at_ticket ts k = slot_weight (region_at ts k)

none_at : (n : ℕ) → sum_to n (at_ticket []) ≡ 0
none_at zero = refl
none_at (suc n) = let a = none_at n in omega (arith, a)

sum_of_slots : (ts : List (Option Region)) (n : ℕ) → length ts ≤ n → open_weight ts ≡ sum_to n (at_ticket ts)
sum_of_slots [] n l = sym (none_at n)
sum_of_slots (t ∷ ts) zero l = absurd (omega arith)
sum_of_slots (t ∷ ts) (suc n) l = let a = sum_of_slots ts n (omega arith) in omega (arith, a)

-- the weights of the parts under their tickets
abbrev parts_at : List Part → ℕ → ℕ
parts_at [] k = 0
parts_at (p ∷ ps) k = only_at p.ticket (weight p.region) k + parts_at ps k

sum_of_parts : (n : ℕ) (ps : List Part) → sum_to n (parts_at ps) ≤ total weight (map (λ (p : Part). p.region) ps)
sum_of_parts n [] = let a = sum_none n in omega (arith, a)
sum_of_parts n (p ∷ ps) =
    let a = sum_add n (only_at p.ticket (weight p.region)) (parts_at ps) in
    let b = sum_only_le n p.ticket (weight p.region) in
    let c = sum_of_parts n ps in
    omega (arith, a, b, c)

part_counts : (ps : List Part) (r : Region) (k i : ℕ) → i < length ps → get_or ps i (part_of r k) ≡ part_of r k → weight r ≤ parts_at ps k
part_counts [] r k i l e = absurd (omega arith)
part_counts (p ∷ ps) r k zero l e = subst (λ (q : Part). weight r ≤ only_at q.ticket (weight q.region) k + parts_at ps k) (sym e) (let o = only_here k (weight r) in omega (arith, o))
part_counts (p ∷ ps) r k (suc i) l e = let a = part_counts ps r k i (omega arith) e in omega (arith, a)

is_below : (ts : List (Option Region)) (k : ℕ) (r : Region) → region_at ts k ≡ Some r → k < length ts
is_below [] k r e = absurd (none-some r e)
is_below (t ∷ ts) zero r e = omega arith
is_below (t ∷ ts) (suc k) r e = let a = is_below ts k r e in omega (arith, a)

-- at each ticket: what is open after is open before, or is a part, and what was closed isn't open
module _ (old new : List (Option Region)) (ticket : ℕ) (r : Region) (parts : List Part) (here : region_at old ticket ≡ Some r) (reopens : Reopens old new ticket parts) where
  between_le : (k : ℕ) → at_ticket reopens.between k + only_at ticket (weight r) k ≤ at_ticket old k
  between_le k = elim (cases_eq k ticket) [
    | inl e ↦ subst (λ i. at_ticket reopens.between i + only_at ticket (weight r) i ≤ at_ticket old i) (sym e)
        (let o = only_here ticket (weight r) in let a = ap slot_weight reopens.closes.closed in let b = ap slot_weight here in omega (arith, o, a, b))
    | inr n ↦ let o = only_else ticket (weight r) k n in let a = ap slot_weight (reopens.closes.others k n) in omega (arith, o, a)
  ]

  opened_le : (k : ℕ) (slot : Option Region) → region_at new k ≡ slot → at_ticket new k ≤ at_ticket reopens.between k + parts_at parts k
  opened_le k None e = let a = ap slot_weight e in omega (arith, a)
  opened_le k (Some s) e = let a = ap slot_weight e in elim (reopens.opens.only k s e) [
    | inl was ↦ let b = ap slot_weight was in omega (arith, a, b)
    | inr part ↦ let b = part_counts parts s k part.0 part.1 part.2 in omega (arith, a, b)
  ]

  -- what is open weighs less, where the parts are few and have more fixed bits than the region
  weighs_less : AreFiner r parts → length parts ≤ 256 → open_weight new < open_weight old
  weighs_less finer few =
      let n = length old + length new in
      let a = sum_of_slots old n (omega arith) in
      let b = sum_of_slots new n (omega arith) in
      let w = weight r in
      let each : (k : ℕ) → k < n → at_ticket new k + only_at ticket w k ≤ at_ticket old k + parts_at parts k = λ k lt. let x = between_le k in let y = opened_le k (region_at new k) refl in omega (arith, x, y) in
      let s = sum_le n (λ k. at_ticket new k + only_at ticket w k) (λ k. at_ticket old k + parts_at parts k) each in
      let p = sum_add n (at_ticket new) (only_at ticket w) in
      let q = sum_add n (at_ticket old) (parts_at parts) in
      let l = is_below old ticket r here in
      let o = sum_only n ticket w (omega (arith, l)) in
      let t = sum_of_parts n parts in
      let rs = map (λ (p : Part). p.region) parts in
      let m = length-map parts (λ (p : Part). p.region) in
      let f = finer_total r rs finer in
      let lighter = few_weigh_less (length rs) (total weight rs) w (omega (arith, m, few)) (power_one (open_bits r)) f in
      omega (arith, a, b, s, p, q, o, t, lighter)

  -- the parts have the regions of others that are few and finer
  pub weighs_less_as : (rest : List Part) → map (λ (p : Part). p.region) parts ≡ map (λ (p : Part). p.region) rest → AreFiner r rest → length rest ≤ 256 → open_weight new < open_weight old
  weighs_less_as rest same finer few =
      let a = length-map parts (λ (p : Part). p.region) in
      let b = length-map rest (λ (p : Part). p.region) in
      let e : length (map (λ (p : Part). p.region) parts) ≡ length (map (λ (p : Part). p.region) rest) = ap (λ (rs : List Region). length rs) same in
      weighs_less (subst (All (FixesMore r)) (sym same) finer) (omega (arith, a, b, e, few))
