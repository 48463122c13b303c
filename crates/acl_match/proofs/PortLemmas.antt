use Rattle.std.proofs.Common.{ℕ, ◌≡◌, ◌<◌, ◌≤◌, ◌^◌, ◌+◌, ◌*◌, ◌%◌, ◌⊎◌, inl, inr, Bool, true, false, ◌&&◌, ◌||◌, nat_le, nat_lt, List, [], ◌∷◌, ◌++◌, take, get_or, length, Decides, refl, ap, sym, ◌∙◌, arith, true≢false, add-one}
use Rattle.std.specs.List.{list_any}
use Rattle.std.proofs.lemmas.Bool.{cases_lt}
use Rattle.std.proofs.lemmas.Bool.Decides.{same_from_decides, Decides-and, Decides-or, Decides-like, Decides-ltb, leb_tells}
use Rattle.std.proofs.lemmas.List.{append_assoc, append-nil, length-append, length-take-le}
use Rattle.std.proofs.lemmas.List.Folds.{list_any-append, list_any_more}
use Rattle.hdr_bits.specs.declared.cube.Cube.{Cube}
use Rattle.hdr_bits.specs.CubeBits.{is_in}
use Rattle.acl_match.specs.Cubes.{any_in, field}
use Rattle.std.proofs.Math.Nat.{pow-suc, one-le-pow, add-mul-mod_self_right}
use Rattle.std.proofs.lemmas.Nat.{mod-pow-add, one_shl}
use Rattle.acl_match.specs.declared.block.Block.{Block}
use Rattle.acl_match.specs.Ports.{in_block, IsFew, AddsBlocks}

or_false : (a : Bool) → (a || false) ≡ a
or_false true = refl
or_false false = refl

pub Decides-leb : (a b : ℕ) → Decides (nat_le a b) (a ≤ b)
Decides-leb a b =
    elim (leb_tells a b) [
      | inl q ↦ (λ _. q.1, λ _. q.0)
      | inr q ↦ (λ e. absurd (true≢false (sym e ∙ q.0)), λ l. absurd (omega (arith, q.1)))
    ]

within : (a b p : ℕ) → Decides (nat_le a p && nat_lt p b) ((a ≤ p) × (p < b))
within a b p = Decides-and (nat_le a p) (nat_lt p b) (Decides-leb a p) (Decides-ltb p b)

between : (a b p : ℕ) → Decides (nat_le a p && nat_le p b) ((a ≤ p) × (p ≤ b))
between a b p = Decides-and (nat_le a p) (nat_le p b) (Decides-leb a p) (Decides-leb p b)

both : (a b low high p : ℕ) → Decides ((nat_le a p && nat_lt p b) && (nat_le low p && nat_le p high)) (((a ≤ p) × (p < b)) × ((low ≤ p) × (p ≤ high)))
both a b low high p = Decides-and (nat_le a p && nat_lt p b) (nat_le low p && nat_le p high) (within a b p) (between low high p)

not_true : (b : Bool) → (b ≡ true → ⊥) → false ≡ b
not_true true f = absurd (f refl)
not_true false f = refl

-- a block outside the range, and one inside
pub outside : (a b low high p : ℕ) → (high < a) ⊎ (b ≤ low) → false ≡ ((nat_le a p && nat_lt p b) && (nat_le low p && nat_le p high))
outside a b low high p o =
    not_true _ (λ e. let q = (both a b low high p).0 e in elim o [
      | inl l ↦ absurd (omega (arith, q.0.0, q.1.1))
      | inr l ↦ absurd (omega (arith, q.0.1, q.1.0))
    ])

pub inside : (a b low high p : ℕ) → low ≤ a → b ≤ high + 1 → (nat_le a p && nat_lt p b) ≡ ((nat_le a p && nat_lt p b) && (nat_le low p && nat_le p high))
inside a b low high p l h =
    same_from_decides _ _ (within a b p) (Decides-like _ (λ q. q.0) (λ q. (q, (omega (arith, q.0), omega (arith, q.1)))) (both a b low high p))

either : (a b c low high p : ℕ) → a ≤ b → b ≤ c → ((((a ≤ p) × (p < b)) × ((low ≤ p) × (p ≤ high))) ⊎ (((b ≤ p) × (p < c)) × ((low ≤ p) × (p ≤ high)))) → (((a ≤ p) × (p < c)) × ((low ≤ p) × (p ≤ high)))
either a b c low high p l k (inl q) = ((q.0.0, omega (arith, q.0.1)), q.1)
either a b c low high p l k (inr q) = ((omega (arith, q.0.0), q.0.1), q.1)

pub halves : (a b c low high p : ℕ) → a ≤ b → b ≤ c → (((nat_le a p && nat_lt p b) && (nat_le low p && nat_le p high)) || ((nat_le b p && nat_lt p c) && (nat_le low p && nat_le p high))) ≡ ((nat_le a p && nat_lt p c) && (nat_le low p && nat_le p high))
halves a b c low high p l k =
    same_from_decides _ _ (Decides-like _ (λ s. either a b c low high p l k s) (λ q. elim (cases_lt p b) [
      | inl m ↦ inl ((q.0.0, m), q.1)
      | inr m ↦ inr ((m, q.0.1), q.1)
    ]) (Decides-or _ _ (both a b low high p) (both b c low high p))) (both a c low high p)

few_none : (low high first end width : ℕ) → (high < first) ⊎ (end ≤ low) → first < end → IsFew low high first end width 0
few_none low high first end width o l = record { before = λ _. refl; behind = λ _. refl; whole = λ _ _. omega arith; cut_low = λ _. omega arith; cut_high = λ _. omega arith; any = omega arith }

few_one : (low high first end width : ℕ) → low ≤ first → end ≤ high + 1 → first < end → IsFew low high first end width 1
few_one low high first end width l h k = record { before = λ p. absurd (omega arith); behind = λ p. absurd (omega arith); whole = λ _ _. omega arith; cut_low = λ _. omega arith; cut_high = λ _. omega arith; any = omega arith }

few_both : (low high first mid end m a b : ℕ) → first < mid → mid < end → (m ≡ 0 → (mid ≡ first + 1) × (end ≡ mid + 1)) → ((low ≤ first) × (end ≤ high + 1) → ⊥) → IsFew low high first mid m a → IsFew low high mid end m b → IsFew low high first end (m + 1) (a + b)
few_both low high first mid end m a b p q z n f g =
    record {
      before = λ h. let x = f.before h in let y = g.before (omega arith) in omega (arith, x, y);
      behind = λ h. let x = f.behind (omega arith) in let y = g.behind h in omega (arith, x, y);
      whole = λ h k. absurd (n (h, k));
      cut_low = λ h. elim (cases_lt low mid) [
        | inl l ↦ let x = f.cut_low (omega arith) in let y = g.whole (omega arith) h in elim (cases_lt 0 m) [
          | inl k ↦ omega (arith, x, y)
          | inr k ↦ let w = z (omega arith) in absurd (n (omega (arith, w.0), h))
        ]
        | inr l ↦ let x = f.behind l in let y = g.cut_low h in omega (arith, x, y)
      ];
      cut_high = λ h. elim (cases_lt high mid) [
        | inl l ↦ let x = f.cut_high h in let y = g.before l in omega (arith, x, y)
        | inr l ↦ let x = f.whole h (omega arith) in let y = g.cut_high (omega arith) in elim (cases_lt 0 m) [
          | inl k ↦ omega (arith, x, y)
          | inr k ↦ let w = z (omega arith) in absurd (n (h, omega (arith, w.0, w.1)))
        ]
      ];
      any = elim (cases_lt low mid) [
        | inl l ↦ elim (cases_lt high mid) [
          | inl k ↦ let x = f.any in let y = g.before k in omega (arith, x, y)
          | inr k ↦ let x = f.cut_low (omega arith) in let y = g.cut_high (omega arith) in elim (cases_lt 0 m) [
            | inl j ↦ omega (arith, x, y)
            | inr j ↦ let w = z (omega arith) in absurd (n (omega (arith, w.0), omega (arith, w.0, w.1)))
          ]
        ]
        | inr l ↦ let x = f.behind l in let y = g.any in omega (arith, x, y)
      ];
    }

twice_plus : (m : ℕ) → 2 ^ (m + 1) ≡ 2 ^ m + 2 ^ m
twice_plus m = rw add-one (omega (arith, pow-suc 2 m))

-- ---- the returns of the code
pub blocks_none : (low high : ℕ) (b : Block) (old : List Block) → (high < b.first) ⊎ (b.first + 2 ^ b.width ≤ low) → b.first < b.first + 2 ^ b.width → AddsBlocks low high b.first b.width old old
blocks_none low high b old o l =
    record { blocks = []; added = sym (append-nil old); exact = λ p. outside b.first (b.first + 2 ^ b.width) low high p o; few = few_none low high b.first (b.first + 2 ^ b.width) b.width o l }

pub blocks_one : (low high : ℕ) (b : Block) (old : List Block) → low ≤ b.first → b.first + 2 ^ b.width ≤ high + 1 → b.first < b.first + 2 ^ b.width → AddsBlocks low high b.first b.width old (old ++ b ∷ [])
blocks_one low high b old l h k =
    record { blocks = b ∷ []; added = refl; exact = λ p. or_false (in_block p b) ∙ inside b.first (b.first + 2 ^ b.width) low high p l h; few = few_one low high b.first (b.first + 2 ^ b.width) b.width l h k }

pub blocks_both : (low high : ℕ) (b : Block) (old mid new : List Block) (m other : ℕ) → b.width ≡ m + 1 → other ≡ b.first + 2 ^ m → ((low ≤ b.first) × (b.first + 2 ^ b.width ≤ high + 1) → ⊥) → AddsBlocks low high b.first m old mid → AddsBlocks low high other m mid new → AddsBlocks low high b.first b.width old new
blocks_both low high b old mid new m other ew fo n x y =
    let t : 2 ^ (m + 1) ≡ 2 ^ m + 2 ^ m = twice_plus m in
    let e : 2 ^ b.width ≡ 2 ^ m + 2 ^ m = ap (λ k. 2 ^ k) ew ∙ t in
    let pos : 0 < 2 ^ m = one-le-pow m 2 (omega arith) in
    let c : b.first + 2 ^ b.width ≡ (b.first + 2 ^ m) + 2 ^ m = omega arith in
    let f1 : IsFew low high b.first (b.first + 2 ^ m) m (length x.blocks) = x.few in
    let g1 : IsFew low high (b.first + 2 ^ m) ((b.first + 2 ^ m) + 2 ^ m) m (length y.blocks) = rw fo at y.few in
    let n1 : (low ≤ b.first) × ((b.first + 2 ^ m) + 2 ^ m ≤ high + 1) → ⊥ = λ q. n (q.0, omega (arith, q.1)) in
    let z1 : m ≡ 0 → (b.first + 2 ^ m ≡ b.first + 1) × ((b.first + 2 ^ m) + 2 ^ m ≡ (b.first + 2 ^ m) + 1) = λ k. let u : 2 ^ m ≡ 2 ^ 0 = ap (λ i. 2 ^ i) k in (omega (arith, u), omega (arith, u)) in
    let w = few_both low high b.first (b.first + 2 ^ m) ((b.first + 2 ^ m) + 2 ^ m) m (length x.blocks) (length y.blocks) (omega arith) (omega arith) z1 n1 f1 g1 in
    record {
      blocks = x.blocks ++ y.blocks;
      added = y.added ∙ (ap (λ s. s ++ y.blocks) x.added ∙ append_assoc old x.blocks y.blocks);
      exact = λ p. list_any-append (in_block p) x.blocks y.blocks ∙ (ap (λ s. s || list_any (in_block p) y.blocks) (x.exact p) ∙ (ap (λ s. ((nat_le b.first p && nat_lt p (b.first + 2 ^ m)) && (nat_le low p && nat_le p high)) || s) (rw fo at (y.exact p)) ∙ (halves b.first (b.first + 2 ^ m) ((b.first + 2 ^ m) + 2 ^ m) low high p (omega arith) (omega arith) ∙ ap (λ s. (nat_le b.first p && nat_lt p s) && (nat_le low p && nat_le p high)) (sym c))));
      few = rw (c, ew, length-append x.blocks y.blocks) w;
    }

pub aligned_low : (n m w : ℕ) → w ≡ 1 + m → n % 2 ^ w ≡ 0 → n % 2 ^ m ≡ 0
aligned_low n m w e a =
    let b : n % 2 ^ (1 + m) ≡ 0 = rw e at a in
    let p = mod-pow-add n 1 m in
    omega (arith, b, p)

pub aligned_high : (n m w : ℕ) → w ≡ 1 + m → n % 2 ^ w ≡ 0 → (n + 2 ^ m) % 2 ^ m ≡ 0
aligned_high n m w e a =
    let o : 1 * 2 ^ m ≡ 2 ^ m = omega arith in
    ap (λ t. (n + t) % 2 ^ m) (sym o) ∙ (add-mul-mod_self_right n 1 (2 ^ m) ∙ aligned_low n m w e a)

pub room_halves : (n m w : ℕ) → w ≡ 1 + m → n + 2 ^ w ≤ 2 ^ 16 → (n + 2 ^ m) + 2 ^ m ≤ 2 ^ 16
room_halves n m w e b =
    let t = twice_plus m in
    let c : n + 2 ^ (1 + m) ≤ 2 ^ 16 = rw e at b in
    let d : 2 ^ (1 + m) ≡ 2 ^ (m + 1) = ap (λ k. 2 ^ k) (omega arith) in
    omega (arith, c, d, t)

pub shl_small : (m : ℕ) → m < 17 → 1 * 2 ^ m % 2 ^ 32 ≡ 2 ^ m
shl_small m l = one_shl m 32 (omega arith)

pub pow_positive : (m : ℕ) → 0 < 2 ^ m
pow_positive m = one-le-pow m 2 (omega arith)

-- ---- the cubes of the blocks
pub record SaysBlocks (shift : ℕ) (blocks : List Block) (cubes : List Cube) : Type 0 where
  pub exact : (h : ℕ) → any_in cubes h ≡ list_any (in_block (field shift 16 h)) blocks
  pub many : length cubes ≡ length blocks

-- one more test is one more cube
pub any_more : {X : Type 0} (test : X → Bool) (xs : List X) (cubes : List Cube) (i : ℕ) (x : X) (c : Cube) (h : ℕ) → i < length xs → x ≡ get_or xs i x → is_in c h ≡ test x → any_in cubes h ≡ list_any test (take i xs) → any_in (cubes ++ c ∷ []) h ≡ list_any test (take (i + 1) xs)
any_more test xs cubes i x c h l e t a =
    let m : list_any test (take (i + 1) xs) ≡ (list_any test (take i xs) || test (get_or xs i x)) = list_any_more test xs i x l in
    list_any-append (λ d. is_in d h) cubes (c ∷ []) ∙ (ap (λ b. b || (is_in c h || false)) a ∙ (ap (λ b. list_any test (take i xs) || b) (or_false (is_in c h) ∙ (t ∙ ap test e)) ∙ sym m))

pub blocks_more : (shift : ℕ) (bs : List Block) (cubes : List Cube) (i : ℕ) (b : Block) (c : Cube) → i < length bs → b ≡ get_or bs i b → ((h : ℕ) → is_in c h ≡ in_block (field shift 16 h) b) → SaysBlocks shift (take i bs) cubes → SaysBlocks shift (take (i + 1) bs) (cubes ++ c ∷ [])
blocks_more shift bs cubes i b c l e t a =
    record {
      exact = λ h. any_more (in_block (field shift 16 h)) bs cubes i b c h l e (t h) (a.exact h);
      many = (let n = a.many in let p : length (take i bs) ≡ i = length-take-le i bs (omega arith) in let q : length (take (i + 1) bs) ≡ i + 1 = length-take-le (i + 1) bs (omega arith) in rw length-append (omega (arith, n, p, q)));
    }
