use Rattle.std.proofs.Common.{ℕ, ◌+◌, ◌-◌, ◌^◌, ◌<◌, ◌≤◌, ◌≡◌, Bool, true, false, cond, ◌==◌, if◌then◌else◌, List, [], ◌∷◌, ◌++◌, Option, Some, None, refl, sym, ap, ◌∙◌, subst, arith, bit_and, All, IfSome}
use Rattle.std.specs.Option.{option_to_list}
use Rattle.std.proofs.lemmas.List.Elements.{All-push}
use Rattle.std.proofs.lemmas.List.{append-nil}
use Rattle.hdr_bits.specs.CubeBits.{is_in}
use Rattle.canon_rows.specs.declared.Piece.{Piece}
use Rattle.canon_rows.specs.Pieces.{value_of, with_top}
use Rattle.canon_rows.proofs.HalfMasks.{twice_plus, test_star, test_low, test_high, test_low_not, test_high_not}
use Rattle.canon_rows.proofs.RowValues.{or_else}

-- what one piece gives
abbrev pub gives : ℕ → ℕ → ℕ → ℕ → Option ℕ
gives fixed bits value n = if bit_and n fixed == bits then Some value else None

pub gives_star : (high : Bool) (m n fixed bits value : ℕ) → n < 2 ^ m → fixed < 2 ^ m → gives fixed bits value n ≡ gives fixed bits value (with_top high m n)
gives_star true m n fixed bits value l k = ap (λ b. cond b (Some value) None) (sym (test_star m n fixed bits l k))
gives_star false m n fixed bits value l k = refl

pub gives_low : (m n fixed bits value : ℕ) → n < 2 ^ m → 2 ^ m ≤ fixed → fixed < 2 ^ (m + 1) → gives (fixed - 2 ^ m) bits value n ≡ gives fixed bits value n
gives_low m n fixed bits value l k h =
    let t = twice_plus m in
    let e : (fixed - 2 ^ m) + 2 ^ m ≡ fixed = omega arith in
    ap (λ b. cond b (Some value) None) (sym (test_low m n (fixed - 2 ^ m) bits l (omega (arith, t)))) ∙ ap (λ x. gives x bits value n) e

pub gives_high : (m n fixed bits value : ℕ) → n < 2 ^ m → 2 ^ m ≤ fixed → fixed < 2 ^ (m + 1) → 2 ^ m ≤ bits → gives (fixed - 2 ^ m) (bits - 2 ^ m) value n ≡ gives fixed bits value (n + 2 ^ m)
gives_high m n fixed bits value l k h i =
    let t = twice_plus m in
    let e : (fixed - 2 ^ m) + 2 ^ m ≡ fixed = omega arith in
    let f : (bits - 2 ^ m) + 2 ^ m ≡ bits = omega arith in
    ap (λ b. cond b (Some value) None) (sym (test_high m n (fixed - 2 ^ m) (bits - 2 ^ m) l (omega (arith, t)))) ∙ (ap (λ x. gives x ((bits - 2 ^ m) + 2 ^ m) value (n + 2 ^ m)) e ∙ ap (λ x. gives fixed x value (n + 2 ^ m)) f)

pub gives_low_not : (m n fixed bits value : ℕ) → n < 2 ^ m → 2 ^ m ≤ fixed → fixed < 2 ^ (m + 1) → 2 ^ m ≤ bits → None ≡ gives fixed bits value n
gives_low_not m n fixed bits value l k h i =
    let t = twice_plus m in
    let e : (fixed - 2 ^ m) + 2 ^ m ≡ fixed = omega arith in
    let f : (bits - 2 ^ m) + 2 ^ m ≡ bits = omega arith in
    ap (λ b. cond b (Some value) None) (sym (test_low_not m n (fixed - 2 ^ m) (bits - 2 ^ m) l (omega (arith, t)))) ∙ (ap (λ x. gives x ((bits - 2 ^ m) + 2 ^ m) value n) e ∙ ap (λ x. gives fixed x value n) f)

pub gives_high_not : (m n fixed bits value : ℕ) → n < 2 ^ m → 2 ^ m ≤ fixed → fixed < 2 ^ (m + 1) → bits < 2 ^ m → None ≡ gives fixed bits value (n + 2 ^ m)
gives_high_not m n fixed bits value l k h i =
    let t = twice_plus m in
    let e : (fixed - 2 ^ m) + 2 ^ m ≡ fixed = omega arith in
    ap (λ b. cond b (Some value) None) (sym (test_high_not m n (fixed - 2 ^ m) bits l (omega (arith, t)) i)) ∙ ap (λ x. gives x bits value (n + 2 ^ m)) e

or_else-cond : (b : Bool) (v : ℕ) (x y : Option ℕ) → or_else (cond b (Some v) x) y ≡ cond b (Some v) (or_else x y)
or_else-cond true v x y = refl
or_else-cond false v x y = refl

pub value_of-append : (xs ys : List Piece) (n : ℕ) → value_of (xs ++ ys) n ≡ or_else (value_of xs n) (value_of ys n)
value_of-append [] ys n = refl
value_of-append (x ∷ xs) ys n =
    ap (λ z. cond (is_in x.cube n) (Some x.value) z) (value_of-append xs ys n) ∙ sym (or_else-cond (is_in x.cube n) x.value (value_of xs n) (value_of ys n))

-- the items are the parts of the pieces that were taken
pub record ArePartsOf (high : Bool) (shift : ℕ) (taken items : List Piece) : Type 0 where
  pub within : All (λ p. p.cube.fixed < 2 ^ shift) items
  pub value : (n : ℕ) → n < 2 ^ shift → value_of items n ≡ value_of taken (with_top high shift n)

All-optional : (P : Piece → Type 0) (items : List Piece) (part : Option Piece) → All P items → IfSome part P → All P (items ++ option_to_list part)
All-optional P items None a b = subst (All P) (sym (append-nil items)) a
All-optional P items (Some q) a b = All-push P items q a b

pub parts_more : (high : Bool) (shift : ℕ) (taken items : List Piece) (p : Piece) (part : Option Piece) → ArePartsOf high shift taken items → IfSome part (λ q. q.cube.fixed < 2 ^ shift) → ((n : ℕ) → n < 2 ^ shift → value_of (option_to_list part) n ≡ value_of (p ∷ []) (with_top high shift n)) → ArePartsOf high shift (taken ++ p ∷ []) (items ++ option_to_list part)
parts_more high shift taken items p part h w v =
    record {
      within = All-optional (λ q. q.cube.fixed < 2 ^ shift) items part h.within w;
      value = λ n l. value_of-append items (option_to_list part) n ∙ (ap (λ x. or_else x (value_of (option_to_list part) n)) (h.value n l) ∙ (ap (λ y. or_else (value_of taken (with_top high shift n)) y) (v n l) ∙ sym (value_of-append taken (p ∷ []) (with_top high shift n))));
    }
