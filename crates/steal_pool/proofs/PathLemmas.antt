-- A path weighs what its two extensions total, and so what its ends total. A path that no word begins with isn't there.
use Rattle.std.proofs.Common.{◌≡◌, ℕ, zero, suc, ◌+◌, Bool, true, false, List, [], ◌∷◌, ◌++◌, take, drop, refl, ap, ◌∙◌, arith}
use Rattle.steal_pool.specs.Paths.{Path, Word, total, if_same, begins, MakeWhole, extensions}

pub total_append : {X : Type 0} (h : X → ℕ) (xs ys : List X) → total h (xs ++ ys) ≡ total h xs + total h ys
total_append h [] ys = omega arith
total_append h (x ∷ xs) ys = let e = total_append h xs ys in omega (arith, e)

pub total_parts : {X : Type 0} (h : X → ℕ) (xs : List X) → total h (drop 1 xs) + total h (take 1 xs) ≡ total h xs
total_parts h [] = refl
total_parts h (x ∷ xs) = omega arith

same_sum : (b c : Bool) (m n : ℕ) → if_same b c (m + n) ≡ if_same b c m + if_same b c n
same_sum true true m n = refl
same_sum false false m n = refl
same_sum true false m n = refl
same_sum false true m n = refl

one_digit : (b : Bool) → 1 ≡ if_same false b 1 + if_same true b 1
one_digit true = refl
one_digit false = refl

pub halves : (w : Word) (p : Path) → begins w p ≡ begins w (p ++ false ∷ []) + begins w (p ++ true ∷ [])
halves w [] = one_digit (w 0)
halves w (b ∷ p) = let v : Word = λ k. w (suc k) in ap (if_same b (w 0)) (halves v p) ∙ same_sum b (w 0) (begins v (p ++ false ∷ [])) (begins v (p ++ true ∷ []))

pub ends : (w : Word) (k : ℕ) (p : Path) → total (begins w) (extensions k p) ≡ begins w p
unfolding extensions
ends w zero p = omega arith
ends w (suc k) p = let f = p ++ false ∷ [] in let t = p ++ true ∷ [] in
    let s = total_append (begins w) (extensions k f) (extensions k t) in let a = ends w k f in let b = ends w k t in let h = halves w p in omega (arith, s, a, b, h)

abbrev pub word : Path → Word
word [] k = false
word (b ∷ p) zero = b
word (b ∷ p) (suc k) = word p k

same_self : (b : Bool) (n : ℕ) → if_same b b n ≡ n
same_self true n = refl
same_self false n = refl

pub begins_own : (p : Path) → begins (word p) p ≡ 1
begins_own [] = refl
begins_own (b ∷ p) = same_self b (begins (word p) p) ∙ begins_own p

-- paths that no word begins with are no paths
pub no_paths : (ps : List Path) → ((w : Word) → total (begins w) ps ≡ 0) → ps ≡ []
no_paths [] none = refl
no_paths (p ∷ ps) none = let a = none (word p) in let b = begins_own p in absurd (omega (arith, a, b))

pub whole_first : MakeWhole ([] ∷ [])
whole_first w = refl

pub whole_split : (p : Path) (others : List Path) → MakeWhole (p ∷ others) → MakeWhole ((p ++ false ∷ []) ∷ (p ++ true ∷ []) ∷ others)
whole_split p others whole w = let a = whole w in let h = halves w p in omega (arith, a, h)

pub whole_order : (ps qs : List Path) → MakeWhole (ps ++ qs) → MakeWhole (qs ++ ps)
whole_order ps qs whole w = let a = whole w in let s = total_append (begins w) ps qs in let t = total_append (begins w) qs ps in omega (arith, a, s, t)

pub whole_all : (p : Path) (ps : List Path) → MakeWhole ps → MakeWhole (p ∷ ps) → ⊥
whole_all p ps whole more = let a = whole (word p) in let b = more (word p) in let o = begins_own p in absurd (omega (arith, a, b, o))
