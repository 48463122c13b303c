-- Shares of a whole as paths of 0 and 1, and what it is that paths make the whole.
use Rattle.std.specs.Prelude.{◌≡◌, ℕ, zero, suc, ◌+◌, Bool, true, false, List, [], ◌∷◌, ◌++◌}

-- false is 0 and true is 1
abbrev pub Path : Type 0
Path = List Bool

-- an endless word of 0 and 1
abbrev pub Word : Type 0
Word = ℕ → Bool

-- the sum over a list
abbrev pub total : {X : Type 0} → (X → ℕ) → List X → ℕ
total h [] = 0
total h (x ∷ xs) = h x + total h xs

-- the number where the two digits are the same, else 0
abbrev pub if_same : Bool → Bool → ℕ → ℕ
if_same true true n = n
if_same false false n = n
if_same true false n = 0
if_same false true n = 0

-- 1 where the word begins with the path, else 0
abbrev pub begins : Word → Path → ℕ
begins w [] = 1
begins w (b ∷ p) = if_same b (w 0) (begins (λ k. w (suc k)) p)

-- each word begins with exactly one of the paths
abbrev pub MakeWhole : List Path → Type 0
MakeWhole paths = (w : Word) → total (begins w) paths ≡ 1

-- the extensions of a path by so many digits, in order
unfoldable pub extensions : ℕ → Path → List Path
extensions zero p = p ∷ []
extensions (suc k) p = extensions k (p ++ false ∷ []) ++ extensions k (p ++ true ∷ [])

-- how many digits a path has at most
abbrev pub levels : ℕ
levels = 6
